use Rattle.std.proofs.Common.{[], ◌∷◌, None, Some, List, refl, ap, ◌∙◌}
use Rattle.em_log.specs.declared.ask.Answer.{Answer}
use Rattle.em_log.specs.declared.ask.Ask.{Ask}
use Rattle.em_log.specs.declared.entry.What.{What}
use Rattle.em_log.specs.declared.fault.Call.{Call}
use Rattle.em_log.specs.declared.fault.Fault.{Fault}
use Rattle.em_log.specs.Handles.{held}
use Rattle.em_core.specs.declared.core_run.Step.{Step}
use Rattle.em_core.specs.FixedAsks.{shapes}
use Rattle.em_core.specs.Pieces.{Piece, history}
use Rattle.em_core.specs.Steps.{awaited, AreHandles, Grows}
use Rattle.em_core.proofs.FixedAsks.{ready}
use Rattle.em_core.proofs.tests.writes_no_cell.Goals as goal

-- after any list
refused_after : List Piece → List Piece
refused_after m = Piece.Answered (What.Fault Call.Cell Fault.NotAtomic None) [] Ask.Cell (Answer.Refused Fault.NotAtomic) ∷ m

handles : (m : List Piece) → AreHandles (held (history 0 m) 0) (Some (Step.Ask Ask.Cell)) (Answer.Refused Fault.NotAtomic)
handles m = record { different = tt; among = tt; new = tt }

grows : (m : List Piece) → Grows 0 (Some (Step.Ask Ask.Cell)) (Answer.Refused Fault.NotAtomic) m (refused_after m)
unfolding refused_after
grows m = record {
  entry = What.Fault Call.Cell Fault.NotAtomic None;
  tail = [];
  is_lead = record { shapes = shapes; past = []; is = refl; answer = refl };
  follow = tt;
  is = refl;
}

pub returns-in-Ask-Cell : goal.returns-in-Ask-Cell
returns-in-Ask-Cell g c is =
    let m = c.requires.0 in
    let was = c.requires.1 in (
      refused_after m,
      ready g.W.Work was.fixed c.next.new.self m (Step.Ask Ask.Cell) c.reply.result.answer (Answer.Refused Fault.NotAtomic) c.told.new.self (refused_after m)
          (c.next.ensures.stands 0 was.fixed m was.stands)
          (c.next.ensures.unreplied ∙ ap awaited (c.in-Ask-Cell.is ∙ ap Step.Ask c.in-Ask-Cell.field-0-is)) (ap (λ r. r.answer) c.reply.ensures) (handles m) (grows m)
          (c.told.ensures.stands 0 was.fixed m (refused_after m)) c.told.ensures.unreplied,
    )
