use Rattle.std.proofs.Common.{[], ◌∷◌, Some, List, Option, refl, ap, ◌∙◌}
use Rattle.em_log.specs.declared.ask.Answer.{Answer}
use Rattle.em_log.specs.declared.ask.Ask.{Ask}
use Rattle.em_log.specs.declared.entry.What.{What}
use Rattle.em_log.specs.declared.ids.Cells.{Cells}
use Rattle.em_log.specs.Handles.{held}
use Rattle.em_core.specs.declared.core_run.Step.{Step}
use Rattle.em_core.specs.FixedAsks.{shapes}
use Rattle.em_core.specs.Pieces.{Piece, history}
use Rattle.em_core.specs.Steps.{awaited, AreHandles, Grows}
use Rattle.em_core.proofs.FixedAsks.{ready}
use Rattle.em_core.proofs.tests.ends.Goals as goal

-- after any list
ended_after : Option Cells → List Piece → List Piece
ended_after cells m = Piece.Answered (What.End 0 cells) [] (Ask.End cells) Answer.Done ∷ m

handles : (cells : Option Cells) (m : List Piece) → AreHandles (held (history 0 m) 0) (Some (Step.Ask (Ask.End cells))) Answer.Done
handles cells m = record { different = tt; among = tt; new = tt }

grows : (cells : Option Cells) (m : List Piece) → Grows 0 (Some (Step.Ask (Ask.End cells))) Answer.Done m (ended_after cells m)
unfolding ended_after
grows cells m = record {
  entry = What.End 0 cells;
  tail = [];
  is_lead = record { shapes = shapes; past = []; is = refl; answer = refl };
  follow = tt;
  is = refl;
}

pub returns-in-Ask-End : goal.returns-in-Ask-End
returns-in-Ask-End g c is =
    let m = c.requires.0 in
    let was = c.requires.1 in
    let n = ended_after c.in-Ask-End.cells m in (
      n,
      ready g.W.Work was.fixed c.next.new.self m (Step.Ask (Ask.End c.in-Ask-End.cells)) c.reply.result.answer Answer.Done c.told.new.self n
          (c.next.ensures.stands 0 was.fixed m was.stands)
          (c.next.ensures.unreplied ∙ ap awaited (c.in-Ask-End.is ∙ ap Step.Ask c.in-Ask-End.field-0-is)) (ap (λ r. r.answer) c.reply.ensures)
          (handles c.in-Ask-End.cells m) (grows c.in-Ask-End.cells m) (c.told.ensures.stands 0 was.fixed m n) c.told.ensures.unreplied,
    )
