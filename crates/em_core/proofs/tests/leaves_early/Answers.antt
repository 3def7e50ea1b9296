use Rattle.std.proofs.Common.{[], Some, refl, ap, ◌∙◌}
use Rattle.em_log.specs.declared.ask.Answer.{Answer}
use Rattle.em_log.specs.declared.ask.Ask.{Ask}
use Rattle.em_log.specs.declared.entry.What.{What}
use Rattle.em_log.specs.declared.ids.Cells.{Cells}
use Rattle.em_log.specs.Handles.{held}
use Rattle.em_core.specs.declared.core_run.Step.{Step}
use Rattle.em_core.specs.FixedAsks.{refused, left_early, shapes, one_started}
use Rattle.em_core.specs.Pieces.{history}
use Rattle.em_core.specs.Steps.{awaited, AreHandles, Grows}
use Rattle.em_core.proofs.FixedAsks.{holds, ready}
use Rattle.em_core.proofs.tests.leaves_early.Goals as goal

handles : (cells : Cells) → AreHandles (held (history 0 refused) 0) (Some (Step.Ask (Ask.EndAtomic cells))) Answer.Done
handles cells = record { different = tt; among = tt; new = tt }

grows : (cells : Cells) → Grows 0 (Some (Step.Ask (Ask.EndAtomic cells))) Answer.Done refused (left_early cells)
grows cells = record {
  entry = What.EndAtomic 0 cells;
  tail = [];
  is_lead = record { shapes = shapes; past = one_started; is = refl; answer = refl };
  follow = tt;
  is = refl;
}

pub told-requires-clause-handles : goal.told-requires-clause-handles
told-requires-clause-handles g c =
    holds g.W.Work c.requires.fixed c.next.new.self refused (Step.Ask (Ask.EndAtomic c.in-Ask-EndAtomic.cells)) c.reply.result.answer Answer.Done
    (c.next.ensures.stands 0 c.requires.fixed refused c.requires.stands)
    (c.next.ensures.unreplied ∙ ap awaited (c.in-Ask-EndAtomic.is ∙ ap Step.Ask c.in-Ask-EndAtomic.field-0-is)) (ap (λ r. r.answer) c.reply.ensures) (handles c.in-Ask-EndAtomic.cells)

pub returns-in-Ask-EndAtomic : goal.returns-in-Ask-EndAtomic
returns-in-Ask-EndAtomic g c is = (
  left_early c.in-Ask-EndAtomic.cells,
  ready g.W.Work c.requires.fixed c.next.new.self refused (Step.Ask (Ask.EndAtomic c.in-Ask-EndAtomic.cells)) c.reply.result.answer Answer.Done c.told.new.self (left_early c.in-Ask-EndAtomic.cells)
      (c.next.ensures.stands 0 c.requires.fixed refused c.requires.stands)
      (c.next.ensures.unreplied ∙ ap awaited (c.in-Ask-EndAtomic.is ∙ ap Step.Ask c.in-Ask-EndAtomic.field-0-is)) (ap (λ r. r.answer) c.reply.ensures) (handles c.in-Ask-EndAtomic.cells) (grows c.in-Ask-EndAtomic.cells)
      (c.told.ensures.stands 0 c.requires.fixed refused (left_early c.in-Ask-EndAtomic.cells)) c.told.ensures.unreplied,
)
