use Rattle.std.proofs.Common.{[], Some, refl, ap, ◌∙◌}
use Rattle.em_log.specs.declared.ask.Answer.{Answer}
use Rattle.em_log.specs.declared.ask.Ask.{Ask}
use Rattle.em_log.specs.declared.entry.What.{What}
use Rattle.em_log.specs.Handles.{held}
use Rattle.em_core.specs.declared.core_run.Step.{Step}
use Rattle.em_core.specs.FixedAsks.{dequeued, freed, shapes, one_started}
use Rattle.em_core.specs.Pieces.{history}
use Rattle.em_core.specs.Steps.{awaited, AreHandles, Grows}
use Rattle.em_core.proofs.FixedAsks.{holds, ready}
use Rattle.em_core.proofs.tests.frees.Goals as goal

handles : AreHandles (held (history 0 (dequeued)) 0) (Some (Step.Ask (Ask.Free 65537))) (Answer.Done)
handles = record { different = (refl, tt); among = (refl, tt); new = tt }

grows : Grows 0 (Some (Step.Ask (Ask.Free 65537))) (Answer.Done) (dequeued) (freed)
grows = record {
  entry = What.Free (record { 0 = 65537 });
  tail = [];
  is_lead = record { shapes = shapes; past = one_started; is = refl; answer = refl };
  follow = tt;
  is = refl;
}

pub told-requires-clause-handles : goal.told-requires-clause-handles
told-requires-clause-handles g c =
    holds g.W.Work c.requires.fixed c.next.new.self (dequeued) (Step.Ask (Ask.Free 65537)) c.reply.result.answer (Answer.Done)
    (c.next.ensures.stands 0 c.requires.fixed (dequeued) c.requires.stands)
    (c.next.ensures.unreplied ∙ ap awaited (c.in-Ask-Free-eq65537.is ∙ ap Step.Ask (c.in-Ask-Free-eq65537.field-0-is ∙ ap Ask.Free c.in-Ask-Free-eq65537.field-0-0-test))) (ap (λ r. r.answer) c.reply.ensures) handles

pub returns-in-Ask-Free-eq65537 : goal.returns-in-Ask-Free-eq65537
returns-in-Ask-Free-eq65537 g c is =
    ready g.W.Work c.requires.fixed c.next.new.self (dequeued) (Step.Ask (Ask.Free 65537)) c.reply.result.answer (Answer.Done) c.told.new.self (freed)
    (c.next.ensures.stands 0 c.requires.fixed (dequeued) c.requires.stands)
    (c.next.ensures.unreplied ∙ ap awaited (c.in-Ask-Free-eq65537.is ∙ ap Step.Ask (c.in-Ask-Free-eq65537.field-0-is ∙ ap Ask.Free c.in-Ask-Free-eq65537.field-0-0-test))) (ap (λ r. r.answer) c.reply.ensures) handles grows
    (c.told.ensures.stands 0 c.requires.fixed (dequeued) (freed)) c.told.ensures.unreplied
