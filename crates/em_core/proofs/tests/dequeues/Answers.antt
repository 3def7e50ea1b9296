use Rattle.std.proofs.Common.{ℕ, [], Some, refl, ap, ◌∙◌}
use Rattle.em_log.specs.declared.ask.Answer.{Answer}
use Rattle.em_log.specs.declared.ask.Ask.{Ask}
use Rattle.em_log.specs.declared.entry.What.{What}
use Rattle.em_log.specs.Handles.{held}
use Rattle.em_core.specs.declared.core_run.Step.{Step}
use Rattle.em_core.specs.FixedAsks.{event_at, received, dequeued, shapes, one_waits}
use Rattle.em_core.specs.Pieces.{history}
use Rattle.em_core.specs.Steps.{awaited, AreHandles, Grows}
use Rattle.em_core.proofs.FixedAsks.{holds, ready}
use Rattle.em_core.proofs.tests.dequeues.Goals as goal

handles : AreHandles (held (history 0 (received)) 0) (Some (Step.Ask (Ask.Dequeue (record { 0 = 1 })))) (Answer.Minted (event_at 131072 3))
handles = record { different = tt; among = tt; new = (refl, tt) }

grows : Grows 0 (Some (Step.Ask (Ask.Dequeue (record { 0 = 1 })))) (Answer.Minted (event_at 131072 3)) (received) (dequeued)
grows = record {
  entry = What.Dequeue (record { 0 = 1 }) (Some (event_at 131072 3));
  tail = [];
  is_lead = record { shapes = shapes; past = one_waits; is = refl; answer = refl };
  follow = tt;
  is = refl;
}

pub told-requires-clause-handles : goal.told-requires-clause-handles
told-requires-clause-handles g c =
    holds g.W.Work c.requires.fixed c.next.new.self (received) (Step.Ask (Ask.Dequeue (record { 0 = 1 }))) c.reply.result.answer (Answer.Minted (event_at 131072 3))
    (c.next.ensures.stands 0 c.requires.fixed (received) c.requires.stands)
    (c.next.ensures.unreplied ∙ ap awaited (c.in-Ask-Dequeue.is ∙ ap Step.Ask (c.in-Ask-Dequeue.field-0-is ∙ ap (λ (n : ℕ). Ask.Dequeue (record { 0 = n })) c.if-queue-eq1.true))) (ap (λ r. r.answer) c.reply.ensures ∙ ap Answer.Minted c.event.ensures) handles

pub returns-in-Ask-Dequeue : goal.returns-in-Ask-Dequeue
returns-in-Ask-Dequeue g c is =
    ready g.W.Work c.requires.fixed c.next.new.self (received) (Step.Ask (Ask.Dequeue (record { 0 = 1 }))) c.reply.result.answer (Answer.Minted (event_at 131072 3)) c.told.new.self (dequeued)
    (c.next.ensures.stands 0 c.requires.fixed (received) c.requires.stands)
    (c.next.ensures.unreplied ∙ ap awaited (c.in-Ask-Dequeue.is ∙ ap Step.Ask (c.in-Ask-Dequeue.field-0-is ∙ ap (λ (n : ℕ). Ask.Dequeue (record { 0 = n })) c.if-queue-eq1.true))) (ap (λ r. r.answer) c.reply.ensures ∙ ap Answer.Minted c.event.ensures) handles grows
    (c.told.ensures.stands 0 c.requires.fixed (received) (dequeued)) c.told.ensures.unreplied
