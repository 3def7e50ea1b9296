use Rattle.std.proofs.Common.{[], Some, refl, ap, ◌∙◌}
use Rattle.em_log.specs.declared.ask.Answer.{Answer}
use Rattle.em_log.specs.Handles.{held}
use Rattle.em_core.specs.declared.core_run.Step.{Step}
use Rattle.em_core.specs.FixedAsks.{receive_of, received}
use Rattle.em_core.specs.Pieces.{history}
use Rattle.em_core.specs.Steps.{awaited, AreHandles, Grows}
use Rattle.em_core.proofs.FixedAsks.{holds, ready}
use Rattle.em_core.proofs.tests.receives.Goals as goal

handles : AreHandles (held (history 0 ([])) 0) (Some (Step.Take)) (Answer.Context (receive_of 0))
handles = record { different = tt; among = tt; new = tt }

grows : Grows 0 (Some (Step.Take)) (Answer.Context (receive_of 0)) ([]) (received)
grows = refl

pub told-requires-clause-handles : goal.told-requires-clause-handles
told-requires-clause-handles g c =
    holds g.W.Work c.requires.fixed c.next.new.self ([]) (Step.Take) c.reply.result.answer (Answer.Context (receive_of 0))
    (c.next.ensures.stands 0 c.requires.fixed ([]) c.requires.stands)
    (c.next.ensures.unreplied ∙ ap awaited (c.in-Take.is)) (rw c.receive.ensures at (ap (λ r. r.answer) c.reply.ensures)) handles

pub returns-in-Take : goal.returns-in-Take
returns-in-Take g c is =
    ready g.W.Work c.requires.fixed c.next.new.self ([]) (Step.Take) c.reply.result.answer (Answer.Context (receive_of 0)) c.told.new.self (received)
    (c.next.ensures.stands 0 c.requires.fixed ([]) c.requires.stands)
    (c.next.ensures.unreplied ∙ ap awaited (c.in-Take.is)) (rw c.receive.ensures at (ap (λ r. r.answer) c.reply.ensures)) handles grows
    (c.told.ensures.stands 0 c.requires.fixed ([]) (received)) c.told.ensures.unreplied
