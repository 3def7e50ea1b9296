use Rattle.std.proofs.Common.{[], Some, None, refl, ap, ◌∙◌}
use Rattle.em_log.specs.declared.ask.Answer.{Answer}
use Rattle.em_log.specs.declared.ask.Ask.{Ask}
use Rattle.em_log.specs.declared.entry.What.{What}
use Rattle.em_log.specs.Handles.{held}
use Rattle.em_core.specs.declared.core_run.Step.{Step}
use Rattle.em_core.specs.FixedAsks.{freed, claimed, shapes}
use Rattle.em_core.specs.Pieces.{history}
use Rattle.em_core.specs.Steps.{awaited, AreHandles, Grows}
use Rattle.em_core.proofs.FixedAsks.{holds, ready}
use Rattle.em_core.proofs.tests.claims.Goals as goal

handles : AreHandles (held (history 0 (freed)) 0) (Some (Step.Ask Ask.Claim)) (Answer.Nothing)
handles = record { different = tt; among = tt; new = tt }

grows : Grows 0 (Some (Step.Ask Ask.Claim)) (Answer.Nothing) (freed) (claimed)
grows = record {
  entry = What.Claim None;
  tail = [];
  is_lead = record { shapes = shapes; past = []; is = refl; answer = refl };
  follow = tt;
  is = refl;
}

pub told-requires-clause-handles : goal.told-requires-clause-handles
told-requires-clause-handles g c =
    holds g.W.Work c.requires.fixed c.next.new.self (freed) (Step.Ask Ask.Claim) c.reply.result.answer (Answer.Nothing)
    (c.next.ensures.stands 0 c.requires.fixed (freed) c.requires.stands)
    (c.next.ensures.unreplied ∙ ap awaited (c.in-Ask-Claim.is ∙ ap Step.Ask c.in-Ask-Claim.field-0-is)) (ap (λ r. r.answer) c.reply.ensures) handles

pub returns-in-Ask-Claim : goal.returns-in-Ask-Claim
returns-in-Ask-Claim g c is =
    ready g.W.Work c.requires.fixed c.next.new.self (freed) (Step.Ask Ask.Claim) c.reply.result.answer (Answer.Nothing) c.told.new.self (claimed)
    (c.next.ensures.stands 0 c.requires.fixed (freed) c.requires.stands)
    (c.next.ensures.unreplied ∙ ap awaited (c.in-Ask-Claim.is ∙ ap Step.Ask c.in-Ask-Claim.field-0-is)) (ap (λ r. r.answer) c.reply.ensures) handles grows
    (c.told.ensures.stands 0 c.requires.fixed (freed) (claimed)) c.told.ensures.unreplied
