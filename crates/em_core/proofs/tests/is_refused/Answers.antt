use Rattle.std.proofs.Common.{[], Some, None, refl, ap, ◌∙◌}
use Rattle.em_log.specs.declared.ask.Answer.{Answer}
use Rattle.em_log.specs.declared.ask.Ask.{Ask}
use Rattle.em_log.specs.declared.entry.What.{What}
use Rattle.em_log.specs.declared.fault.Call.{Call}
use Rattle.em_log.specs.declared.fault.Fault.{Fault}
use Rattle.em_log.specs.Handles.{held}
use Rattle.em_core.specs.declared.core_run.Step.{Step}
use Rattle.em_core.specs.FixedAsks.{claimed, refused, shapes}
use Rattle.em_core.specs.Pieces.{history}
use Rattle.em_core.specs.Steps.{awaited, AreHandles, Grows}
use Rattle.em_core.proofs.FixedAsks.{holds, ready}
use Rattle.em_core.proofs.tests.is_refused.Goals as goal

handles : AreHandles (held (history 0 (claimed)) 0) (Some (Step.Ask (Ask.Free 5))) (Answer.Refused (Fault.NeverMinted 5))
handles = record { different = tt; among = tt; new = tt }

grows : Grows 0 (Some (Step.Ask (Ask.Free 5))) (Answer.Refused (Fault.NeverMinted 5)) (claimed) (refused)
grows = record {
  entry = What.Fault Call.Free (Fault.NeverMinted 5) None;
  tail = [];
  is_lead = record { shapes = shapes; past = []; is = refl; answer = refl };
  follow = tt;
  is = refl;
}

pub told-requires-clause-handles : goal.told-requires-clause-handles
told-requires-clause-handles g c =
    holds g.W.Work c.requires.fixed c.next.new.self (claimed) (Step.Ask (Ask.Free 5)) c.reply.result.answer (Answer.Refused (Fault.NeverMinted 5))
    (c.next.ensures.stands 0 c.requires.fixed (claimed) c.requires.stands)
    (c.next.ensures.unreplied ∙ ap awaited (c.in-Ask-Free-eq5.is ∙ ap Step.Ask (c.in-Ask-Free-eq5.field-0-is ∙ ap Ask.Free c.in-Ask-Free-eq5.field-0-0-test))) (ap (λ r. r.answer) c.reply.ensures) handles

pub returns-in-Ask-Free-eq5 : goal.returns-in-Ask-Free-eq5
returns-in-Ask-Free-eq5 g c is =
    ready g.W.Work c.requires.fixed c.next.new.self (claimed) (Step.Ask (Ask.Free 5)) c.reply.result.answer (Answer.Refused (Fault.NeverMinted 5)) c.told.new.self (refused)
    (c.next.ensures.stands 0 c.requires.fixed (claimed) c.requires.stands)
    (c.next.ensures.unreplied ∙ ap awaited (c.in-Ask-Free-eq5.is ∙ ap Step.Ask (c.in-Ask-Free-eq5.field-0-is ∙ ap Ask.Free c.in-Ask-Free-eq5.field-0-0-test))) (ap (λ r. r.answer) c.reply.ensures) handles grows
    (c.told.ensures.stands 0 c.requires.fixed (claimed) (refused)) c.told.ensures.unreplied
