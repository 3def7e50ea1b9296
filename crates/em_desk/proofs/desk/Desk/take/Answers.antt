use Rattle.std.proofs.Common.{◌≡◌, sym, subst}
use Rattle.em_log.specs.declared.ask.Answer.{Answer}
use Rattle.em_log.specs.declared.ask.Reply.{Reply}
use Rattle.em_log.specs.Answers.{Takes}
use Rattle.em_desk.specs.State.{IsWaited}
use Rattle.em_desk.proofs.desk.Desk.take.Goals as goal

pub returns-clause-takes : goal.returns-clause-takes
returns-clause-takes c =
    let d = c.args.self.now in
    subst (λ (r : Reply). Takes d.declarations d.limits d.halted d.past c.args.core.0 r.answer c.take_brief.new.self.past)
    (sym c.into_reply.ensures) c.in_ok-brief.ensures.takes

pub returns-clause-idle : goal.returns-clause-idle
returns-clause-idle c =
    let d = c.args.self.now in
    subst (λ (r : Reply). r.answer ≡ Answer.Idle → IsWaited d.declarations d.limits d.past c.args.core.0)
    (sym c.into_reply.ensures) c.in_ok-brief.ensures.idle
