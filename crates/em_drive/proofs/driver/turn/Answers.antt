use Rattle.std.proofs.Common.{Some, subst}
use Rattle.em_core.specs.declared.core_run.Step.{Step}
use Rattle.em_drive.specs.Driven.{IsDriven}
use Rattle.em_drive.proofs.driver.turn.Goals as goal

pub take-requires-clause-driven : goal.take-requires-clause-driven
take-requires-clause-driven g c =
    let d = c.requires.driven in
    (d.0, d.1, d.2, subst (λ (s : Step). IsDriven g.W.Work (Some s) d.0 d.1 d.2 c.args.pass.now c.next_step.new.run) c.in-Take.is (c.next_step.ensures.driven d.0 d.1 d.2 c.args.pass.now d.3))

pub ask-requires-clause-driven : goal.ask-requires-clause-driven
ask-requires-clause-driven g c =
    let d = c.requires.driven in
    (d.0, d.1, d.2, subst (λ (s : Step). IsDriven g.W.Work (Some s) d.0 d.1 d.2 c.args.pass.now c.next_step.new.run) c.in-Ask.is (c.next_step.ensures.driven d.0 d.1 d.2 c.args.pass.now d.3))

pub returns-in-Take-clause-after : goal.returns-in-Take-clause-after
returns-in-Take-clause-after g c f h l d =
    c.take.ensures.after f h l
    (subst (λ (s : Step). IsDriven g.W.Work (Some s) f h l c.args.pass.now c.next_step.new.run) c.in-Take.is (c.next_step.ensures.driven f h l c.args.pass.now d))

pub returns-in-Ask-clause-after : goal.returns-in-Ask-clause-after
returns-in-Ask-clause-after g c f h l d =
    c.ask.ensures.after f h l
    (subst (λ (s : Step). IsDriven g.W.Work (Some s) f h l c.args.pass.now c.next_step.new.run) c.in-Ask.is (c.next_step.ensures.driven f h l c.args.pass.now d))
