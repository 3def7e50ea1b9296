use Rattle.std.proofs.Common.{Some, inl, subst}
use Rattle.em_core.specs.declared.core_run.Step.{Step}
use Rattle.em_drive.specs.Going.{IsAwaiting}
use Rattle.em_drive.proofs.run.turn.Goals as goal

pub take-requires : goal.take-requires
take-requires g c =
    let w = c.requires in
    (w.0, w.1, subst (λ (s : Step). IsAwaiting (Some s) w.0 w.1 c.args.desk.now c.args.core.0 c.next_step.new.run) c.in-Take.is (c.next_step.ensures.awaited w.0 w.1 c.args.desk.now c.args.core.0 w.2))

pub ask-requires : goal.ask-requires
ask-requires g c =
    let w = c.requires in
    (w.0, w.1, subst (λ (s : Step). IsAwaiting (Some s) w.0 w.1 c.args.desk.now c.args.core.0 c.next_step.new.run) c.in-Ask.is (c.next_step.ensures.awaited w.0 w.1 c.args.desk.now c.args.core.0 w.2))

pub returns-in-Ask-clause-after : goal.returns-in-Ask-clause-after
returns-in-Ask-clause-after g c h l w =
    c.ask.ensures.after h l
    (subst (λ (s : Step). IsAwaiting (Some s) h l c.args.desk.now c.args.core.0 c.next_step.new.run) c.in-Ask.is (c.next_step.ensures.awaited h l c.args.desk.now c.args.core.0 w))

pub returns-in-Ask-clause-turned : goal.returns-in-Ask-clause-turned
returns-in-Ask-clause-turned g c h l w none = inl c.ask.ensures.turned

pub returns-in-Take-clause-turned : goal.returns-in-Take-clause-turned
returns-in-Take-clause-turned g c h l w = c.take.ensures.turned h l (subst (λ (s : Step). IsAwaiting (Some s) h l c.args.desk.now c.args.core.0 c.next_step.new.run) c.in-Take.is (c.next_step.ensures.awaited h l c.args.desk.now c.args.core.0 w))
