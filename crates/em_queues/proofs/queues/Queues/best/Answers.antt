use Rattle.std.proofs.Common.{◌∙◌, sym, arith}
use Rattle.em_queues.proofs.BestQueues.{none-more, none-ready, best-found}
use Rattle.em_queues.proofs.queues.Queues.best.Goals as goal

pub loop-step-init : goal.loop-step-init
loop-step-init c = λ r q few above. absurd (omega arith)

pub returns-then-is_some : goal.returns-then-is_some
returns-then-is_some c = λ k s stands.
    best-found stands c.args.core.0 c.requires c.args.may.now c.loop-step.step c.first_of_rank-found.result c.loop-step-test.true c.loop-step.invariant
    c.first_of_rank-found.ensures (sym c.is_some.ensures ∙ c.if-is_some.true)

pub loop-step-preserved : goal.loop-step-preserved
loop-step-preserved c =
    none-more c.args.self.now c.args.core.0 c.args.may.now c.loop-step.step c.first_of_rank-found.result c.loop-step-test.true c.loop-step.invariant c.first_of_rank-found.ensures
    (sym c.is_some.ensures ∙ c.if-is_some.false)

pub returns : goal.returns
returns c = λ k s stands. none-ready stands c.args.core.0 c.requires c.args.may.now c.loop-step.step c.loop-step.invariant (omega arith)
