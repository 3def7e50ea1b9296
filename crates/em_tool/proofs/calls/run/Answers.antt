use Rattle.std.proofs.Common.{ℕ, List, sym, subst, ◌∙◌}
use Rattle.em_log.specs.Laws.{AreDifferent}
use Rattle.em_tool.proofs.Ending.{runs-of}
use Rattle.em_tool.proofs.Orders.{AreDifferent-order}
use Rattle.em_tool.proofs.calls.run.Goals as goal

pub of-order-requires-clause-different : goal.of-order-requires-clause-different
of-order-requires-clause-different g c =
    subst (λ (l : List ℕ). AreDifferent l) (sym c.as_slice.ensures) (AreDifferent-order c.args.asked.now.order c.requires.known.1.order)

pub solo-requires-clause-servable : goal.solo-requires-clause-servable
solo-requires-clause-servable g c = c.is_runnable.ensures.servable c.requires.well_formed c.if-not-is_runnable.false

pub returns-in-Ok : goal.returns-in-Ok
returns-in-Ok g c = runs-of c.args.graph.now c.args.asked.now.limits c.in-Ok.desk c.in-Ok.end (sym c.is_runnable.ensures.value ∙ c.if-not-is_runnable.false) c.in-Ok.ensures
