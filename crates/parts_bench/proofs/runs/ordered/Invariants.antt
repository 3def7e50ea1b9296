use Rattle.std.proofs.Common.{◌≡◌}
use Rattle.em_order.specs.State.{shape}
use Rattle.parts_bench.proofs.runs.ordered.Given as goal

abbrev pub invariant-loop-n : goal.invariant-loop-n
invariant-loop-n l = shape l.orders ≡ shape l.initial.orders
