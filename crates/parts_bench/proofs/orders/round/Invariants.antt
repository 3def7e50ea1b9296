-- The numbers of cores, queues and events stay.
use Rattle.std.proofs.Common.{◌≡◌}
use Rattle.em_order.specs.State.{shape}
use Rattle.parts_bench.proofs.orders.round.Given as goal

abbrev pub invariant-loop-index : goal.invariant-loop-index
invariant-loop-index l = shape l.orders ≡ shape l.fn.orders

abbrev pub invariant-loop : goal.invariant-loop
invariant-loop l = shape l.orders ≡ shape l.fn.orders
