-- The numbers of cores, queues and events stay.
use Rattle.std.proofs.Common.{◌≡◌}
use Rattle.em_order.specs.State.{shape}
use Rattle.em_parts_rows.proofs.tests.orders.random.four_thousand_calls_answer_as_plain_lists.Given as goal

abbrev pub invariant-loop : goal.invariant-loop
invariant-loop g l = shape l.orders ≡ shape l.initial.orders
