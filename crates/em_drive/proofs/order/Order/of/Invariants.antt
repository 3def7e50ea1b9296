use Rattle.std.proofs.Common.{◌≡◌, ◌++◌, take, not, nat_lt}
use Rattle.std.specs.List.{filter}
use Rattle.em_log.specs.Declarations.{below}
use Rattle.em_log.specs.History.{has}
use Rattle.em_drive.proofs.order.Order.of.Given as goal

abbrev pub invariant-loop-core : goal.invariant-loop-core
invariant-loop-core l = l.order-inside.cores.items ≡ filter (λ c. nat_lt c l.cores) (take l.core-index l.list)

abbrev pub invariant-loop-core-2 : goal.invariant-loop-core-2
invariant-loop-core-2 l = l.order-inside.cores.items ≡ filter (λ c. nat_lt c l.cores) l.list ++ filter (λ c. not (has l.list c)) (below l.core)
