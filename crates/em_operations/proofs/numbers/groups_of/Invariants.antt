use Rattle.std.proofs.Common.{◌≡◌, ◌++◌, drop, map}
use Rattle.em_log.specs.Declarations.{group_in}
use Rattle.em_operations.proofs.numbers.groups_of.Given as goal

abbrev pub invariant-loop-shape : goal.invariant-loop-shape
invariant-loop-shape l =
    (l.shape-items ≡ l.declarations.queues)
    × (l.groups.items ++ map (group_in l.declarations) (drop l.shape-index l.shape-items) ≡ map (group_in l.declarations) l.declarations.queues)
