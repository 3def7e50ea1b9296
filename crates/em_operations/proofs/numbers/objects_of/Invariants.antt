use Rattle.std.proofs.Common.{◌≡◌, ◌++◌, drop, map}
use Rattle.em_operations.specs.QueueSets.{object_in}
use Rattle.em_operations.proofs.numbers.objects_of.Given as goal

abbrev pub invariant-loop-shape : goal.invariant-loop-shape
invariant-loop-shape l =
    (l.shape-items ≡ l.declarations.queues) × (l.objects.items ++ map object_in (drop l.shape-index l.shape-items) ≡ map object_in l.declarations.queues)
