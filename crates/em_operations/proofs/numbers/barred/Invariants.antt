use Rattle.std.proofs.Common.{◌≡◌, length}
use Rattle.em_operations.specs.QueueSets.{AreDeclaredBarred}
use Rattle.em_operations.proofs.numbers.barred.Given as goal

abbrev pub invariant-loop-core : goal.invariant-loop-core
invariant-loop-core l = (length l.sets.items ≡ l.core) × AreDeclaredBarred l.declarations l.groups l.sets.items
