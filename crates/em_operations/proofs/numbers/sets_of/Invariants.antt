use Rattle.std.proofs.Common.{◌≡◌, length}
use Rattle.em_operations.specs.QueueSets.{number_at, AreOf}
use Rattle.em_operations.proofs.numbers.sets_of.Given as goal

abbrev pub invariant-loop-number : goal.invariant-loop-number
invariant-loop-number l = (length l.sets.items ≡ l.number) × AreOf (number_at l.numbers) l.sets.items
