use Rattle.std.proofs.Common.{◌≡◌, length}
use Rattle.em_desk.specs.Choices.{AreAllowed}
use Rattle.em_desk.proofs.choices.allowed.Given as goal

abbrev pub invariant-loop-core : goal.invariant-loop-core
invariant-loop-core l = (length l.sets.items ≡ l.core) × AreAllowed l.declarations l.sets.items
