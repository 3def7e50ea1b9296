use Rattle.std.proofs.Common.{◌≡◌, length}
use Rattle.em_acks.specs.Sets.{AreMarked}
use Rattle.em_acks.proofs.owed.mark.Given as goal

abbrev pub invariant-loop-core : goal.invariant-loop-core
invariant-loop-core l =
    (length l.owed.items ≡ length l.fn.owed.items)
    × AreMarked l.core l.fn.owed.items l.op.0 l.operation l.owed.items
