use Rattle.std.proofs.Common.{◌≡◌, length}
use Rattle.em_operations.specs.QueueSets.{AreRebarred}
use Rattle.em_operations.proofs.queue_sets.rebar.Given as goal

abbrev pub invariant-loop-core : goal.invariant-loop-core
invariant-loop-core l =
    (length l.barred.items ≡ length l.fn.barred.items)
    × AreRebarred l.core l.fn.barred.items l.queues l.mask.0 l.barred.items
