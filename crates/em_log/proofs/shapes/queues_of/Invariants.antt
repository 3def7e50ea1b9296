use Rattle.std.proofs.Common.{◌≡◌, map, take}
use Rattle.em_log.specs.Declarations.{queue_shape}
use Rattle.em_log.proofs.shapes.queues_of.Given as goal

abbrev pub invariant-loop-queue : goal.invariant-loop-queue
invariant-loop-queue l = l.shapes ≡ map queue_shape (take l.queue-index l.queue-items)
