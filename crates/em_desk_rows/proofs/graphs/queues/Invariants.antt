use Rattle.std.proofs.Common.{◌≡◌, ◌++◌, map, drop}
use Rattle.em_log.specs.Declarations.{queue_shape}
use Rattle.em_desk_rows.proofs.graphs.queues.Given as goal

abbrev pub invariant-loop-shape : goal.invariant-loop-shape
invariant-loop-shape l = map queue_shape l.queues ++ drop l.shape-index l.shapes ≡ l.shapes
