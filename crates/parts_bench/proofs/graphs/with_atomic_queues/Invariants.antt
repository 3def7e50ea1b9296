use Rattle.std.proofs.Common.{◌≡◌, map}
use Rattle.em_log.specs.Declarations.{queue_shape, lone_count}
use Rattle.parts_bench.proofs.graphs.with_atomic_queues.Given as goal

abbrev pub invariant-loop : goal.invariant-loop
invariant-loop l = lone_count (map queue_shape l.queues) ≡ l.counter
