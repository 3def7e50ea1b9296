use Rattle.std.proofs.Common.{◌≡◌, length}
use Rattle.parts_bench.proofs.graphs.with_objects.Given as goal

abbrev pub invariant-loop-eo : goal.invariant-loop-eo
invariant-loop-eo l = record { objects : length l.objects ≡ l.eo; queues : length l.queues ≡ l.eo }
