-- The numbers of cores, queues and events stay.
use Rattle.std.proofs.Common.{◌≡◌}
use Rattle.em_queues.specs.State.{shape}
use Rattle.parts_bench.proofs.timed.Given as goal

abbrev pub invariant-loop : goal.invariant-loop
invariant-loop l = shape l.queues ≡ shape l.initial.queues

abbrev pub invariant-loop-timed : goal.invariant-loop-timed
invariant-loop-timed l = shape l.queues ≡ shape l.initial.queues
