-- The numbers of cores, queues and events stay.
use Rattle.std.proofs.Common.{◌≡◌}
use Rattle.em_queues.specs.State.{shape}
use Rattle.parts_bench.proofs.queues.each.Given as goal

abbrev pub invariant-loop-index : goal.invariant-loop-index
invariant-loop-index l = shape l.queues ≡ shape l.initial.queues
