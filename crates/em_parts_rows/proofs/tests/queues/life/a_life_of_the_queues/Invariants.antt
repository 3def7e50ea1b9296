-- The numbers of cores, queues and events stay.
use Rattle.std.proofs.Common.{◌≡◌}
use Rattle.em_queues.specs.State.{shape}
use Rattle.em_parts_rows.proofs.tests.queues.life.a_life_of_the_queues.Given as goal

abbrev pub invariant-loop-call : goal.invariant-loop-call
invariant-loop-call g l = shape l.queues ≡ shape l.initial.queues
