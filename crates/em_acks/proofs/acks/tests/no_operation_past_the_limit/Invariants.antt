use Rattle.std.proofs.Common.{◌≡◌}
use Rattle.em_acks.specs.State.{core_count}
use Rattle.em_acks.proofs.acks.tests.no_operation_past_the_limit.Given as goal

abbrev pub invariant-loop-op : goal.invariant-loop-op
invariant-loop-op g l = core_count l.acks ≡ 1
