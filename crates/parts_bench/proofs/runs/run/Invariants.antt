use Rattle.std.proofs.Common.{◌≡◌}
use Rattle.em_acks.specs.State.{core_count}
use Rattle.parts_bench.specs.Standing.{AreKnown}
use Rattle.parts_bench.proofs.runs.run.Given as goal

abbrev pub invariant-loop : goal.invariant-loop
invariant-loop l = record { cores : core_count l.acks ≡ 2; known : AreKnown l.acks }
