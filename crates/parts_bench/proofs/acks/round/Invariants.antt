-- The operations stand for some steps, of as many cores.
use Rattle.std.proofs.Common.{◌≡◌}
use Rattle.em_acks.specs.State.{core_count}
use Rattle.parts_bench.specs.Standing.{AreKnown}
use Rattle.parts_bench.proofs.acks.round.Given as goal

abbrev pub invariant-loop-eo : goal.invariant-loop-eo
invariant-loop-eo l = record { cores : core_count l.acks ≡ core_count l.fn.acks; known : AreKnown l.acks }

abbrev pub invariant-loop-step : goal.invariant-loop-step
invariant-loop-step l = record { cores : core_count l.acks ≡ core_count l.fn.acks; known : AreKnown l.acks }
