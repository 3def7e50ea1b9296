use Rattle.std.proofs.Common.{◌≡◌}
use Rattle.em_atomic.specs.State.{shape}
use Rattle.parts_bench.proofs.runs.atomic.Given as goal

abbrev pub invariant-loop-n : goal.invariant-loop-n
invariant-loop-n l = shape l.atomics ≡ shape l.initial.atomics
