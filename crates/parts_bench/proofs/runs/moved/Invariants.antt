use Rattle.std.proofs.Common.{◌≡◌}
use Rattle.em_objects.specs.State.{shape}
use Rattle.parts_bench.proofs.runs.moved.Given as goal

abbrev pub invariant-loop-n : goal.invariant-loop-n
invariant-loop-n l = shape l.objects ≡ shape l.initial.objects
