use Rattle.std.proofs.Common.{◌≡◌}
use Rattle.em_groups.specs.State.{shape}
use Rattle.parts_bench.specs.Standing.{AreSettled}
use Rattle.parts_bench.proofs.runs.grouped.Given as goal

abbrev pub invariant-loop-n : goal.invariant-loop-n
invariant-loop-n l = record { shape : shape l.groups ≡ shape l.initial.groups; settled : AreSettled l.groups }
