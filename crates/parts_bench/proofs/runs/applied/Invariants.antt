use Rattle.std.proofs.Common.{◌≡◌, ◌*◌, length}
use Rattle.parts_bench.specs.Standing.{HadFew}
use Rattle.parts_bench.proofs.runs.applied.Given as goal

abbrev pub invariant-loop-n : goal.invariant-loop-n
invariant-loop-n l = record { count : length l.groups ≡ length l.initial.groups; few : HadFew l.groups (2 * l.n) }
