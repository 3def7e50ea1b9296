use Rattle.std.proofs.Common.{◌≡◌, length}
use Rattle.parts_bench.proofs.graphs.with_groups.Given as goal

abbrev pub invariant-loop : goal.invariant-loop
invariant-loop l = length l.groups ≡ l.counter
