use Rattle.std.proofs.Common.{◌≡◌, ◌-◌, ◌++◌, replicate, true, false}
use Rattle.em_pool.proofs.indices.IndexSet.full.Given as goal

abbrev pub invariant-loop-index : goal.invariant-loop-index
invariant-loop-index l = l.set ≡ replicate l.index true ++ replicate (l.size - l.index) false
