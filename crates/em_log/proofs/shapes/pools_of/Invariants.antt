use Rattle.std.proofs.Common.{◌≡◌, map, take}
use Rattle.em_log.specs.Declarations.{pool_shape}
use Rattle.em_log.proofs.shapes.pools_of.Given as goal

abbrev pub invariant-loop-pool : goal.invariant-loop-pool
invariant-loop-pool l = l.shapes ≡ map pool_shape (take l.pool-index l.pool-items)
