use Rattle.std.proofs.Common.{◌≡◌, ◌+◌, drop}
use Rattle.em_log.specs.Declarations.{event_total}
use Rattle.em_pool.proofs.shapes.total.Given as goal

abbrev pub invariant-loop-pool : goal.invariant-loop-pool
invariant-loop-pool l = l.total + event_total (drop l.pool-index l.pools) ≡ event_total l.pools
