use Rattle.std.proofs.Common.{◌≡◌, ◌+◌, drop}
use Rattle.em_log.specs.Declarations.{event_total}
use Rattle.em_desk.proofs.shapes.event_count.Given as goal

abbrev pub invariant-loop-pool : goal.invariant-loop-pool
invariant-loop-pool l = l.events + event_total (drop l.pool-index l.pool-items) ≡ event_total l.declarations.pools
