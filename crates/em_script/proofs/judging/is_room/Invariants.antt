use Rattle.std.proofs.Common.{◌≡◌, ◌≤◌, ◌+◌, ◌*◌, take, map}
use Rattle.em_log.specs.Declarations.{pool_shape, event_total}
use Rattle.em_script.proofs.judging.is_room.Given as goal

abbrev pub invariant-loop-pool : goal.invariant-loop-pool
invariant-loop-pool l = record {
  sum : l.total ≡ event_total (map pool_shape (take l.pool-index l.pools)) + l.events;
  small : l.total ≤ 65535 * (l.pool-index + 1);
}
