use Rattle.std.proofs.Common.{◌+◌, ◌*◌, ◌-◌}
use Rattle.turn_bench.proofs.turns.+fn-take_in_threads-join+arg2+take_in_threads.Given as goal

abbrev pub decreases-take_in_threads : goal.decreases-take_in_threads
decreases-take_in_threads g l = 2 * (l.threads - l.next) + 1

abbrev pub decreases-join+arg2 : goal.decreases-join+arg2
decreases-join+arg2 g l = 2 * (l.threads - l.next)
