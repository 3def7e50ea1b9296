use Rattle.std.proofs.Common.{◌+◌, ◌*◌, length}
use Rattle.em_board_rows.proofs.threads.+fn-work_in_threads-join+arg3+work_in_threads.Given as goal

abbrev pub decreases-join+arg3 : goal.decreases-join+arg3
decreases-join+arg3 g l = 2 * length l.passes + 2

abbrev pub decreases-work_in_threads : goal.decreases-work_in_threads
decreases-work_in_threads g l = 2 * length l.passes + 1
