use Rattle.std.proofs.Common.{◌+◌, ◌*◌, length}
use Rattle.em_drive.proofs.starts.+drive_in_threads+fn-drive_in_threads-scope.Given as goal

abbrev pub decreases-drive_in_threads : goal.decreases-drive_in_threads
decreases-drive_in_threads g l = 2 * length l.workers.items

abbrev pub decreases-scope : goal.decreases-scope
decreases-scope g l = 2 * length l.workers.items + 1
