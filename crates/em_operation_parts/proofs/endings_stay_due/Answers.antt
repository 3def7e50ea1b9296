use Rattle.em_operation_parts.proofs.DueEndings.{next-due}
use Rattle.em_operation_parts.proofs.endings_stay_due.Goals as goal

pub returns : goal.returns
returns c = λ k l past all core e f lt due is. next-due k l past all core e f lt due is
