use Rattle.em_operation_parts.proofs.DueEndings.{change-due}
use Rattle.em_operation_parts.proofs.owed_changes_are_due.Goals as goal

pub returns : goal.returns
returns c = λ k l past all core op is. change-due k l past all core op is
