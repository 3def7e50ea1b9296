use Rattle.em_operation_parts.proofs.Endings.{change-told}
use Rattle.em_operation_parts.proofs.changes_are_told.Goals as goal

pub returns : goal.returns
returns c = λ k past core op. change-told k past core op
