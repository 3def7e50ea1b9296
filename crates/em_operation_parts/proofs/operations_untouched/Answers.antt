use Rattle.em_operation_parts.proofs.OperationSteps.{operations-untouched}
use Rattle.em_operation_parts.proofs.operations_untouched.Goals as goal

pub returns : goal.returns
returns c = λ core w steps is. operations-untouched core w steps is
