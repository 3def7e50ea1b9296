use Rattle.em_operation_parts.proofs.Operations.{operations-alike}
use Rattle.em_operation_parts.proofs.operations_alike.Goals as goal

pub returns : goal.returns
returns c = λ k l past all. operations-alike k l past all
