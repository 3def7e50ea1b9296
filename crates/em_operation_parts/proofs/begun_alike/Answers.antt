use Rattle.em_operation_parts.proofs.BegunOperations.{begun-alike}
use Rattle.em_operation_parts.proofs.begun_alike.Goals as goal

pub returns : goal.returns
returns c = λ k l past all. begun-alike k l past all
