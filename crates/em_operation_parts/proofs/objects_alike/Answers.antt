use Rattle.em_operation_parts.proofs.ObjectStates.{objects-alike}
use Rattle.em_operation_parts.proofs.objects_alike.Goals as goal

pub returns : goal.returns
returns c = λ k past. objects-alike k past
