use Rattle.em_operation_parts.proofs.ObjectStates.{objects-untouched}
use Rattle.em_operation_parts.proofs.objects_untouched.Goals as goal

pub returns : goal.returns
returns c = λ past w steps is. objects-untouched past w steps is
