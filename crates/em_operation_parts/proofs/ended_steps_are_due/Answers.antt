use Rattle.em_operation_parts.proofs.DueEndings.{end-due}
use Rattle.em_operation_parts.proofs.ended_steps_are_due.Goals as goal

pub returns : goal.returns
returns c = λ k l past all core lost cells b failed lt entered e is. end-due k l past all core lost cells b failed lt entered e is
