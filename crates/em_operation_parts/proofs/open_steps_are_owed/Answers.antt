use Rattle.em_operation_parts.proofs.OpenSteps.{open-owed_at}
use Rattle.em_operation_parts.proofs.open_steps_are_owed.Goals as goal

pub returns : goal.returns
returns c = λ k l past all v stands cores core b r lt entered is. open-owed_at k l past all v stands cores core b r lt entered is
