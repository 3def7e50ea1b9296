use Rattle.em_operations.proofs.BegunTargets.{begins-refused}
use Rattle.em_operations.proofs.begins_are_refused.Goals as goal

pub returns : goal.returns
returns c = begins-refused
