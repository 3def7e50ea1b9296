use Rattle.em_operation_parts.proofs.Targets.{targets-alike}
use Rattle.em_operation_parts.proofs.targets_alike.Goals as goal

pub returns : goal.returns
returns c = λ k l past all. targets-alike k l past all
