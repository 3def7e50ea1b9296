use Rattle.em_operation_parts.proofs.Refusals.{refusals-alike}
use Rattle.em_operation_parts.proofs.refusals_alike.Goals as goal

pub returns : goal.returns
returns c = λ k l past lawful. refusals-alike k l past lawful
