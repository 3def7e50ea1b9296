use Rattle.em_operation_parts.proofs.PendingOperations.{pending-alike}
use Rattle.em_operation_parts.proofs.pending_alike.Goals as goal

pub returns : goal.returns
returns c = λ k l past lawful. pending-alike k l past lawful
