use Rattle.em_operations.proofs.Kept.{operations-kept}
use Rattle.em_operations.proofs.operations_kept.Goals as goal

pub returns : goal.returns
returns c = operations-kept
