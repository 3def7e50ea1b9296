use Rattle.em_laws.proofs.BrokenHistories.{stop-acked}
use Rattle.em_laws.proofs.broken.early_acknowledgement.Goals as goal

pub returns : goal.returns
returns c = stop-acked
