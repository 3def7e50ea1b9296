use Rattle.em_laws.proofs.BrokenHistories.{sends-unminted}
use Rattle.em_laws.proofs.broken.sent_unminted.Goals as goal

pub returns : goal.returns
returns c = sends-unminted
