use Rattle.em_laws.proofs.BrokenHistories.{sends-twice}
use Rattle.em_laws.proofs.broken.sent_twice.Goals as goal

pub returns : goal.returns
returns c = sends-twice
