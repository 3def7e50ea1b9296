use Rattle.em_laws.proofs.BrokenHistories.{notifies-twice}
use Rattle.em_laws.proofs.broken.second_notify.Goals as goal

pub returns : goal.returns
returns c = notifies-twice
