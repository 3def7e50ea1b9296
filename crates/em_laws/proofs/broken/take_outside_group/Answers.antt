use Rattle.em_laws.proofs.BrokenHistories.{excluded-takes}
use Rattle.em_laws.proofs.broken.take_outside_group.Goals as goal

pub returns : goal.returns
returns c = excluded-takes
