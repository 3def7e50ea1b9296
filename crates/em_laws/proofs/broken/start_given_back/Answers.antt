use Rattle.em_laws.proofs.BrokenHistories.{starts-twice}
use Rattle.em_laws.proofs.broken.start_given_back.Goals as goal

pub returns : goal.returns
returns c = starts-twice
