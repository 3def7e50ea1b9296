use Rattle.em_laws.proofs.BrokenHistories.{two-inside}
use Rattle.em_laws.proofs.broken.two_cores_inside.Goals as goal

pub returns : goal.returns
returns c = two-inside
