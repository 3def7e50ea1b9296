use Rattle.em_laws.proofs.BrokenHistories.{start-skips}
use Rattle.em_laws.proofs.broken.start_leaves_one_out.Goals as goal

pub returns : goal.returns
returns c = start-skips
