use Rattle.em_body.proofs.KeptCells.{reached-without}
use Rattle.em_body.proofs.cells_come_with_contexts.Goals as goal

pub returns : goal.returns
returns c = reached-without
