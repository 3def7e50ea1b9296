use Rattle.em_laws.proofs.Blocks.{due-lawful}
use Rattle.em_laws.proofs.expected.due_completes.Goals as goal

pub returns : goal.returns
returns c = due-lawful
