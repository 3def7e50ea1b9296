use Rattle.em_laws.proofs.Blocks.{prefix-lawful}
use Rattle.em_laws.proofs.expected.prefix_is_lawful.Goals as goal

pub returns : goal.returns
returns c = prefix-lawful
