use Rattle.em_moments.proofs.Blocks.{block-lawful}
use Rattle.em_laws.proofs.expected.block_is_lawful.Goals as goal

pub returns : goal.returns
returns c = λ k l past e h lawful begins. block-lawful k l past e.core.0 e.what h lawful begins
