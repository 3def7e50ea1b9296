use Rattle.em_laws.proofs.Fresh.{graph-minted-once}
use Rattle.em_laws.proofs.expected.minted_once_of_graph.Goals as goal

pub returns : goal.returns
returns c = λ g l past formed lawful. graph-minted-once g l past formed lawful.each
