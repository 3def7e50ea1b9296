use Rattle.em_laws.proofs.Usable.{usable-after}
use Rattle.em_laws.proofs.Fresh.{graph-small}
use Rattle.em_laws.proofs.holdings.held_is_usable.Goals as goal

pub returns-clause-of_declarations : goal.returns-clause-of_declarations
returns-clause-of_declarations c = λ k l past small lawful. (usable-after k l past small lawful.each).held

pub returns-clause-of_graph : goal.returns-clause-of_graph
returns-clause-of_graph c = λ g l past formed lawful. (usable-after _ l past (graph-small g formed) lawful.each).held
