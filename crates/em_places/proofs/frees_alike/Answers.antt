use Rattle.em_places.proofs.Frees.{frees-alike}
use Rattle.em_places.proofs.frees_alike.Goals as goal

pub returns : goal.returns
returns c = λ k l past small all i. frees-alike k l past small all i
