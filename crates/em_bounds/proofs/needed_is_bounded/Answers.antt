use Rattle.em_bounds.proofs.Bound.{needed-bounded}
use Rattle.em_bounds.proofs.needed_is_bounded.Goals as goal

pub returns : goal.returns
returns c = λ k l past burst lawful afforded. needed-bounded k l past burst lawful afforded
