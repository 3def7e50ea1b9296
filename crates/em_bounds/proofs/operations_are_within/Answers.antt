use Rattle.em_bounds.proofs.Receives.{operations-within}
use Rattle.em_bounds.proofs.operations_are_within.Goals as goal

pub returns : goal.returns
returns c = λ k l past all. operations-within k l past all
