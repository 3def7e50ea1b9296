use Rattle.em_bounds.proofs.Receives.{promised-within}
use Rattle.em_bounds.proofs.receives_are_within.Goals as goal

pub returns : goal.returns
returns c = λ k l past all. promised-within k l past all
