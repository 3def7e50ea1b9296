use Rattle.em_context_parts.proofs.CountsLeft.{counts-left}
use Rattle.em_context_parts.proofs.counts_are_left.Goals as goal

pub returns : goal.returns
returns c = λ k l past all. counts-left k l past all
