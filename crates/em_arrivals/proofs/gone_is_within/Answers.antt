use Rattle.em_arrivals.proofs.Gone.{gone-within}
use Rattle.em_arrivals.proofs.gone_is_within.Goals as goal

pub returns : goal.returns
returns c = λ k l past all. gone-within k l past all
