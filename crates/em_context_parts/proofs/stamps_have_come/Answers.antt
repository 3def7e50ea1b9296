use Rattle.em_context_parts.proofs.StampsCome.{stamps-have-come}
use Rattle.em_context_parts.proofs.stamps_have_come.Goals as goal

pub returns : goal.returns
returns c = λ k l past all. stamps-have-come k l past all
