use Rattle.em_context_parts.proofs.SentStamps.{stamps-kept}
use Rattle.em_context_parts.proofs.stamps_are_kept.Goals as goal

pub returns : goal.returns
returns c = λ k l past all. stamps-kept k l past all
