use Rattle.em_context_parts.proofs.EgroupRefusals.{refusals-alike}
use Rattle.em_context_parts.proofs.refusals_alike.Goals as goal

pub returns : goal.returns
returns c = λ k l past lawful. refusals-alike k l past lawful
