use Rattle.em_context_parts.proofs.Egroups.{egroups-alike}
use Rattle.em_context_parts.proofs.egroups_alike.Goals as goal

pub returns : goal.returns
returns c = λ k l past all. egroups-alike k l past all
