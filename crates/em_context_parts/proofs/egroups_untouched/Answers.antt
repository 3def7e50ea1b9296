use Rattle.em_context_parts.proofs.Untouched.{egroups-untouched}
use Rattle.em_context_parts.proofs.egroups_untouched.Goals as goal

pub returns : goal.returns
returns c = λ past c w steps is. egroups-untouched past c w steps is
