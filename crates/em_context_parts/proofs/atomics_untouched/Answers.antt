use Rattle.em_context_parts.proofs.Untouched.{atomics-untouched}
use Rattle.em_context_parts.proofs.atomics_untouched.Goals as goal

pub returns : goal.returns
returns c = λ k past c w steps is. atomics-untouched k past c w steps is
