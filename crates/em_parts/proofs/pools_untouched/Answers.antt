use Rattle.em_parts.proofs.Untouched.{pools-untouched}
use Rattle.em_parts.proofs.pools_untouched.Goals as goal

pub returns : goal.returns
returns c = λ k past c w steps is. pools-untouched k past c w steps is
