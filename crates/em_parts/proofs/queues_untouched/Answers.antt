use Rattle.em_parts.proofs.Untouched.{queues-untouched}
use Rattle.em_parts.proofs.queues_untouched.Goals as goal

pub returns : goal.returns
returns c = λ k past c w steps is. queues-untouched k past c w steps is
