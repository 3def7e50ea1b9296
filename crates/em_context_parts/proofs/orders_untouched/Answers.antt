use Rattle.em_context_parts.proofs.Untouched.{orders-untouched}
use Rattle.em_context_parts.proofs.orders_untouched.Goals as goal

pub returns : goal.returns
returns c = λ past c w steps is. orders-untouched past c w steps is
