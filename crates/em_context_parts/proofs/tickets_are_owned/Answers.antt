use Rattle.em_context_parts.proofs.Orders.{tickets-owned}
use Rattle.em_context_parts.proofs.tickets_are_owned.Goals as goal

pub returns : goal.returns
returns c = λ k l past all. tickets-owned k l past all
