use Rattle.em_context_parts.proofs.Orders.{orders-alike}
use Rattle.em_context_parts.proofs.orders_alike.Goals as goal

pub returns : goal.returns
returns c = λ k l past all. orders-alike k l past all
