-- An entry that touches no ticket leaves the ordered queues.
use Rattle.std.proofs.Common.{◌≡◌, ℕ, false, ◌∷◌, ◌∙◌}
use Rattle.em_log.specs.declared.declarations.Declarations.{Declarations}
use Rattle.em_log.specs.declared.entry.What.{What}
use Rattle.em_log.specs.History.{Past, entry_by}
use Rattle.em_order.specs.State.{OrderState}
use Rattle.em_context_parts.specs.OrderSteps.{order_steps, touches_orders}
use Rattle.em_context_parts.proofs.Untouched.{orders-untouched}
use Rattle.em_desk.specs.Orders.{OrdersStand}

pub orders-kept : (k : Declarations) (v : OrderState) (past : Past) (c : ℕ) (w : What) (n : ℕ) → touches_orders w ≡ false → OrdersStand k v past n
    → OrdersStand k v (entry_by c w ∷ past) n
orders-kept k v past c w n none o =
    record { steps = o.steps; stands = o.stands; lag = orders-untouched past c w (order_steps past) none ∙ o.lag; shape = o.shape }
