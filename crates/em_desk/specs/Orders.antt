-- The ordered queues as the desk keeps them, some releases behind the history.
use Rattle.std.specs.Prelude.{ℕ, ◌≡◌, ◌<◌, true, List, ◌∷◌, length, Option, Some, None, if◌then◌else◌}
use Rattle.em_log.specs.declared.declarations.Declarations.{Declarations}
use Rattle.em_log.specs.declared.ids.QueueId.{QueueId}
use Rattle.em_log.specs.History.{Past}
use Rattle.em_log.specs.Declarations.{kind_of, is_ordered, event_total}
use Rattle.em_pool.specs.declared.place.Spend.{Spend}
use Rattle.em_order.specs.declared.tickets.Way.{Way}
use Rattle.em_order.specs.Steps.{OrderStep, Drawn}
use Rattle.em_order.specs.Tickets.{drawn}
use Rattle.em_order.specs.State.{OrderState, Shape, shape, ticket_at, drawn_at}
use Rattle.em_order.specs.Stands as order
use Rattle.em_context_parts.specs.OrderSteps.{order_steps, released_steps}

abbrev pub order_shape : Declarations → Shape
order_shape k = record { cores = k.cores; queues = length k.queues; events = event_total k.pools }

-- of what the history has let in, n sends are still to be released
pub record OrdersStand (k : Declarations) (v : OrderState) (past : Past) (n : ℕ) : Type 0 where
  pub steps : List OrderStep
  pub stands : order.Stands v steps
  pub lag : order_steps past ≡ released_steps n steps
  pub shape : shape v ≡ order_shape k

-- a take by core c draws a ticket where the queue is ordered
abbrev pub drawn_steps : Declarations → ℕ → ℕ → List OrderStep → List OrderStep
drawn_steps k q c s = if is_ordered (kind_of k q) then Drawn q c ∷ s else s

abbrev pub number_drawn : Declarations → List OrderStep → ℕ → Option ℕ
number_drawn k s q = if is_ordered (kind_of k q) then Some (drawn s q) else None

-- how a send is spent that goes this way
abbrev pub spend_by : Way → QueueId → Spend
spend_by Way.Enter q = Spend.Sent q
spend_by (Way.Held n) q = Spend.Delayed q

-- core c has no open ticket, and queue q, where it is ordered, one more to draw
pub record CanDraw (k : Declarations) (v : OrderState) (q c : ℕ) : Type 0 where
  pub queue : q < (shape v).queues
  pub core : c < (shape v).cores
  pub idle : ticket_at v c ≡ None
  pub few : is_ordered (kind_of k q) ≡ true → drawn_at v q < 4294967295
