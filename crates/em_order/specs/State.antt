-- What the ordered queues mean: numbers and lists, and what can be read off them.
use Rattle.std.specs.Prelude.{ℕ, Bool, true, false, List, [], ◌∷◌, length, slice_index_or, Option, None, refl}
use Rattle.std.specs.Option.{option_map}
use Rattle.std.specs.Coded.{Coded, code_by, coded×, coded_list}
use Rattle.em_log.specs.Order.{Ticket}
use Rattle.em_order.specs.declared.item_list.Item.{Item}
use Rattle.em_order.specs.declared.tickets.CoreOrder.{CoreOrder}
use Rattle.em_order.specs.declared.tickets.QueueOrder.{QueueOrder}
use Rattle.em_order.specs.declared.tickets.Ticket.{Ticket as TicketRecord}
use Rattle.em_order.specs.ItemCode.{items_code}
use Rattle.em_order.specs.Codes.{core_code, queue_code}

-- each core with its open ticket; each queue with its tickets; for each event its node, while it is not
-- held back; and what may enter
pub record OrderState : Type 0 where
  pub cores : List CoreOrder
  pub queues : List QueueOrder
  pub nodes : List (List Item)
  pub due : List Item

abbrev pub state_code : Coded OrderState
state_code =
    code_by (List CoreOrder × (List QueueOrder × (List (List Item) × List Item)))
    (coded× (coded_list core_code) (coded× (coded_list queue_code) (coded× (coded_list items_code) items_code)))
    (λ v. (v.cores, (v.queues, (v.nodes, v.due))))
    (λ p. record { cores = p.0; queues = p.1.0; nodes = p.1.1.0; due = p.1.1.1 })
    (λ _. refl)

-- a core with no open ticket
abbrev pub idle : CoreOrder
idle = record { ticket = None; held = [] }

-- a queue of which no ticket was drawn
abbrev pub undrawn : QueueOrder
undrawn = record { drawn = 0; rest = [] }

abbrev pub ticket_of : TicketRecord → Ticket
ticket_of t = record { queue = t.queue.0; number = t.number }

abbrev pub core_in : List CoreOrder → ℕ → CoreOrder
core_in cores c = slice_index_or cores c idle

abbrev pub ticket_in : List CoreOrder → ℕ → Option Ticket
ticket_in cores c = option_map ticket_of (core_in cores c).ticket

-- a core's open ticket
abbrev pub ticket_at : OrderState → ℕ → Option Ticket
ticket_at v c = ticket_in v.cores c

-- what the core's open ticket holds back
abbrev pub held_at : OrderState → ℕ → List Item
held_at v c = (core_in v.cores c).held

abbrev pub queue_at : OrderState → ℕ → QueueOrder
queue_at v q = slice_index_or v.queues q undrawn

-- how many tickets of the queue were drawn
abbrev pub drawn_at : OrderState → ℕ → ℕ
drawn_at v q = (queue_at v q).drawn

abbrev pub rest_at : OrderState → ℕ → List Item
rest_at v q = (queue_at v q).rest

abbrev pub is_nil : List Item → Bool
is_nil [] = true
is_nil (x ∷ xs) = false

-- whether the event of this index is held back; past the last one it is
abbrev pub held_back_at : OrderState → ℕ → Bool
held_back_at v i = is_nil (slice_index_or v.nodes i [])

-- the numbers of cores, queues and events
pub record Shape : Type 0 where
  pub cores : ℕ
  pub queues : ℕ
  pub events : ℕ

abbrev pub shape : OrderState → Shape
shape v = record { cores = length v.cores; queues = length v.queues; events = length v.nodes }
