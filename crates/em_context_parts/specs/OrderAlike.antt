-- What the steps of the ordered queues tell as the history does.
use Rattle.std.specs.Prelude.{ℕ, ◌≡◌, ◌≤◌, length, true, false, [], ◌∷◌, map, drop, Option, Some, None, IsTrue}
use Rattle.em_log.specs.declared.declarations.Declarations.{Declarations}
use Rattle.em_log.specs.declared.entry.What.{What}
use Rattle.em_log.specs.declared.ids.Cells.{Cells}
use Rattle.em_log.specs.declared.ids.Handle.{Handle}
use Rattle.em_log.specs.declared.ids.QueueId.{QueueId}
use Rattle.em_log.specs.declared.ids.Stamp.{Stamp}
use Rattle.em_log.specs.History.{Past, entry_by, index_of}
use Rattle.em_log.specs.Declarations.{kind_of, is_ordered}
use Rattle.em_log.specs.Contexts.{context, receives_from}
use Rattle.em_log.specs.Handles.{Spending, spending}
use Rattle.em_log.specs.Order.{Ticket, ticket_of_send}
use Rattle.em_log.specs.Order as log
use Rattle.em_log.specs.Leads.{open_number}
use Rattle.em_log.specs.Places.{taken}
use Rattle.em_order.specs.Steps.{Finished}
use Rattle.em_order.specs.Tickets as part
use Rattle.em_order.specs.Sends as sends
use Rattle.em_context_parts.specs.OrderSteps.{item_of, released_steps, order_steps}

-- a core's open ticket is of the queue that its open context receives from, and a core that may take has none
pub record TicketsOwned (k : Declarations) (past : Past) : Type 0 where
  pub received : (c : ℕ) (began : What) (t : Ticket) → context past c ≡ Some began → log.open_ticket past c ≡ Some t → receives_from past c ≡ Some t.queue
  pub ordered : (c : ℕ) (t : Ticket) → log.open_ticket past c ≡ Some t → is_ordered (kind_of k t.queue) ≡ true
  -- the ticket that a send in the context shows is the open one
  pub shown : (c : ℕ) (began : What) → context past c ≡ Some began → ticket_of_send past c (open_number past c) ≡ log.open_ticket past c
  pub idle : (c : ℕ) → context past c ≡ None → taken k past c ≡ [] → log.open_ticket past c ≡ None

-- what the end of core c's open ticket lets in by the steps is what the history with the ending entry w lets in, in order;
-- while it is released, item by item, the rest of it is due
pub record LetsIn (past : Past) (c : ℕ) (w : What) : Type 0 where
  pub let_in : sends.let_in (order_steps past) c ≡ map item_of (log.let_in past (entry_by c w ∷ past) (log.open_ticket past c))
  pub rest : (n : ℕ) → sends.due (released_steps n (Finished c ∷ order_steps past))
      ≡ map item_of (drop n (log.let_in past (entry_by c w ∷ past) (log.open_ticket past c)))

-- the event of index i was sent under a ticket that does not enter yet
pub record IsWaitingForOrder (past : Past) (i : ℕ) : Type 0 where
  pub handle : Handle
  pub how : Spending
  pub queue : QueueId
  pub number : Option ℕ
  pub stamp : Option Stamp
  pub index : index_of handle.0 ≡ i
  pub spent : spending past handle.0 ≡ Some how
  pub what : how.what ≡ What.Send handle queue number stamp
  pub held : log.enters past (ticket_of_send how.before how.core number) ≡ false

pub record OrdersAlike (k : Declarations) (past : Past) : Type 0 where
  pub ticket : (c : ℕ) → part.open_ticket (order_steps past) c ≡ log.open_ticket past c
  pub drawn : (q : ℕ) → IsTrue (is_ordered (kind_of k q)) → part.drawn (order_steps past) q ≡ log.takes past q
  -- no more tickets are drawn than there are entries
  pub few : (q : ℕ) → log.takes past q ≤ length past
  pub released : (q : ℕ) → IsTrue (is_ordered (kind_of k q)) → part.released (order_steps past) q ≡ log.released past q
  pub enters : (c : ℕ) → sends.enters (order_steps past) (part.open_ticket (order_steps past) c) ≡ log.enters past (log.open_ticket past c)
  pub ended : (c lost : ℕ) (cells : Option Cells) → LetsIn past c (What.End lost cells)
  pub ended_early : (c : ℕ) → LetsIn past c What.EndOrdered
  -- between entries all that may enter has entered
  pub due : sends.due (order_steps past) ≡ []
  -- an event that is held back by the steps is so by the history
  pub held_back : (i : ℕ) → sends.is_held_back (order_steps past) i ≡ true → IsWaitingForOrder past i
