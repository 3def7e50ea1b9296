-- The steps of the ordered queues tell what the history tells.
use Rattle.std.proofs.Common.{◌≡◌, ℕ, ◌∷◌, refl, ap, ◌∙◌}
use Rattle.em_log.specs.declared.declarations.Declarations.{Declarations}
use Rattle.em_log.specs.declared.entry.What.{What}
use Rattle.em_log.specs.declared.ids.Limits.{Limits}
use Rattle.em_log.specs.History.{Past, entry_by}
use Rattle.em_log.specs.Order.{Ticket, with_number, run_from}
use Rattle.em_log.specs.Order as log
use Rattle.em_log.specs.Lawful.{AllAllowed}
use Rattle.em_order.specs.Sends.{enters}
use Rattle.em_context_parts.specs.OrderSteps.{order_steps}
use Rattle.em_context_parts.specs.OrderAlike.{TicketsOwned, LetsIn, OrdersAlike}
use Rattle.em_context_parts.proofs.OpenTickets.{owned, received, unticketed, sent-under, AreFitting, all-fitting}
use Rattle.em_context_parts.proofs.Tickets.{drawn-takes, takes-few, same-open, same-released}
use Rattle.em_context_parts.proofs.LetIn.{open-ordered, same-let_in, rest-due, none-due}
use Rattle.em_context_parts.proofs.HeldSends.{same-enters, held-waits}

pub tickets-owned : (k : Declarations) (l : Limits) (past : Past) → AllAllowed k l past → TicketsOwned k past
tickets-owned k l past all = record {
  received = received k l past all;
  ordered = λ c t is. (owned k l past all c t is).ordered;
  shown = sent-under k l past all;
  idle = unticketed k l past all;
}

lets-in : (k : Declarations) (past : Past) → AreFitting k past → (c : ℕ) (w : What)
    → ((q : ℕ) → log.released (entry_by c w ∷ past) q ≡ run_from (log.takes past q) 0 (with_number q (log.open_ticket past c) (log.ended past q)))
    → LetsIn past c w
lets-in k past fit c w after = record {
  let_in = same-let_in k past (entry_by c w ∷ past) fit c after;
  rest = λ n. rest-due k past (entry_by c w ∷ past) fit c n after;
}

pub orders-alike : (k : Declarations) (l : Limits) (past : Past) → AllAllowed k l past → OrdersAlike k past
orders-alike k l past all =
    let fit = all-fitting k l past all in
    record {
      ticket = same-open k past fit;
      drawn = λ q ordered. drawn-takes k q ordered past fit;
      few = takes-few past;
      released = same-released k past fit;
      enters = λ c. ap (enters (order_steps past)) (same-open k past fit c) ∙ same-enters k past fit (log.open_ticket past c) (open-ordered k past fit c);
      ended = λ c lost cells. lets-in k past fit c (What.End lost cells) (λ q. refl);
      ended_early = λ c. lets-in k past fit c What.EndOrdered (λ q. refl);
      due = none-due k past fit;
      held_back = held-waits k l past all fit;
    }
