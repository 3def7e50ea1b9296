-- Codes of what the ordered queues keep, by which its values are told apart.
use Rattle.std.specs.Prelude.{ℕ, List, Option, refl}
use Rattle.std.specs.Coded.{Coded, code_by, coded×, coded_ℕ, coded_option}
use Rattle.em_order.specs.declared.item_list.Item.{Item}
use Rattle.em_order.specs.declared.tickets.CoreOrder.{CoreOrder}
use Rattle.em_order.specs.declared.tickets.QueueOrder.{QueueOrder}
use Rattle.em_order.specs.declared.tickets.Ticket.{Ticket}
use Rattle.em_order.specs.ItemCode.{items_code}

abbrev pub ticket_code : Coded Ticket
ticket_code =
    code_by (ℕ × ℕ) (coded× coded_ℕ coded_ℕ) (λ t. (t.queue.0, t.number))
    (λ p. record { queue = record { 0 = p.0 }; number = p.1 })
    (λ _. refl)

abbrev pub core_code : Coded CoreOrder
core_code =
    code_by (Option Ticket × List Item) (coded× (coded_option ticket_code) items_code) (λ c. (c.ticket, c.held))
    (λ p. record { ticket = p.0; held = p.1 })
    (λ _. refl)

abbrev pub queue_code : Coded QueueOrder
queue_code =
    code_by (ℕ × List Item) (coded× coded_ℕ items_code) (λ q. (q.drawn, q.rest)) (λ p. record { drawn = p.0; rest = p.1 }) (λ _. refl)
