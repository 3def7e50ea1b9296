-- The steps of the ordered queues that a history makes, over all kinds of entries.
use Rattle.std.specs.Prelude.{ℕ, zero, suc, Bool, true, false, List, [], ◌∷◌, length, Option, Some, None}
use Rattle.em_log.specs.declared.entry.What.{What}
use Rattle.em_log.specs.History.{Past, index_of, entry_by}
use Rattle.em_log.specs.Order.{Ticket, Sent as LogSent, open_ticket, let_in}
use Rattle.em_order.specs.declared.item_list.Item.{Item}
use Rattle.em_order.specs.Steps.{OrderStep, Drawn, Sent, Finished, Released}

-- an item of what goes to a queue: its handle and its stamp stay in the history
abbrev pub item_of : LogSent → Item
item_of s = record { index = index_of s.handle; queue = record { 0 = s.queue }; core = record { 0 = s.core } }

abbrev pub released_steps : ℕ → List OrderStep → List OrderStep
released_steps zero steps = steps
released_steps (suc n) steps = Released ∷ released_steps n steps

-- the open ticket of a core ends, if it has one, and then so many items are released
abbrev pub finished_steps : ℕ → Option Ticket → ℕ → List OrderStep → List OrderStep
finished_steps c None n steps = steps
finished_steps c (Some t) n steps = released_steps n (Finished c ∷ steps)

-- how many held sends the entry w of core c lets in, where it ends the core's open ticket
abbrev pub let_in_count : Past → ℕ → What → ℕ
let_in_count past c w = length (let_in past (entry_by c w ∷ past) (open_ticket past c))

abbrev pub order_after : Past → ℕ → What → List OrderStep → List OrderStep
order_after past c (What.Take q n (Some t)) steps = Drawn q.0 c ∷ steps
order_after past c (What.Send h q t s) steps = Sent c (record { index = index_of h.0; queue = q; core = record { 0 = c } }) ∷ steps
order_after past c What.EndOrdered steps = finished_steps c (open_ticket past c) (let_in_count past c What.EndOrdered) steps
order_after past c (What.End lost cells) steps = finished_steps c (open_ticket past c) (let_in_count past c (What.End lost cells)) steps
order_after past c w steps = steps

abbrev pub order_steps : Past → List OrderStep
order_steps [] = []
order_steps (e ∷ past) = order_after past e.core.0 e.what (order_steps past)

-- whether an entry draws or ends a ticket, or sends
abbrev pub touches_orders : What → Bool
touches_orders (What.Take q n (Some t)) = true
touches_orders (What.Send h q t s) = true
touches_orders What.EndOrdered = true
touches_orders (What.End lost cells) = true
touches_orders w = false
