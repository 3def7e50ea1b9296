-- What is sent under tickets, on the steps of the ordered queues: what enters at once, what is held back, and the order
-- in which that enters.
use Rattle.std.specs.Prelude.{ℕ, suc, ◌-◌, ◌==◌, nat_le, Bool, true, false, ◌||◌, List, [], ◌∷◌, ◌++◌, drop, Option, Some, None, if◌then◌else◌}
use Rattle.std.specs.List.{flat_map}
use Rattle.em_log.specs.Order.{Ticket, is_ticket}
use Rattle.em_log.specs.Declarations.{numbers_from}
use Rattle.em_order.specs.declared.item_list.Item.{Item}
use Rattle.em_order.specs.declared.tickets.Way.{Way}
use Rattle.em_order.specs.Steps.{OrderStep, Sent, Finished, Released}
use Rattle.em_order.specs.Tickets.{open_ticket, released}

-- whether a send under this ticket enters at once: no earlier ticket of its queue is open
abbrev pub enters : List OrderStep → Option Ticket → Bool
enters steps None = true
enters steps (Some t) = nat_le t.number (released steps t.queue)

abbrev pub way_under : List OrderStep → Option Ticket → Way
way_under steps None = Way.Enter
way_under steps (Some t) = if nat_le t.number (released steps t.queue) then Way.Enter else Way.Held (released steps t.queue)

-- what a send of core c answers
abbrev pub way : List OrderStep → ℕ → Way
way steps c = way_under steps (open_ticket steps c)

abbrev pub sent_after : List OrderStep → ℕ → ℕ → OrderStep → List Item → List Item
sent_after steps q m (Sent c i) items = if is_ticket q m (open_ticket steps c) then items ++ i ∷ [] else items
sent_after steps q m s items = items

-- what was sent under ticket m of queue q, in order
abbrev pub sent_under : List OrderStep → ℕ → ℕ → List Item
sent_under [] q m = []
sent_under (s ∷ steps) q m = sent_after steps q m s (sent_under steps q m)

abbrev pub let_in_by : List OrderStep → List OrderStep → Option Ticket → List Item
let_in_by steps now None = []
let_in_by steps now (Some t) =
    flat_map (sent_under steps t.queue)
    (numbers_from (suc (released steps t.queue)) (released now t.queue - released steps t.queue))

-- what the end of core c's open ticket lets in: what was sent under the tickets that it releases, in order of ticket,
-- then of sending
abbrev pub let_in : List OrderStep → ℕ → List Item
let_in steps c = let_in_by steps (Finished c ∷ steps) (open_ticket steps c)

abbrev pub due_after : List OrderStep → OrderStep → List Item → List Item
due_after steps (Finished c) items = items ++ let_in steps c
due_after steps Released items = drop 1 items
due_after steps s items = items

-- what may enter and was not released yet, in the order in which it enters
abbrev pub due : List OrderStep → List Item
due [] = []
due (s ∷ steps) = due_after steps s (due steps)

abbrev pub begins_with : ℕ → List Item → Bool
begins_with i [] = false
begins_with i (x ∷ xs) = x.index == i

abbrev pub held_after : List OrderStep → ℕ → OrderStep → Bool → Bool
held_after steps i (Sent c x) was = if enters steps (open_ticket steps c) then was else ((x.index == i) || was)
held_after steps i Released was = if begins_with i (due steps) then false else was
held_after steps i s was = was

-- whether the event of this index is held back: it was sent so, and not released since
abbrev pub is_held_back : List OrderStep → ℕ → Bool
is_held_back [] i = false
is_held_back (s ∷ steps) i = held_after steps i s (is_held_back steps i)
