-- How the ordered queues stand for the list of their steps.
use Rattle.std.specs.Prelude.{ℕ, zero, suc, ◌≡◌, ◌<◌, ◌≤◌, nat_le, Bool, true, false, List, [], ◌++◌, length, Some, None, if◌then◌else◌}
use Rattle.em_log.specs.History.{has}
use Rattle.em_log.specs.Order.{Ticket}
use Rattle.em_order.specs.declared.item_list.Item.{Item}
use Rattle.em_order.specs.Steps.{OrderStep}
use Rattle.em_order.specs.Tickets.{drawn, open_ticket, ended, released}
use Rattle.em_order.specs.Sends.{sent_under, due, is_held_back}
use Rattle.em_order.specs.State.{OrderState, ticket_at, held_at, drawn_at, rest_at, held_back_at}

-- what was sent under a number and those just before it that are over, down to one that is not; nothing from r down
abbrev pub gathered : ℕ → (ℕ → Bool) → (ℕ → List Item) → ℕ → List Item
gathered r is_over sent zero = []
gathered r is_over sent (suc m) =
    if nat_le (suc m) r then [] else ((if is_over m then gathered r is_over sent m else []) ++ sent (suc m))

-- what ticket m of the queue holds back: what was sent under it and under the ended ones just before it
abbrev pub held_up : List OrderStep → ℕ → ℕ → List Item
held_up steps q m = gathered (released steps q) (has (ended steps q)) (sent_under steps q) m

pub record Stands (v : OrderState) (steps : List OrderStep) : Type 0 where
  -- as many tickets of each queue were drawn, and each core has its open ticket
  pub drawn_is : (q : ℕ) → drawn_at v q ≡ drawn steps q
  pub tickets : (c : ℕ) → ticket_at v c ≡ open_ticket steps c
  -- an open ticket is drawn, has not ended, and is of one core; a drawn one that has not ended is open
  pub open_drawn : (c q n : ℕ) → ticket_at v c ≡ Some (record { queue = q; number = n }) → n < drawn steps q
  pub open_not_ended : (c q n : ℕ) → ticket_at v c ≡ Some (record { queue = q; number = n }) → has (ended steps q) n ≡ false
  pub one_core : (c d : ℕ) (t : Ticket) → ticket_at v c ≡ Some t → ticket_at v d ≡ Some t → c ≡ d
  pub not_ended_open : (q n : ℕ) → n < drawn steps q → has (ended steps q) n ≡ false
      → (c : ℕ) × (ticket_at v c ≡ Some (record { queue = q; number = n }))
  pub ended_drawn : (q n : ℕ) → has (ended steps q) n ≡ true → n < drawn steps q
  -- nothing was sent under a ticket that is not drawn
  pub unsent : (q n : ℕ) → drawn steps q ≤ n → sent_under steps q n ≡ []
  -- each open ticket has what it holds back, and the queue what its next ticket would
  pub held_is : (c q n : ℕ) → ticket_at v c ≡ Some (record { queue = q; number = n }) → held_at v c ≡ held_up steps q n
  pub idle_is : (c : ℕ) → ticket_at v c ≡ None → held_at v c ≡ []
  pub rest_is : (q : ℕ) → rest_at v q ≡ held_up steps q (drawn steps q)
  -- what may enter, and which events are held back
  pub due_is : v.due ≡ due steps
  pub held_back : (i : ℕ) → i < length v.nodes → held_back_at v i ≡ is_held_back steps i
