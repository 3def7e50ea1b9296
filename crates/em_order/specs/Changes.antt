-- What each call does to the values of the ordered queues.
use Rattle.std.specs.Prelude.{ℕ, suc, ◌≡◌, ◌<◌, ◌≤◌, nat_lt, nat_le, ◌==◌, ◌&&◌, Bool, true, List, [], ◌∷◌, ◌++◌, take, drop, slice_set, Option, Some, None, if◌then◌else◌}
use Rattle.em_order.specs.declared.item_list.Item.{Item}
use Rattle.em_order.specs.declared.tickets.CoreOrder.{CoreOrder}
use Rattle.em_order.specs.declared.tickets.Open.{Open}
use Rattle.em_order.specs.declared.tickets.Ticket.{Ticket as TicketRecord}
use Rattle.em_order.specs.State.{OrderState, core_in, ticket_in, held_at, queue_at, drawn_at, rest_at, idle}

-- the next ticket of queue q is open at core c, and holds what the queue held
abbrev pub drawn_by : OrderState → ℕ → ℕ → OrderState
drawn_by v q c =
    record v {
      cores = slice_set v.cores c (record { ticket = Some (record { queue = record { 0 = q }; number = drawn_at v q }); held = rest_at v q });
      queues = slice_set v.queues q (record { drawn = suc (drawn_at v q); rest = held_at v c });
    }

-- core c holds one item more, in the node of its event
abbrev pub held_by : OrderState → ℕ → Item → OrderState
held_by v c item =
    record v {
      cores = slice_set v.cores c (record (core_in v.cores c) { held = held_at v c ++ item ∷ [] });
      nodes = slice_set v.nodes item.index [];
    }

-- what a list keeps of items that go to its front: nothing where all of them are released
abbrev pub kept : Bool → List Item → List Item → List Item
kept leads own later = if leads then [] else (own ++ later)

abbrev pub due_with : Bool → List Item → List Item → List Item
due_with leads due items = if leads then (due ++ items) else due

-- the ticket of core c of queue q has ended, and what it held goes to the front of what the next open one holds, or the
-- queue; where no earlier ticket is open, all of that is due
abbrev pub ended_by : OrderState → ℕ → ℕ → Option ℕ → Bool → OrderState
ended_by v c q (Some d) leads =
    record v {
      cores = slice_set (slice_set v.cores c idle) d (record (core_in v.cores d) { held = kept leads (held_at v c) (held_at v d) });
      due = due_with leads v.due (held_at v c ++ held_at v d);
    }
ended_by v c q None leads =
    record v {
      cores = slice_set v.cores c idle;
      queues = slice_set v.queues q (record (queue_at v q) { rest = kept leads (held_at v c) (rest_at v q) });
      due = due_with leads v.due (held_at v c ++ rest_at v q);
    }

-- the first item that was due is out, and its node is kept for the event of index i
abbrev pub released_by : OrderState → ℕ → OrderState
released_by v i = record v { nodes = slice_set v.nodes i (take 1 v.due); due = drop 1 v.due }

-- open tickets

-- no ticket of the queue from this number on is open
abbrev pub NoneOpen : List CoreOrder → ℕ → ℕ → Type 0
NoneOpen cores q from = (c n : ℕ) → ticket_in cores c ≡ Some (record { queue = q; number = n }) → n < from

-- core c has the least open ticket of the queue from a number on
pub record IsNextOpen (cores : List CoreOrder) (q from c m : ℕ) : Type 0 where
  pub is_open : ticket_in cores c ≡ Some (record { queue = q; number = m })
  pub from_there : from ≤ m
  pub least : (d n : ℕ) → ticket_in cores d ≡ Some (record { queue = q; number = n }) → from ≤ n → m ≤ n

-- where ticket n of the queue is open, m is the number of the least open one
pub record LeastOpen (cores : List CoreOrder) (q n m : ℕ) : Type 0 where
  pub least : (d k : ℕ) → ticket_in cores d ≡ Some (record { queue = q; number = k }) → m ≤ k
  pub there : (c : ℕ) → ticket_in cores c ≡ Some (record { queue = q; number = n })
      → (d : ℕ) × (ticket_in cores d ≡ Some (record { queue = q; number = m }))

abbrev pub comes_before : ℕ → Option Open → Bool
comes_before n None = true
comes_before n (Some o) = nat_lt n o.number

-- the lesser of the ticket found so far and that of core c, where it is one of the queue from a number on
abbrev pub lesser_open : ℕ → ℕ → ℕ → Option TicketRecord → Option Open → Option Open
lesser_open q from c None found = found
lesser_open q from c (Some t) found =
    if (t.queue.0 == q) && (nat_le from t.number && comes_before t.number found) then Some (record { core = c; number = t.number })
    else found
