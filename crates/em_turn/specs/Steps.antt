-- The steps of the lock: what each makes of the seat's view, and what it tells.
-- Word 0 is TICKET and word 1 is SERVING. The one slot has the value.
--   draw     adds 1 to TICKET, and the number found is the seat's ticket
--   look     reads SERVING. Where it finds the seat's ticket, the slot goes out with the seat
--   pass on  adds 1 to SERVING, and the slot comes home
--   split    reads TICKET: a new seat gets the next number
--   join     reads TICKET: one seat gets what two had, and the other is spent
--   check    reads TICKET after a join, and tells that the list seen goes on from those of both seats, which have one fixed part
-- There are no others. Between a look and a pass on the value is moved out of the slot and into it again, which changes no view.
use Rattle.std.specs.Prelude.{◌≡◌, ◌≢◌, ℕ, ◌+◌, ◌-◌, List, [], ◌∷◌, ◌++◌, Option, Some, None}
use Rattle.atomic_table.specs.Table.{Me, Step}
use Rattle.em_log.specs.Items.{LogItem, Fixed}
use Rattle.em_turn.specs.Numbers.{claim, After, longer}
use Rattle.em_turn.specs.Views.{Known, Idle, Waiting, Inside, nothing, view_of}

-- Views

-- the first seat
abbrev pub opened : Fixed → Known
opened fixed = view_of (claim (0 ∷ []) []) fixed 0 64 Idle 0

abbrev pub with_ticket : Known → ℕ → Known
with_ticket v n = view_of v.own v.fixed (v.turns + 1) v.parts Waiting n

abbrev pub entered : Known → List LogItem → Known
entered v xs = view_of (claim v.own.numbers xs) v.fixed v.turns v.parts Inside v.ticket

abbrev pub passed : Known → List LogItem → Known
passed v xs = view_of (claim v.own.numbers xs) v.fixed v.turns v.parts Idle v.ticket

-- a seat after a split
abbrev pub divided : Known → Known
divided v = view_of v.own v.fixed v.turns (v.parts - 1) Idle v.ticket

-- the seat that was split off
abbrev pub parted : Known → Known
parted v = view_of (claim ((65 - v.parts) ∷ []) v.own.seen) v.fixed 0 1 Idle 0

-- a seat after a join
abbrev pub united : Known → Known → Known
united v w =
    record {
      own = claim (v.own.numbers ++ w.own.numbers) (longer v.own.seen w.own.seen);
      first = v.own;
      second = w.own;
      fixed = v.fixed;
      other = w.fixed;
      turns = v.turns;
      parts = v.parts + w.parts;
      stage = Idle;
      ticket = v.ticket;
    }

-- the seat that was joined to another
abbrev pub spent : Known
spent =
    let nobody : Fixed = record { declarations = record { cores = 0; pools = []; groups = []; running = []; agroups = []; queues = []; egroups = 0 }; limits = record { receives = 0; burst = 0 } } in
    view_of nothing nobody 0 0 Idle 0

abbrev pub checked : Known → Known
checked v = view_of v.own v.fixed v.turns v.parts v.stage v.ticket

-- What the steps tell, of the number found and of the seat before and after

-- a seat's view, and the slot where it is out with the seat
abbrev pub Seated : Type 0 → Type 0
Seated V = Me (Option V) Known

abbrev pub Draws : {V : Type 0} → Step (Option V) → Seated V → ℕ → Seated V → Type 0
Draws st m n m' = m' ≡ (with_ticket m.0 n, m.1)

module _ {V : Type 0} (items : V → List LogItem) (fixed_of : V → Fixed) where
  -- the slot goes out with the seat, and its value's list goes on from what the seat has seen, without items of its numbers
  abbrev pub Enters : Seated V → Seated V → Type 0
  Enters m m' = (x : V) × (m' ≡ (entered m.0 (items x), (0, Some x) ∷ m.1)) × (fixed_of x ≡ m.0.fixed) × After (items x) m.0.own

  abbrev pub Looks : Step (Option V) → Seated V → ℕ → Seated V → Type 0
  Looks st m n m' = (n ≡ m.0.ticket → Enters m m') × (n ≢ m.0.ticket → m' ≡ m)

module _ {V : Type 0} (items : V → List LogItem) where
  abbrev pub list_in : Option V → List LogItem
  list_in None = []
  list_in (Some x) = items x

  -- the list of the value in the slot that is out with the seat
  abbrev pub list_of : List (ℕ × Option V) → List LogItem
  list_of [] = []
  list_of (c ∷ cs) = list_in c.1

  abbrev pub Passes : Step (Option V) → Seated V → ℕ → Seated V → Type 0
  Passes st m n m' = m' ≡ (passed m.0 (list_of m.1), [])

-- the list seen goes on from those of both seats of the join, without items of their numbers, and both have one fixed part
abbrev pub Checks : {V : Type 0} → Step (Option V) → Seated V → ℕ → Seated V → Type 0
Checks st m n m' = (m' ≡ (checked m.0, m.1)) × After m.0.own.seen m.0.first × After m.0.own.seen m.0.second × (m.0.other ≡ m.0.fixed)
