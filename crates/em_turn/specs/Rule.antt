-- The rule of the lock, which holds between any two steps: of its tickets, and of its lists.
use Rattle.std.specs.Prelude.{◌≡◌, ◌≢◌, ◌⊎◌, ℕ, ◌+◌, ◌%◌, ◌<◌, ◌≤◌, List, [], ◌∷◌, length, Option, Some}
use mathlib.Core.Option.{some, none}
use mathlib.Core.Option as maybe
use lib.ListN.{get_elem?}
use Rattle.atomic_table.specs.Table.{State}
use Rattle.em_log.specs.Items.{LogItem, Fixed}
use Rattle.em_turn.specs.Numbers.{In, Below, After}
use Rattle.em_turn.specs.Views.{Known, Inside, tickets_of, total, Each, Pairs}

-- The tickets

-- tickets are counted modulo 2^64
abbrev pub wrap : ℕ
wrap = 18446744073709551616

-- the ticket of a seat is one of the `count` from SERVING on, and that of the seat with the turn is SERVING. A spent seat has no ticket
pub record InLine (serving count : ℕ) (v : Known) : Type 0 where
  pub lives : tickets_of v ≡ 1 → 0 < v.parts
  pub drawn : tickets_of v ≡ 1 → (p : ℕ) × (p < count) × (v.ticket ≡ (serving + p) % wrap)
  pub served : v.stage ≡ Inside → v.ticket ≡ serving

abbrev pub OtherTicket : Known → Known → Type 0
OtherTicket u v = tickets_of u ≡ 1 → tickets_of v ≡ 1 → u.ticket ≢ v.ticket

abbrev pub Homes : Type 0 → Type 0
Homes V = List (maybe.Option (Option V))

-- the slot is at home with a value and no seat has the turn, or it is out and a seat has the turn
abbrev pub Slot : {V : Type 0} → Homes V → List Known → Type 0
Slot {V} homes views = ((x : V) × (homes ≡ some (Some x) ∷ []) × Each (λ v. v.stage ≢ Inside) views)
    ⊎ ((homes ≡ none ∷ []) × (id : ℕ) × (v : Known) × (get_elem? views id ≡ some v) × (v.stage ≡ Inside))

-- as many seats have a ticket as TICKET is ahead of SERVING, each ticket in between is that of one seat, and the seats and their spares are 64
pub record Tickets {V : Type 0} (s : State (Option V) Known) : Type 0 where
  pub serving : ℕ
  pub count : ℕ
  pub words : s.words ≡ (serving + count) % wrap ∷ serving ∷ []
  pub counted : total tickets_of s.views ≡ count
  pub shared : total (λ v. v.parts) s.views ≡ 64
  pub lined : Each (InLine serving count) s.views
  pub apart : Pairs OtherTicket s.views
  pub each : (p : ℕ) → p < count → (id : ℕ) × (v : Known) × (get_elem? s.views id ≡ some v) × (tickets_of v ≡ 1) × (v.ticket ≡ (serving + p) % wrap)
  pub slot : Slot s.homes s.views

-- The lists

-- what a seat knows of the list and of the fixed part. A seat that is not spent has a number and the fixed part, and with the turn it has seen the whole list.
-- Until the check the list goes on from those of both seats of a join, neither is longer than the one kept, their numbers were kept, and the second had the fixed part
pub record Fits (log : List LogItem) (fixed : Fixed) (v : Known) : Type 0 where
  pub same : 0 < v.parts → v.fixed ≡ fixed
  pub other_same : 0 < v.parts → v.other ≡ fixed
  pub named : 0 < v.parts → 0 < length v.own.numbers
  pub whole : v.stage ≡ Inside → v.own.seen ≡ log
  pub own : After log v.own
  pub first : After log v.first
  pub second : After log v.second
  pub first_in : (n : ℕ) → In n v.first.numbers → In n v.own.numbers
  pub second_in : (n : ℕ) → In n v.second.numbers → In n v.own.numbers
  pub first_short : length v.first.seen ≤ length v.own.seen
  pub second_short : length v.second.seen ≤ length v.own.seen

abbrev pub OtherNumbers : Known → Known → Type 0
OtherNumbers u v = (n : ℕ) → In n u.own.numbers → In n v.own.numbers → ⊥

-- where v has the number 0 alone, the numbers of u are below 64 less the spare of v
abbrev pub Bounds : Known → Known → Type 0
Bounds v u = v.own.numbers ≡ 0 ∷ [] → (n : ℕ) → In n u.own.numbers → n + v.parts < 65

-- there is one list, which is that of the value at home or, while the slot is out, the one that the seat with the turn has seen
module _ {V : Type 0} (items : V → List LogItem) (fixed_of : V → Fixed) where
  pub record Lists (s : State (Option V) Known) : Type 0 where
    pub log : List LogItem
    pub fixed : Fixed
    pub home : (x : V) → s.homes ≡ some (Some x) ∷ [] → (items x ≡ log) × (fixed_of x ≡ fixed)
    pub fits : Each (Fits log fixed) s.views
    pub alone : Pairs OtherNumbers s.views
    pub bounds : (i j : ℕ) (u v : Known) → get_elem? s.views i ≡ some u → get_elem? s.views j ≡ some v → Bounds u v
    pub below : Each (λ v. v.own.numbers ≡ 0 ∷ [] → Below v.parts log) s.views

  abbrev pub IsKept : State (Option V) Known → Type 0
  IsKept s = Tickets s × Lists s
