-- A seat as its callers see it.
use Rattle.std.specs.Prelude.{◌≡◌, ℕ, ◌+◌, ◌-◌, ◌<◌, Bool, true, false, List, [], ◌∷◌, ◌++◌, Option, None}
use Rattle.atomic_table.specs.Table.{Me}
pub use Rattle.atomic_table.specs.Seated.{TableId}
use Rattle.em_log.specs.Items.{LogItem, Fixed}
use Rattle.em_turn.specs.Numbers.{After, claim, longer}
use Rattle.em_turn.specs.Views.{Stage, Idle, Waiting, Inside, Known}

-- which lock it is of, its numbers, the list that it has seen, the fixed part, its draws, how many seats may still be split off it, and whether it has the turn
pub record SeatView : Type 0 where
  pub turn : TableId
  pub numbers : List ℕ
  pub seen : List LogItem
  pub fixed : Fixed
  pub turns : ℕ
  pub spare : ℕ
  pub inside : Bool

abbrev pub is_inside : Stage → Bool
is_inside Idle = false
is_inside Waiting = false
is_inside Inside = true

abbrev pub is_waiting : Stage → Bool
is_waiting Idle = false
is_waiting Waiting = true
is_waiting Inside = false

-- the slot of a seat that has the turn is out with it, and its value was moved out
abbrev pub carries : {V : Type 0} → Stage → List (ℕ × Option V)
carries Idle = []
carries Waiting = []
carries Inside = (0, None) ∷ []

abbrev pub shown : TableId → Known → SeatView
shown id v = record { turn = id; numbers = v.own.numbers; seen = v.own.seen; fixed = v.fixed; turns = v.turns; spare = v.parts - 1; inside = is_inside v.stage }

-- between two calls a seat is not spent, does not wait, and has the slot exactly where it has the turn
abbrev pub IsSettled : {V : Type 0} → Me (Option V) Known → Type 0
IsSettled me = (0 < me.0.parts) × (is_waiting me.0.stage ≡ false) × (me.1 ≡ carries me.0.stage)

-- the list begins with what the seat has seen, and goes on without items of its numbers
abbrev pub GoesOn : List LogItem → SeatView → Type 0
GoesOn xs s = After xs (claim s.numbers s.seen)

-- the seat that `new` gives
abbrev pub first_seat : TableId → Fixed → SeatView
first_seat id fixed = record { turn = id; numbers = 0 ∷ []; seen = []; fixed = fixed; turns = 0; spare = 63; inside = false }

-- a seat that was handed a value with this list
abbrev pub with_turn : SeatView → List LogItem → SeatView
with_turn s xs = record { turn = s.turn; numbers = s.numbers; seen = xs; fixed = s.fixed; turns = s.turns + 1; spare = s.spare; inside = true }

-- a seat that gave back a value with this list
abbrev pub after_turn : SeatView → List LogItem → SeatView
after_turn s xs = record { turn = s.turn; numbers = s.numbers; seen = xs; fixed = s.fixed; turns = s.turns; spare = s.spare; inside = false }

-- a seat off which another was split
abbrev pub after_split : SeatView → SeatView
after_split s = record { turn = s.turn; numbers = s.numbers; seen = s.seen; fixed = s.fixed; turns = s.turns; spare = s.spare - 1; inside = false }

-- the seat that was split off
abbrev pub split_off : SeatView → SeatView
split_off s = record { turn = s.turn; numbers = (64 - s.spare) ∷ []; seen = s.seen; fixed = s.fixed; turns = 0; spare = 0; inside = false }

-- the first seat after the second was joined to it
abbrev pub joined : SeatView → SeatView → SeatView
joined s t = record { turn = s.turn; numbers = s.numbers ++ t.numbers; seen = longer s.seen t.seen; fixed = s.fixed; turns = s.turns; spare = s.spare + t.spare + 1; inside = false }
