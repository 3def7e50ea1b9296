-- What a seat knows.
use Rattle.std.specs.Prelude.{◌≡◌, ◌≢◌, ℕ, ◌+◌, List, [], ◌∷◌}
use mathlib.Core.Option.{some}
use lib.ListN.{get_elem?}
use Rattle.em_log.specs.Items.{Fixed}
use Rattle.em_turn.specs.Numbers.{Claim, claim}

-- without a ticket, with a ticket that is not served yet, with the turn
pub data Stage : Type 0 where
  Idle : Stage
  Waiting : Stage
  Inside : Stage

-- `own` has the seat's numbers and the list that it has seen. Between a join and its check `first` and `second` are those of the two seats,
-- and `other` is the fixed part of the second.
-- A seat stands for `parts` seats, itself and those that may still be split off it, and a spent seat for none. `turns` counts its draws
pub record Known : Type 0 where
  pub own : Claim
  pub first : Claim
  pub second : Claim
  pub fixed : Fixed
  pub other : Fixed
  pub turns : ℕ
  pub parts : ℕ
  pub stage : Stage
  pub ticket : ℕ

abbrev pub nothing : Claim
nothing = claim [] []

-- the view of a seat that has no join to check
abbrev pub view_of : Claim → Fixed → ℕ → ℕ → Stage → ℕ → Known
view_of own fixed turns parts stage ticket = record { own = own; first = nothing; second = nothing; fixed = fixed; other = fixed; turns = turns; parts = parts; stage = stage; ticket = ticket }

-- 1 where the seat has a ticket
abbrev pub tickets_at : Stage → ℕ
tickets_at Idle = 0
tickets_at Waiting = 1
tickets_at Inside = 1

abbrev pub tickets_of : Known → ℕ
tickets_of v = tickets_at v.stage

-- f of each view, added up
abbrev pub total : (Known → ℕ) → List Known → ℕ
total f [] = 0
total f (v ∷ vs) = f v + total f vs

-- a fact of each seat, and one of each two seats
abbrev pub Each : (Known → Type 0) → List Known → Type 0
Each F views = (id : ℕ) (v : Known) → get_elem? views id ≡ some v → F v

abbrev pub Pairs : (Known → Known → Type 0) → List Known → Type 0
Pairs F views = (i j : ℕ) (u v : Known) → i ≢ j → get_elem? views i ≡ some u → get_elem? views j ≡ some v → F u v
