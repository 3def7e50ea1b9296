-- A pass as its callers see it.
use Rattle.std.specs.Prelude.{ℕ, zero, suc, ◌≡◌, ◌+◌, ◌-◌, ◌<◌, ◌≤◌, ◌==◌, false, List, [], ◌∷◌, length, if◌then◌else◌}
use Rattle.em_log.specs.Items.{LogItem, Fixed}
use Rattle.em_log.specs.Lawful.{Lawful}
use Rattle.em_turn.specs.Seats.{TableId, SeatView}
use Rattle.em_board.specs.Marked.{history, items_of}

-- its board, its core, the declarations and limits, the items that it has seen, and its turns
pub record PassView : Type 0 where
  pub board : TableId
  pub core : ℕ
  pub fixed : Fixed
  pub seen : List LogItem
  pub turns : ℕ

-- its own items
abbrev pub mine : PassView → List LogItem
mine p = items_of p.core p.seen

abbrev pub pass_of : ℕ → SeatView → PassView
pass_of core s = record { board = s.turn; core = core; fixed = s.fixed; seen = s.seen; turns = s.turns }

-- a pass that `build` gives
abbrev pub first_pass : TableId → Fixed → ℕ → PassView
first_pass board fixed core = record { board = board; core = core; fixed = fixed; seen = []; turns = 0 }

-- those of n cores from c on
abbrev pub passes_from : TableId → Fixed → ℕ → ℕ → List PassView
passes_from board fixed c zero = []
passes_from board fixed c (suc n) = first_pass board fixed c ∷ passes_from board fixed (suc c) n

-- the first seat, after seats were split off it for the cores below k
abbrev pub seat_before : TableId → Fixed → ℕ → SeatView
seat_before turn fixed k = record { turn = turn; numbers = 0 ∷ []; seen = []; fixed = fixed; turns = 0; spare = 64 - k; inside = false }

-- for how many seats the pass of core c stands, among n: the first one also for those that were never split off
abbrev pub share_of : ℕ → ℕ → ℕ
share_of n c = if c == 0 then 65 - n else 1

-- for how many seats these passes stand
abbrev pub shares : ℕ → List PassView → ℕ
shares n [] = 0
shares n (p ∷ ps) = share_of n p.core + shares n ps

-- between two calls the pass has the seat of its core, which does not have the turn
pub record IsReady (c : ℕ) (s : SeatView) : Type 0 where
  pub numbers : s.numbers ≡ c ∷ []
  pub outside : s.inside ≡ false
  pub core : c < s.fixed.declarations.cores
  pub cores : s.fixed.declarations.cores ≤ 8
  pub share : s.spare + 1 ≡ share_of s.fixed.declarations.cores c
  pub lawful : Lawful s.fixed.declarations s.fixed.limits (history s.seen)

-- how many of the passes are of core c
abbrev pub count_of : ℕ → List PassView → ℕ
count_of c [] = 0
count_of c (p ∷ ps) = (if p.core == c then 1 else 0) + count_of c ps

abbrev pub AreOf : TableId → Fixed → List PassView → Type 0
AreOf board fixed [] = Unit {0}
AreOf board fixed (p ∷ ps) = (p.board ≡ board) × (p.fixed ≡ fixed) × AreOf board fixed ps

-- one pass of this board for each of its cores, in any order
pub record AreAll (board : TableId) (ps : List PassView) : Type 0 where
  pub fixed : Fixed
  pub of : AreOf board fixed ps
  pub some : 0 < fixed.declarations.cores
  pub count : length ps ≡ fixed.declarations.cores
  pub each : (c : ℕ) → c < fixed.declarations.cores → count_of c ps ≡ 1
