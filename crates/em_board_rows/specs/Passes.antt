-- What a caller knows of its pass.
use Rattle.std.specs.Prelude.{ℕ, ◌≡◌, ◌≤◌, Bool, false, List, [], ◌∷◌}
use Rattle.em_log.specs.declared.declarations.Declarations.{Declarations}
use Rattle.em_log.specs.declared.ids.Limits.{Limits}
use Rattle.em_log.specs.Allowance.{left}
use Rattle.em_log.specs.Items.{Fixed}
use Rattle.em_turn.specs.Seats.{TableId}
use Rattle.em_board.specs.Marked.{history}
use Rattle.em_board.specs.Passes.{PassView}
use Rattle.em_board_rows.specs.Cores.{HasOneQueue, IsKnown}

-- the pass is one of this board, whose run is such a one, and its core is inside a context or not
pub record IsOf (such : Declarations → Limits → Type 0) (board : TableId) (inside : Bool) (p : PassView) : Type 0 where
  pub here : p.board ≡ board
  pub run : such p.fixed.declarations p.fixed.limits
  pub known : IsKnown p.fixed.declarations p.fixed.limits (history p.seen) p.core inside

abbrev pub IsAt : TableId → Bool → PassView → Type 0
IsAt board inside p = IsOf HasOneQueue board inside p

-- what the open context of the pass's core has left
abbrev pub left_of : PassView → ℕ
left_of p = left p.fixed.declarations (history p.seen) p.core

-- what no call changes of a pass
pub record Rights : Type 0 where
  pub board : TableId
  pub core : ℕ
  pub fixed : Fixed

abbrev pub rights : PassView → Rights
rights p = record { board = p.board; core = p.core; fixed = p.fixed }

-- each of the passes is between contexts, in a run of at least n cores
abbrev pub AreBetween : TableId → ℕ → List PassView → Type 0
AreBetween board n [] = Unit {0}
AreBetween board n (p ∷ ps) = IsAt board false p × (n ≤ p.fixed.declarations.cores) × AreBetween board n ps
