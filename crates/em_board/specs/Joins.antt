-- What a seat knows to which others were joined.
use Rattle.std.specs.Prelude.{ℕ, ◌≡◌, ◌+◌, false, List, [], ◌∷◌}
use Rattle.em_log.specs.Items.{LogItem}
use Rattle.em_turn.specs.Numbers.{In, After, claim}
use Rattle.em_turn.specs.Seats.{SeatView}
use Rattle.em_board.specs.Passes.{PassView, shares}

-- the seat has seen all that a seat with these numbers has that has seen this list, and has its numbers
abbrev pub Covers : SeatView → List ℕ → List LogItem → Type 0
Covers t ns xs = After t.seen (claim ns xs) × ((n : ℕ) → In n ns → In n t.numbers)

abbrev pub CoversAll : SeatView → List PassView → Type 0
CoversAll t [] = Unit {0}
CoversAll t (p ∷ ps) = Covers t (p.core ∷ []) p.seen × CoversAll t ps

-- the first seat after those of the passes were joined to it
pub record IsJoined (first now : SeatView) (ps : List PassView) : Type 0 where
  pub here : now.turn ≡ first.turn
  pub outside : now.inside ≡ false
  pub fixed : now.fixed ≡ first.fixed
  pub spare : now.spare ≡ first.spare + shares first.fixed.declarations.cores ps
  pub own : Covers now first.numbers first.seen
  pub each : CoversAll now ps
