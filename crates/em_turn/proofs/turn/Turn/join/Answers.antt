use Rattle.std.proofs.Common.{◌<◌, ◌+◌, ℕ, sym, ap, ◌∙◌, subst, arith}
use Rattle.em_turn.proofs.Seats.{at_rest}
use Rattle.em_turn.proofs.Kept.{join_keeps, check_keeps}
use Rattle.em_turn.proofs.turn.Turn.join.Goals as goal

pub join_seat-requires : goal.join_seat-requires
join_seat-requires g c = let a = at_rest _ c.seat.inside.seat.me _ c.seat.view_is c.seat.invariant c.requires.here.1 in let b = at_rest _ c.other.inside.seat.me _ c.other.view_is c.other.invariant c.requires.other.1 in (
  ap (λ z. z.turn) c.seat.view_is ∙ c.requires.here.0 ∙ sym c.self.view_is,
  ap (λ z. z.turn) c.other.view_is ∙ c.requires.other.0 ∙ sym c.self.view_is,
  b.2,
  subst (λ (k : ℕ). 0 < k) (sym c.self.invariant.0) (omega arith),
  join_keeps g.V.Listed.items g.V.Listed.fixed _ _ _ _ a.0 a.1 b.0 b.1,
)

pub load-requires : goal.load-requires
load-requires g c = let h = c.join_seat.ensures in let a = at_rest _ c.seat.inside.seat.me _ c.seat.view_is c.seat.invariant c.requires.here.1 in let lives : 0 < c.seat.inside.seat.me.0.parts + c.other.inside.seat.me.0.parts = (let z = a.1 in omega arith) in (
  h.0 ∙ ap (λ z. z.turn) c.seat.view_is ∙ c.requires.here.0 ∙ sym c.self.view_is,
  subst (λ (k : ℕ). 0 < k) (sym c.self.invariant.0) (omega arith),
  check_keeps g.V.Listed.items g.V.Listed.fixed _ _ _ (ap (λ m. m.0.stage) h.2) (subst (λ m. 0 < m.0.parts) (sym h.2) lives),
)
