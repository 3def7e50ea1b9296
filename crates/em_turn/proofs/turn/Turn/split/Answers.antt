use Rattle.std.proofs.Common.{◌<◌, ◌-◌, ℕ, sym, ap, ◌∙◌, subst, arith}
use Rattle.em_turn.proofs.Seats.{at_rest}
use Rattle.em_turn.proofs.Kept.{split_keeps}
use Rattle.em_turn.proofs.turn.Turn.split.Goals as goal

pub split_seat-new-requires : goal.split_seat-new-requires
split_seat-new-requires g c = let r = at_rest _ c.seat.inside.seat.me _ c.seat.view_is c.seat.invariant c.requires.here.1 in let left : 0 < c.seat.inside.seat.me.0.parts - 1 = subst (λ z. 0 < z.spare) (sym c.seat.view_is) c.requires.spare.1 in (
  ap (λ z. z.turn) c.seat.view_is ∙ c.requires.here.0 ∙ sym c.self.view_is,
  subst (λ (k : ℕ). 0 < k) (sym c.self.invariant.0) (omega arith),
  split_keeps g.V.Listed.items g.V.Listed.fixed _ _ r.0 (ap (λ z. z.numbers) c.seat.view_is ∙ c.requires.spare.0) (omega arith),
)
