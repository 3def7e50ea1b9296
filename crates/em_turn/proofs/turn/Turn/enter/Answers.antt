use Rattle.std.proofs.Common.{rules, ◌≡◌, ◌<◌, ◌∷◌, ℕ, Some, sym, ap, ◌∙◌, subst, arith}
use Rattle.atomic_table.specs.Table.{rest}
use Rattle.em_turn.proofs.Seats.{at_rest, one_slot}
use Rattle.em_turn.proofs.Kept.{draw_keeps, look_keeps}
use Rattle.em_turn.proofs.turn.Turn.enter.Goals as goal

pub fetch_add-ticket-requires : goal.fetch_add-ticket-requires
fetch_add-ticket-requires g c = let r = at_rest _ c.seat.inside.seat.me _ c.seat.view_is c.seat.invariant c.requires.here.1 in (
  ap (λ z. z.turn) c.seat.view_is ∙ c.requires.here.0 ∙ sym c.self.view_is,
  subst (λ (k : ℕ). 0 < k) (sym c.self.invariant.0) (omega arith),
  draw_keeps g.V.Listed.items g.V.Listed.fixed _ _ _ r.0 r.1,
)

pub loop-init : goal.loop-init
loop-init g c = (c.fetch_add-ticket.ensures.0 ∙ ap (λ z. z.turn) c.seat.view_is ∙ c.requires.here.0 ∙ sym c.self.view_is, Rattle.std.proofs.Common.refl)

pub load-requires : goal.load-requires
load-requires g c = let r = at_rest _ c.seat.inside.seat.me _ c.seat.view_is c.seat.invariant c.requires.here.1 in let inv = c.loop.invariant in let e = inv.1 ∙ c.fetch_add-ticket.ensures.2 in (
  inv.0,
  subst (λ (k : ℕ). 1 < k) (sym c.self.invariant.0) (omega arith),
  look_keeps g.V.Listed.items g.V.Listed.fixed _ _ _ (ap (λ m. m.0.stage) e) (subst (λ m. 0 < m.0.parts) (sym e) r.1),
)

pub exchange-requires : goal.exchange-requires
exchange-requires g c = let e = c.loop.invariant.1 ∙ c.fetch_add-ticket.ensures.2 in let took = c.load.ensures.2.0 (c.if-load-ticket.true ∙ ap (λ m. m.0.ticket) (sym e)) in
    (c.load.ensures.0 ∙ c.loop.invariant.0, (Some took.0, ap (λ m. m.1) took.1 ∙ ap (λ r. (0, Some took.0) ∷ r) (sym (ap (λ m. rest m.1) took.1))))

pub unwrap-requires : goal.unwrap-requires
unwrap-requires g c = let e = c.loop.invariant.1 ∙ c.fetch_add-ticket.ensures.2 in let took = c.load.ensures.2.0 (c.if-load-ticket.true ∙ ap (λ m. m.0.ticket) (sym e)) in
    let z = one_slot _ _ _ _ _ (ap (λ m. m.1) took.1) c.exchange.ensures.2 in search rules
