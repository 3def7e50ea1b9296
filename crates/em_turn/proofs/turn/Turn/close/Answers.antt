use Rattle.std.proofs.Common.{rules, ◌≡◌, ◌-◌, sym, ap, ◌∙◌, subst, arith}
use mathlib.Core.Option.{some-injective}
use Rattle.em_turn.specs.Seats.{GoesOn}
use Rattle.em_turn.proofs.Seats.{at_rest, some_same}
use Rattle.em_turn.proofs.Kept.{closing_gives}
use Rattle.em_turn.proofs.turn.Turn.close.Goals as goal

pub unwrap-requires : goal.unwrap-requires
unwrap-requires g c = let r = at_rest _ c.seat.inside.seat.me _ c.seat.view_is c.seat.invariant c.requires.here.1 in let left : c.seat.inside.seat.me.0.parts - 1 ≡ 63 = ap (λ z. z.spare) c.seat.view_is ∙ c.requires.all in
    let x = closing_gives g.V.Listed.items g.V.Listed.fixed _ _ _ _ r.0 (omega arith) c.close_with-closed.ensures.values.2 in let e = some-injective _ _ (sym c.take-value.ensures.value ∙ x.1) in search rules

pub returns-clause-list : goal.returns-clause-list
returns-clause-list g c = let r = at_rest _ c.seat.inside.seat.me _ c.seat.view_is c.seat.invariant c.requires.here.1 in let left : c.seat.inside.seat.me.0.parts - 1 ≡ 63 = ap (λ z. z.spare) c.seat.view_is ∙ c.requires.all in
    let x = closing_gives g.V.Listed.items g.V.Listed.fixed _ _ _ _ r.0 (omega arith) c.close_with-closed.ensures.values.2 in
    let e = some_same _ _ (sym (some-injective _ _ (sym c.take-value.ensures.value ∙ x.1)) ∙ c.unwrap.ensures) in subst (λ y. GoesOn (g.V.Listed.items y) c.args.seat) e (subst (GoesOn (g.V.Listed.items x.0)) c.seat.view_is x.2)

pub returns-clause-fixed : goal.returns-clause-fixed
returns-clause-fixed g c = let r = at_rest _ c.seat.inside.seat.me _ c.seat.view_is c.seat.invariant c.requires.here.1 in let left : c.seat.inside.seat.me.0.parts - 1 ≡ 63 = ap (λ z. z.spare) c.seat.view_is ∙ c.requires.all in
    let x = closing_gives g.V.Listed.items g.V.Listed.fixed _ _ _ _ r.0 (omega arith) c.close_with-closed.ensures.values.2 in
    let e = some_same _ _ (sym (some-injective _ _ (sym c.take-value.ensures.value ∙ x.1)) ∙ c.unwrap.ensures) in ap g.V.Listed.fixed (sym e) ∙ x.3 ∙ ap (λ z. z.fixed) c.seat.view_is
