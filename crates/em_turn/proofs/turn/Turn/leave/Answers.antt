use Rattle.std.proofs.Common.{◌<◌, ◌+◌, ◌++◌, ◌%◌, ◌∷◌, ℕ, sym, ap, ◌∙◌, subst, arith, Some}
use mathlib.Core.Option.{none}
use Rattle.atomic_table.specs.Table.{rest, Allows, step}
use Rattle.em_turn.specs.Numbers.{OnlyOf}
use Rattle.em_turn.specs.Steps.{Seated, Passes}
use Rattle.em_turn.specs.Rule.{IsKept, wrap}
use Rattle.em_turn.proofs.Seats.{has_turn}
use Rattle.em_turn.proofs.Kept.{pass_keeps}
use Rattle.em_turn.proofs.turn.Turn.leave.Goals as goal

pub fetch_add-served-requires : goal.fetch_add-served-requires
fetch_add-served-requires g c = let h = c.exchange.ensures in let r = has_turn _ c.seat.inside.seat.me _ c.seat.view_is c.seat.invariant c.requires.here.1 in let v = c.seat.inside.seat.me.0 in let y = c.args.value in let items = g.V.Listed.items in let fixed = g.V.Listed.fixed in
    let n : ℕ = c.self.inside.table.shared.table_id.slots in let id : ℕ = c.exchange.new.seat.id in let is = h.3 ∙ ap (λ l. (v, (0, Some y) ∷ rest l)) r.2 in let see = c.seat.view_is in (
      h.0 ∙ ap (λ z. z.turn) see ∙ c.requires.here.0 ∙ sym c.self.view_is,
      subst (λ (k : ℕ). 1 < k) (sym c.self.invariant.0) (omega arith),
      subst (λ (m : Seated _). Allows (IsKept items fixed) n id m 1 (λ (x : ℕ). (x + 1) % wrap) (Passes items (step n 1 1 0 none) m)) (sym is)
          (pass_keeps items fixed n id v y c.requires.list.0 r.0 r.1 (c.requires.list.1 ∙ ap (λ z. z.seen ++ c.requires.list.0) (sym see)) (subst (λ z. OnlyOf z.numbers c.requires.list.0) (sym see) c.requires.list.2) (c.requires.fixed ∙ ap (λ z. z.fixed) (sym see))),
    )
