use Rattle.std.proofs.Common.{◌++◌, ◌∷◌, [], List, sym, ap, ◌∙◌, subst, Some}
use Rattle.std.specs.Prelude.{Option}
use Rattle.atomic_table.specs.Table.{opening}
use Rattle.em_turn.specs.Steps.{opened}
use Rattle.em_turn.specs.Rule.{IsKept}
use Rattle.em_turn.proofs.Kept.{opening_keeps}
use Rattle.em_turn.proofs.turn.Turn.new.Goals as goal

pub new-requires : goal.new-requires
new-requires g c = let items = g.V.Listed.items in let fixed = g.V.Listed.fixed in let slots = c.in-Ok.ensures.items ∙ ap (λ l. l ++ Some c.args.value ∷ []) c.new-slots.ensures.items in
    subst (λ (z : List (Option _) × _). IsKept items fixed (opening (0 ∷ 0 ∷ []) z.0 (opened (fixed z.1)))) (λ i. (sym slots i, sym c.of-about.ensures i)) (opening_keeps items fixed c.args.value c.requires.empty)
