use Rattle.std.proofs.Common.{rules, ◌≡◌, ◌∷◌, ◌∙◌, ◌≤◌, List, [], Bool, true, false, not, map, string_bytes, codes, IsTrue, get_or, length, refl, sym, ap, arith}
use lib.Dec.{eqb}
use lib.Pointwise.{pointwise}
use Rattle.std.specs.Prelude.{String}
use Rattle.std.specs.Cmp.Lexicographic.{same_text}
use Rattle.clap.specs.Words.{Text}
use Rattle.em_tool.proofs.words.are_values.Goals as goal

module _ {Z : Type 0} where
  first_text : (words : List (String Z)) (first : String Z) → 1 ≤ length words → first ≡ get_or words 0 first → (rest : List Text) × (map string_bytes words ≡ string_bytes first ∷ rest)
  first_text [] first some is = absurd (omega arith)
  first_text (word ∷ rest) first some is = (map string_bytes rest, ap (λ w. string_bytes w ∷ map string_bytes rest) (sym is))

unlike : (b : Bool) → b ≡ not true → IsTrue b → ⊥
unlike b e is = absurd (cc (e, is))

like : (b t : Bool) → b ≡ not t → (true ≡ t → ⊥) → IsTrue b
like b true e differs = absurd (differs refl)
like b false e differs = e

pub returns-in-len1-up : goal.returns-in-len1-up
returns-in-len1-up c =
    let (rest, texts) = first_text c.args.words.now c.first-item.result c.in-len1-up.len_at_least c.first-item.is in
    let first = texts ∙ ap (λ t. t ∷ rest) (sym c.as_str.ensures.value) in (
      λ yes. (
        search rules,
        λ others help.
            let named : c.as_str.result.now ≡ codes "help" = ap (λ l. get_or l 0 []) (sym first ∙ help) in
            unlike _ (c.ne.ensures ∙ ap (λ t. not (pointwise eqb t (codes "help"))) named) yes,
      ),
      λ v. like _ _ c.ne.ensures (λ same. v.1 rest (first ∙ ap (λ t. t ∷ rest) (same_text _ _ same))),
    )
