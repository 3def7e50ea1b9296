-- Tests of equal texts.
use Rattle.std.proofs.Common.{◌≡◌, ℕ, List, [], ◌∷◌, Bor, map, refl, ap, ◌∙◌, arith}
use Rattle.std.specs.Prelude.{◌&&◌, ◌||◌}
use Rattle.std.specs.List.{list_any}
use Rattle.std.proofs.lemmas.Bool.Decides.{nat_tests}
use lib.Dec.{eqb}
use lib.Pointwise.{pointwise}
use Rattle.em_log.specs.Names.{same_text}

eqb-swap : (a b : ℕ) → eqb a b ≡ eqb b a
eqb-swap a b = grind (arith, nat_tests)

pub pointwise-same_text : (xs ys : List ℕ) → pointwise eqb xs ys ≡ same_text ys xs
pointwise-same_text [] [] = refl
pointwise-same_text [] (y ∷ ys) = refl
pointwise-same_text (x ∷ xs) [] = refl
pointwise-same_text (x ∷ xs) (y ∷ ys) = ap (λ b. b && pointwise eqb xs ys) (eqb-swap x y) ∙ ap (λ b. eqb y x && b) (pointwise-same_text xs ys)

pub list_any-among : (text : List ℕ) (words : List (Bor (List ℕ))) → list_any (λ word. pointwise eqb word.now text) words ≡ list_any (same_text text) (map (λ word. word.now) words)
list_any-among text [] = refl
list_any-among text (w ∷ ws) =
    ap (λ b. b || list_any (λ word. pointwise eqb word.now text) ws) (pointwise-same_text w.now text) ∙ ap (λ b. same_text text w.now || b) (list_any-among text ws)
