-- Where no text stands twice among the names of a list, each of its members has a name of its own.
use Rattle.std.proofs.Common.{◌≡◌, ℕ, Bool, true, false, not, List, [], ◌∷◌, map, refl, sym, ap, ◌∙◌, inl, inr, ◌⊎◌, eq-eqb}
use Rattle.std.specs.List.{list_any}
use Rattle.std.specs.Prelude.{◌||◌}
use Rattle.em_log.specs.Names.{are_different, same_text}
use Rattle.em_script.proofs.Ascii.{both}

abbrev pub IsAmong : {A : Type 0} → A → List A → Type 0
IsAmong x [] = ⊥
IsAmong x (z ∷ zs) = (x ≡ z) ⊎ IsAmong x zs

same_text-same : (t : List ℕ) → same_text t t ≡ true
same_text-same [] = refl
same_text-same (b ∷ bs) = rw (eq-eqb b b refl) (same_text-same bs)

or-right : (a b : Bool) → b ≡ true → (a || b) ≡ true
or-right true b e = refl
or-right false b e = e

any-here : {A : Type 0} (name : A → List ℕ) (t : List ℕ) (y : A) (zs : List A) → t ≡ name y → IsAmong y zs → list_any (same_text t) (map name zs) ≡ true
any-here name t y [] e h = absurd h
any-here name t y (z ∷ zs) e (inl same) =
    let is : t ≡ name z = e ∙ ap name same in
    rw (← is, same_text-same t) refl
any-here name t y (z ∷ zs) e (inr more) = or-right (same_text t (name z)) (list_any (same_text t) (map name zs)) (any-here name t y zs e more)

not-any : (b : Bool) → not b ≡ true → b ≡ true → ⊥
not-any true n e = cc
not-any false n e = cc

pub only_one : {A : Type 0} (name : A → List ℕ) (zs : List A) → are_different (map name zs) ≡ true → (x y : A) → IsAmong x zs → IsAmong y zs → name x ≡ name y → x ≡ y
only_one name [] well x y p q e = absurd p
only_one name (z ∷ zs) well x y (inl p) (inl q) e = p ∙ sym q
only_one name (z ∷ zs) well x y (inl p) (inr q) e =
    let w = both (not (list_any (same_text (name z)) (map name zs))) (are_different (map name zs)) well in
    absurd (not-any (list_any (same_text (name z)) (map name zs)) w.0 (any-here name (name z) y zs (ap name (sym p) ∙ e) q))
only_one name (z ∷ zs) well x y (inr p) (inl q) e =
    let w = both (not (list_any (same_text (name z)) (map name zs))) (are_different (map name zs)) well in
    absurd (not-any (list_any (same_text (name z)) (map name zs)) w.0 (any-here name (name z) x zs (ap name (sym q) ∙ sym e) p))
only_one name (z ∷ zs) well x y (inr p) (inr q) e =
    let w = both (not (list_any (same_text (name z)) (map name zs))) (are_different (map name zs)) well in
    only_one name zs w.1 x y p q e
