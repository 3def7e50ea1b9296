-- Lists whose elements are seen through a function.
use Rattle.std.proofs.Common.{◌≡◌, ℕ, ◌<◌, ◌==◌, true, List, [], ◌∷◌, length, map, set, get_or, refl, ap, sym, ◌∙◌, subst, arith}
use Rattle.std.proofs.Math.Dec.{eqb-suc-zero}
use Rattle.std.proofs.lemmas.Bool.{false≢true}
use Rattle.std.proofs.lemmas.List.{map-set, get_or-map, length-map}

-- an element is seen as it stands in the list of what is seen
pub seen-at : {X Y : Type 0} (f : X → Y) (xs : List X) (ys : List Y) (i : ℕ) (x : X) (d : Y) → map f xs ≡ ys → i < length ys
    → x ≡ get_or xs i x → get_or ys i d ≡ f x
seen-at f xs ys i x d seen lt is =
    let inside : i < length xs = omega (arith, ap length seen, length-map xs f) in
    ap (λ zs. get_or zs i d) (sym seen) ∙ (get_or-map f xs i x d inside ∙ ap f (sym is))

-- a changed element is seen as changed
pub seen-changed : {X Y : Type 0} (f : X → Y) (xs : List X) (ys : List Y) (i j : ℕ) (old new : X) (d : Y) (g : Y → Y) → map f xs ≡ ys
    → i ≡ j → j < length ys → old ≡ get_or xs i old → f new ≡ g (f old) → map f (set xs i new) ≡ set ys j (g (get_or ys j d))
seen-changed f xs ys i j old new d g seen same lt is next =
    let at : i < length ys = subst (λ n. n < length ys) (sym same) lt in
    let here = seen-at f xs ys i old d seen at is in
    map-set f xs i new
    ∙ (ap (λ zs. set zs i (f new)) seen
    ∙ (ap (λ y. set ys i y) (next ∙ ap g (sym here)) ∙ ap (λ n. set ys n (g (get_or ys n d))) same))

-- a list of length 0 is empty
pub none-long : {X : Type 0} (xs : List X) (n : ℕ) → n ≡ length xs → (n == 0) ≡ true → xs ≡ []
none-long [] n is h = refl
none-long (x ∷ xs) n is h = absurd (false≢true (sym (eqb-suc-zero (length xs)) ∙ (ap (λ m. m == 0) (sym is) ∙ h)))
