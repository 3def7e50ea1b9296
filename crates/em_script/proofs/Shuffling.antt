-- A relation of lists that holds where two neighbours are exchanged holds of every permutation.
use Rattle.std.proofs.Common.{ℕ, zero, suc, ◌<◌, List, [], ◌∷◌, length, get_or, set, swap, IsPermutation, subst, arith}
use Rattle.std.proofs.lemmas.List.Edits.{swap_is}
use Rattle.std.proofs.lemmas.List.Sorted.{IsPermutation-keeps}

pub record Exchanges {A : Type 0} (R : List A → List A → Type 0) : Type 0 where
  pub same : (xs : List A) → R xs xs
  pub then : (xs ys zs : List A) → R xs ys → R ys zs → R xs zs
  pub under : (x : A) (xs ys : List A) → R xs ys → R (x ∷ xs) (x ∷ ys)
  pub first_two : (x y : A) (xs : List A) → R (x ∷ y ∷ xs) (y ∷ x ∷ xs)

-- the first and another change places
with-first : {A : Type 0} (R : List A → List A → Type 0) → Exchanges R → (x : A) (xs : List A) (j : ℕ) (d : A) → j < length xs → R (x ∷ xs) (get_or xs j d ∷ set xs j x)
with-first R r x [] j d lt = absurd (omega (arith, lt))
with-first R r x (y ∷ ys) zero d lt = r.first_two x y ys
with-first R r x (y ∷ ys) (suc j) d lt =
    let z = get_or ys j d in
    r.then (x ∷ y ∷ ys) (y ∷ x ∷ ys) (z ∷ y ∷ set ys j x) (r.first_two x y ys)
    (r.then (y ∷ x ∷ ys) (y ∷ z ∷ set ys j x) (z ∷ y ∷ set ys j x) (r.under y (x ∷ ys) (z ∷ set ys j x) (with-first R r x ys j d (omega (arith, lt)))) (r.first_two y z (set ys j x)))

any-two : {A : Type 0} (R : List A → List A → Type 0) → Exchanges R → (xs : List A) (i j : ℕ) (d : A) → i < length xs → j < length xs → R xs (set (set xs i (get_or xs j d)) j (get_or xs i d))
any-two R r [] i j d p q = absurd (omega (arith, p))
any-two R r (x ∷ xs) zero zero d p q = r.same (x ∷ xs)
any-two R r (x ∷ xs) zero (suc j) d p q = with-first R r x xs j d (omega (arith, q))
any-two R r (x ∷ xs) (suc i) zero d p q = with-first R r x xs i d (omega (arith, p))
any-two R r (x ∷ xs) (suc i) (suc j) d p q = r.under x xs (set (set xs i (get_or xs j d)) j (get_or xs i d)) (any-two R r xs i j d (omega (arith, p)) (omega (arith, q)))

exchanged : {A : Type 0} (R : List A → List A → Type 0) → Exchanges R → (xs : List A) (i j : ℕ) → i < length xs → j < length xs → R xs (swap xs i j)
exchanged R r [] i j p q = absurd (omega (arith, p))
exchanged R r (x ∷ xs) i j p q = subst (R (x ∷ xs)) (swap_is (x ∷ xs) i j x p q) (any-two R r (x ∷ xs) i j x p q)

pub shuffled : {A : Type 0} (R : List A → List A → Type 0) → Exchanges R → (xs ys : List A) → IsPermutation xs ys → R xs ys
shuffled R r xs ys = IsPermutation-keeps xs (λ l. R xs l) (r.same xs) (λ l i j p q h. r.then xs l (swap l i j) h (exchanged R r l i j p q)) ys
