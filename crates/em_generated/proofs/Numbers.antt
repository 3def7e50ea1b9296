-- Lists made from the numbers below a bound.
use Rattle.std.proofs.Common.{◌≡◌, ℕ, zero, suc, ◌+◌, ◌<◌, ◌≤◌, Bool, true, List, [], ◌∷◌, ◌++◌, map, refl, ap, sym, ◌∙◌, subst, ⊎_elim, append_assoc, arith}
use Rattle.std.specs.List.{list_all, range_with_len}
use Rattle.std.proofs.lemmas.Bool.{cases_eq}
use Rattle.std.proofs.lemmas.List.FromFn.{map-range_with_len_more}
use Rattle.em_script.proofs.Forms.{and-both, and-true}

-- a list that grows by what stands for the next number
pub one-more : {A : Type 0} (f : ℕ → A) (before xs ys : List A) (y : A) (i : ℕ) → ys ≡ xs ++ y ∷ [] → xs ≡ before ++ map f (range_with_len 0 i) → y ≡ f i → ys ≡ before ++ map f (range_with_len 0 (i + 1))
one-more f before xs ys y i pushed so_far is =
    pushed ∙ (λ k. so_far k ++ is k ∷ []) ∙ append_assoc before (map f (range_with_len 0 i)) (f i ∷ [])
    ∙ ap (λ l. before ++ l) (sym (map-range_with_len_more f 0 i i (omega arith)))

-- what holds of each number holds of all
pub all-numbers : (p : ℕ → Bool) (w a : ℕ) → ((i : ℕ) → a ≤ i → i < a + w → p i ≡ true) → list_all p (range_with_len a w) ≡ true
all-numbers p zero a each = refl
all-numbers p (suc w) a each =
    and-both (p a) (list_all p (range_with_len (a + 1) w)) (each a (omega arith) (omega arith))
    (all-numbers p w (a + 1) (λ i from to. each i (omega arith) (omega arith)))

-- and the other way round
pub each-number : (p : ℕ → Bool) (w a i : ℕ) → list_all p (range_with_len a w) ≡ true → a ≤ i → i < a + w → p i ≡ true
each-number p zero a i all from to = absurd (omega arith)
each-number p (suc w) a i all from to =
    let both = and-true (p a) (list_all p (range_with_len (a + 1) w)) all in
    ⊎_elim
    (λ same. subst (λ k. p k ≡ true) same both.0)
    (λ ne. each-number p w (a + 1) i both.1 (omega arith) (omega arith))
    (cases_eq a i)
