-- Of the first items each fits, one item after another.
use Rattle.std.proofs.Common.{ℕ, ◌+◌, ◌<◌, ◌≤◌, List, [], ◌∷◌, length, get_or, take, sym, subst}
use Rattle.std.specs.List.{AllByRecursion}
use Rattle.std.proofs.lemmas.List.{take_more, take_all}
use Rattle.em_trace.proofs.Forms.{All-append}

pub fits_more : {A : Type 0} (Fits : A → Type 0) (items : List A) (i : ℕ) (d : A) → i < length items → AllByRecursion Fits (take i items) → Fits (get_or items i d)
    → AllByRecursion Fits (take (i + 1) items)
fits_more Fits items i d lt before next =
    subst (λ xs. AllByRecursion Fits xs) (sym (take_more items i d lt)) (All-append Fits (take i items) (get_or items i d ∷ []) before (next, tt))

pub fits_all : {A : Type 0} (Fits : A → Type 0) (items : List A) (i : ℕ) → length items ≤ i → AllByRecursion Fits (take i items) → AllByRecursion Fits items
fits_all Fits items i le before = subst (λ xs. AllByRecursion Fits xs) (take_all i items le) before
