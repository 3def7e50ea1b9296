-- Tests of all numbers below a bound, and of all elements of a list.
use Rattle.std.proofs.Common.{◌≡◌, ℕ, zero, suc, ◌+◌, ◌<◌, Bool, true, false, ◌&&◌, ◌||◌, List, [], ◌∷◌, length, slice_index_or, refl, sym, subst, arith}
use Rattle.std.specs.List.{list_all, list_any}
use Rattle.em_log.specs.Declarations.{numbers_from, below}

and-off : (a b : Bool) → b ≡ false → (a && b) ≡ false
and-off true b e = e
and-off false b e = refl

or-on : (a b : Bool) → b ≡ true → (a || b) ≡ true
or-on true b e = refl
or-on false b e = e

-- a fact of the numbers below suc n, from a on, said of those from suc a on
shift : (f : ℕ → Bool) (v : Bool) (n a : ℕ) → ((j : ℕ) → j < suc n → f (a + j) ≡ v) → (j : ℕ) → j < n → f (suc a + j) ≡ v
shift f v n a h j lt = let e : suc a + j ≡ a + suc j = omega arith in subst (λ m. f m ≡ v) (sym e) (h (suc j) (omega arith))

first : (f : ℕ → Bool) (v : Bool) (n a : ℕ) → ((j : ℕ) → j < suc n → f (a + j) ≡ v) → f a ≡ v
first f v n a h = let e : a + 0 ≡ a = omega arith in subst (λ m. f m ≡ v) e (h 0 (omega arith))

all-from : (f : ℕ → Bool) (n a : ℕ) → ((j : ℕ) → j < n → f (a + j) ≡ true) → list_all f (numbers_from a n) ≡ true
all-from f zero a h = refl
all-from f (suc n) a h = let here = first f true n a h in let rest = all-from f n (suc a) (shift f true n a h) in rw (here, rest) refl

none-from : (f : ℕ → Bool) (n a : ℕ) → ((j : ℕ) → j < n → f (a + j) ≡ false) → list_any f (numbers_from a n) ≡ false
none-from f zero a h = refl
none-from f (suc n) a h = let here = first f false n a h in let rest = none-from f n (suc a) (shift f false n a h) in rw (here, rest) refl

not-all-from : (f : ℕ → Bool) (n a j : ℕ) → j < n → f (a + j) ≡ false → list_all f (numbers_from a n) ≡ false
not-all-from f zero a j lt h = absurd (omega arith)
not-all-from f (suc n) a zero lt h = let e : a + 0 ≡ a = omega arith in let here = subst (λ m. f m ≡ false) e h in rw here refl
not-all-from f (suc n) a (suc j) lt h =
    let e : a + suc j ≡ suc a + j = omega arith in
    and-off (f a) _ (not-all-from f n (suc a) j (omega arith) (subst (λ m. f m ≡ false) e h))

some-from : (f : ℕ → Bool) (n a j : ℕ) → j < n → f (a + j) ≡ true → list_any f (numbers_from a n) ≡ true
some-from f zero a j lt h = absurd (omega arith)
some-from f (suc n) a zero lt h = let e : a + 0 ≡ a = omega arith in let here = subst (λ m. f m ≡ true) e h in rw here refl
some-from f (suc n) a (suc j) lt h =
    let e : a + suc j ≡ suc a + j = omega arith in
    or-on (f a) _ (some-from f n (suc a) j (omega arith) (subst (λ m. f m ≡ true) e h))

from-zero : (f : ℕ → Bool) (v : Bool) (j : ℕ) → f j ≡ v → f (0 + j) ≡ v
from-zero f v j h = let e : 0 + j ≡ j = omega arith in rw e h

pub all-below : (f : ℕ → Bool) (n : ℕ) → ((j : ℕ) → j < n → f j ≡ true) → list_all f (below n) ≡ true
all-below f n h = all-from f n 0 (λ j lt. from-zero f true j (h j lt))

pub none-below : (f : ℕ → Bool) (n : ℕ) → ((j : ℕ) → j < n → f j ≡ false) → list_any f (below n) ≡ false
none-below f n h = none-from f n 0 (λ j lt. from-zero f false j (h j lt))

pub not-all-below : (f : ℕ → Bool) (n j : ℕ) → j < n → f j ≡ false → list_all f (below n) ≡ false
not-all-below f n j lt h = not-all-from f n 0 j lt (from-zero f false j h)

pub some-below : (f : ℕ → Bool) (n j : ℕ) → j < n → f j ≡ true → list_any f (below n) ≡ true
some-below f n j lt h = some-from f n 0 j lt (from-zero f true j h)

-- elements

-- where all pass, each does
pub all-at : {X : Type 0} (f : X → Bool) (xs : List X) (i : ℕ) (d : X) → list_all f xs ≡ true → i < length xs
    → f (slice_index_or xs i d) ≡ true
all-at f [] i d all lt = absurd (omega arith)
all-at f (x ∷ xs) i d all lt = by_head (f x) refl all (λ i. all-at f xs i d) i lt
  where
    by_head : (b : Bool) → f x ≡ b → (b && list_all f xs) ≡ true
        → ((i : ℕ) → list_all f xs ≡ true → i < length xs → f (slice_index_or xs i d) ≡ true)
        → (i : ℕ) → i < suc (length xs) → f (slice_index_or (x ∷ xs) i d) ≡ true
    by_head false is h later i lt = absurd cc
    by_head true is h later zero lt = is
    by_head true is h later (suc i) lt = later i h (omega arith)

-- an element that does not pass
pub record Fails (X : Type 0) (f : X → Bool) (xs : List X) (d : X) : Type 0 where
  pub at : ℕ
  pub within : at < length xs
  pub fails : f (slice_index_or xs at d) ≡ false

-- where not all pass, some does not
pub not-all-at : {X : Type 0} (f : X → Bool) (xs : List X) (d : X) → list_all f xs ≡ false → Fails X f xs d
not-all-at f [] d off = absurd cc
not-all-at f (x ∷ xs) d off = by_head (f x) refl off (not-all-at f xs d)
  where
    by_head : (b : Bool) → f x ≡ b → (b && list_all f xs) ≡ false → (list_all f xs ≡ false → Fails _ f xs d) → Fails _ f (x ∷ xs) d
    by_head false is h later = record { at = 0; within = omega arith; fails = is }
    by_head true is h later = let r = later h in record { at = suc r.at; within = let lt = r.within in omega arith; fails = r.fails }
