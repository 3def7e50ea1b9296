-- Sums and counts over the numbers below another, where all but one of the terms stay.
use Rattle.std.proofs.Common.{◌≡◌, ◌≢◌, ℕ, zero, suc, ◌+◌, ◌*◌, ◌≤◌, ◌<◌, Bool, true, false, List, [], ◌∷◌, cond, refl, ap, arith}
use Rattle.std.specs.List.{sum_by, count_by}
use Rattle.std.proofs.lemmas.List.Sums.{sum_by-cons}
use Rattle.em_log.specs.Declarations.{numbers_from, below}
use Rattle.em_laws.proofs.Cores.{Compared, Same, Other, compared}
use Rattle.em_laws.proofs.Tickets.{one_if}

-- where each term stays, the sum does
pub sum-same : (f g : ℕ → ℕ) (xs : List ℕ) → ((c : ℕ) → g c ≡ f c) → sum_by g xs ≡ sum_by f xs
sum-same f g [] same = refl
sum-same f g (x ∷ xs) same =
    let here = same x in
    let rest = sum-same f g xs same in
    let new = sum_by-cons g x xs in
    let old = sum_by-cons f x xs in omega (arith, here, rest, new, old)

sum-above : (f g : ℕ → ℕ) (d a n : ℕ) → ((c : ℕ) → c ≢ d → g c ≡ f c) → d < a → sum_by g (numbers_from a n) ≡ sum_by f (numbers_from a n)
sum-above f g d a zero same lt = refl
sum-above f g d a (suc n) same lt =
    let here = same a (λ e. omega (arith, e, lt)) in
    let rest = sum-above f g d (suc a) n same (omega (arith, lt)) in
    let new = sum_by-cons g a (numbers_from (suc a) n) in
    let old = sum_by-cons f a (numbers_from (suc a) n) in omega (arith, here, rest, new, old)

sum-from : (f g : ℕ → ℕ) (d a n : ℕ) → ((c : ℕ) → c ≢ d → g c ≡ f c) → a ≤ d → d < a + n
    → sum_by g (numbers_from a n) + f d ≡ sum_by f (numbers_from a n) + g d
sum-from f g d a zero same low high = absurd (omega arith)
sum-from f g d a (suc n) same low high = by_test (compared a d) (sum-from f g d (suc a) n same)
  where
    by_test : Compared a d → (suc a ≤ d → d < suc a + n → sum_by g (numbers_from (suc a) n) + f d ≡ sum_by f (numbers_from (suc a) n) + g d)
        → sum_by g (numbers_from a (suc n)) + f d ≡ sum_by f (numbers_from a (suc n)) + g d
    by_test (Same t e) later =
        let rest = sum-above f g d (suc a) n same (omega (arith, e)) in
        let new = sum_by-cons g a (numbers_from (suc a) n) in
        let old = sum_by-cons f a (numbers_from (suc a) n) in
        let gown : g a ≡ g d = ap g e in
        let fown : f a ≡ f d = ap f e in
        omega (arith, rest, new, old, gown, fown)
    by_test (Other t e) later =
        let rest = later (omega (arith, e)) (omega arith) in
        let here = same a e in
        let new = sum_by-cons g a (numbers_from (suc a) n) in
        let old = sum_by-cons f a (numbers_from (suc a) n) in
        omega (arith, rest, here, new, old)

-- a change of one term
pub sum-one : (f g : ℕ → ℕ) (d n : ℕ) → d < n → ((c : ℕ) → c ≢ d → g c ≡ f c) → sum_by g (below n) + f d ≡ sum_by f (below n) + g d
sum-one f g d n lt same = sum-from f g d 0 n same (omega arith) (omega arith)

sum-more-from : (f : ℕ → ℕ) (a n : ℕ) → sum_by f (numbers_from a n) ≤ sum_by f (numbers_from a (suc n))
sum-more-from f a zero = omega arith
sum-more-from f a (suc n) =
    let rest = sum-more-from f (suc a) n in
    let one = sum_by-cons f a (numbers_from (suc a) n) in
    let two = sum_by-cons f a (numbers_from (suc a) (suc n)) in omega (arith, rest, one, two)

-- one number more
pub sum-more : (f : ℕ → ℕ) (n : ℕ) → sum_by f (below n) ≤ sum_by f (below (suc n))
sum-more f n = sum-more-from f 0 n

sum-most-from : (f : ℕ → ℕ) (m a n : ℕ) → ((c : ℕ) → f c ≤ m) → sum_by f (numbers_from a n) ≤ n * m
sum-most-from f m a zero most = omega arith
sum-most-from f m a (suc n) most =
    let here = most a in
    let rest = sum-most-from f m (suc a) n most in
    let one = sum_by-cons f a (numbers_from (suc a) n) in omega (arith, here, rest, one)

-- each term is at most m
pub sum-most : (f : ℕ → ℕ) (m n : ℕ) → ((c : ℕ) → f c ≤ m) → sum_by f (below n) ≤ n * m
sum-most f m n most = sum-most-from f m 0 n most

-- counts

pub one_if-le : (b : Bool) → one_if b ≤ 1
one_if-le true = omega arith
one_if-le false = omega arith

one_if-cond : (b : Bool) → cond b 1 0 ≡ one_if b
one_if-cond true = refl
one_if-cond false = refl

pub count-one : (p r : ℕ → Bool) (d n : ℕ) → d < n → ((c : ℕ) → c ≢ d → r c ≡ p c) → count_by r (below n) + one_if (p d) ≡ count_by p (below n) + one_if (r d)
count-one p r d n lt same =
    let sum = sum-one (λ c. cond (p c) 1 0) (λ c. cond (r c) 1 0) d n lt (λ c ne. ap (λ b. cond b 1 0) (same c ne)) in
    let old = one_if-cond (p d) in
    let new = one_if-cond (r d) in omega (arith, sum, old, new)

one-le : (b : Bool) → cond b 1 0 ≤ 1
one-le true = omega arith
one-le false = omega arith

pub count-le : (p : ℕ → Bool) (n : ℕ) → count_by p (below n) ≤ n
count-le p n = let most = sum-most (λ c. cond (p c) 1 0) 1 n (λ c. one-le (p c)) in omega (arith, most)

pub count-more : (p : ℕ → Bool) (n : ℕ) → count_by p (below n) ≤ count_by p (below (suc n))
count-more p n = sum-more (λ c. cond (p c) 1 0) n

pub count-none : (p : ℕ → Bool) (n : ℕ) → ((c : ℕ) → p c ≡ false) → count_by p (below n) ≡ 0
count-none p n none = let most = sum-most (λ c. cond (p c) 1 0) 0 n (λ c. by_test c (p c) (none c)) in omega (arith, most)
  where
    by_test : (c : ℕ) (b : Bool) → b ≡ false → cond b 1 0 ≤ 0
    by_test c true h = absurd cc
    by_test c false h = omega arith
