-- Sums over the numbers below a bound.
use Rattle.std.proofs.Common.{◌≡◌, ℕ, zero, suc, ◌+◌, ◌≤◌, ◌<◌, arith, refl, ap}
use Rattle.std.specs.List.{sum_by}
use Rattle.std.proofs.lemmas.List.Sums.{sum_by-cons, sum_by-le-sum_by}
use Rattle.em_log.specs.Declarations.{numbers_from}
use Rattle.em_laws.proofs.Cores.{Compared, Same, Other, compared}

same-from : (f h : ℕ → ℕ) (a n : ℕ) → ((d : ℕ) → a ≤ d → f d ≡ h d) → sum_by f (numbers_from a n) ≡ sum_by h (numbers_from a n)
same-from f h a zero same = refl
same-from f h a (suc n) same =
    let later = same-from f h (suc a) n (λ d le. same d (omega (arith, le))) in
    let here = same a (omega arith) in
    let one = sum_by-cons f a (numbers_from (suc a) n) in
    let two = sum_by-cons h a (numbers_from (suc a) n) in
    omega (arith, later, here, one, two)

-- where only the term of c changes, the sum changes by it
pub changed-at : (f h : ℕ → ℕ) (c a n : ℕ) → ((d : ℕ) → (d ≡ c → ⊥) → f d ≡ h d) → a ≤ c → c < a + n
    → sum_by h (numbers_from a n) + f c ≡ sum_by f (numbers_from a n) + h c
changed-at f h c a zero same low high = absurd (omega (arith, low, high))
changed-at f h c a (suc n) same low high = by_test (compared a c) (changed-at f h c (suc a) n same)
  where
    one : sum_by f (numbers_from a (suc n)) ≡ f a + sum_by f (numbers_from (suc a) n)
    one = sum_by-cons f a (numbers_from (suc a) n)

    two : sum_by h (numbers_from a (suc n)) ≡ h a + sum_by h (numbers_from (suc a) n)
    two = sum_by-cons h a (numbers_from (suc a) n)

    by_test : Compared a c → (suc a ≤ c → c < suc a + n → sum_by h (numbers_from (suc a) n) + f c ≡ sum_by f (numbers_from (suc a) n) + h c)
        → sum_by h (numbers_from a (suc n)) + f c ≡ sum_by f (numbers_from a (suc n)) + h c
    by_test (Same t e) later =
        let others = same-from f h (suc a) n (λ d le. same d (λ at. omega (arith, le, at, e))) in
        let here = ap f e in
        let there = ap h e in
        omega (arith, one, two, others, here, there)
    by_test (Other t apart) later =
        let rest = later (omega (arith, low, apart)) (omega (arith, high)) in
        let here = same a apart in
        omega (arith, one, two, rest, here)

-- where no term falls and that of c rises, the sum rises
pub rises-at : (f h : ℕ → ℕ) (c a n : ℕ) → ((d : ℕ) → f d ≤ h d) → f c + 1 ≤ h c → a ≤ c → c < a + n
    → sum_by f (numbers_from a n) + 1 ≤ sum_by h (numbers_from a n)
rises-at f h c a zero up more low high = absurd (omega (arith, low, high))
rises-at f h c a (suc n) up more low high = by_test (compared a c) (rises-at f h c (suc a) n up more)
  where
    one : sum_by f (numbers_from a (suc n)) ≡ f a + sum_by f (numbers_from (suc a) n)
    one = sum_by-cons f a (numbers_from (suc a) n)

    two : sum_by h (numbers_from a (suc n)) ≡ h a + sum_by h (numbers_from (suc a) n)
    two = sum_by-cons h a (numbers_from (suc a) n)

    by_test : Compared a c → (suc a ≤ c → c < suc a + n → sum_by f (numbers_from (suc a) n) + 1 ≤ sum_by h (numbers_from (suc a) n))
        → sum_by f (numbers_from a (suc n)) + 1 ≤ sum_by h (numbers_from a (suc n))
    by_test (Same t e) later =
        let rest = sum_by-le-sum_by f h (numbers_from (suc a) n) up in
        let here = ap f e in
        let there = ap h e in
        omega (arith, one, two, rest, here, there, more)
    by_test (Other t apart) later =
        let rest = later (omega (arith, low, apart)) (omega (arith, high)) in
        let here = up a in
        omega (arith, one, two, rest, here)

-- a term is at most the sum
pub term-le : (f : ℕ → ℕ) (c a n : ℕ) → a ≤ c → c < a + n → f c ≤ sum_by f (numbers_from a n)
term-le f c a zero low high = absurd (omega (arith, low, high))
term-le f c a (suc n) low high = by_test (compared a c) (term-le f c (suc a) n)
  where
    one : sum_by f (numbers_from a (suc n)) ≡ f a + sum_by f (numbers_from (suc a) n)
    one = sum_by-cons f a (numbers_from (suc a) n)

    by_test : Compared a c → (suc a ≤ c → c < suc a + n → f c ≤ sum_by f (numbers_from (suc a) n)) → f c ≤ sum_by f (numbers_from a (suc n))
    by_test (Same t e) later = let here = ap f e in omega (arith, one, here)
    by_test (Other t apart) later = let rest = later (omega (arith, low, apart)) (omega (arith, high)) in omega (arith, one, rest)
