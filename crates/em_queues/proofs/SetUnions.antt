-- Unions and differences of sets of queues, word by word.
use Rattle.std.proofs.Common.{◌≡◌, ℕ, zero, suc, ◌-◌, ◌/◌, ◌%◌, ◌<◌, ◌≤◌, ◌==◌, ◌&&◌, ◌||◌, not, Bool, true, false, min, max, List, [], ◌∷◌, length, slice_index, bit_and, bit_or, refl, ap, sym, ◌∙◌, arith, w64}
use Rattle.std.specs.Int.{bit_at}
use Rattle.std.proofs.lemmas.List.{get_or_past}
use Rattle.std.proofs.lemmas.Nat.Bits.{bit_at_and, bit_at_or, bit_at_not, bit_at-lt}
use Rattle.em_queues.specs.declared.set.QueueSet.{QueueSet}
use Rattle.em_queues.specs.Sets.{contains}

-- four words of two sets, joined
abbrev pub joined : (ℕ → ℕ → ℕ) → QueueSet → QueueSet → QueueSet
joined f a b =
    record {
      words = f (slice_index a.words 0) (slice_index b.words 0) ∷ f (slice_index a.words 1) (slice_index b.words 1)
          ∷ f (slice_index a.words 2) (slice_index b.words 2) ∷ f (slice_index a.words 3) (slice_index b.words 3) ∷ [];
    }

joined-at : (f : ℕ → ℕ → ℕ) (a b : QueueSet) → f 0 0 ≡ 0 → length a.words ≤ 4 → length b.words ≤ 4 → (w : ℕ)
    → slice_index (joined f a b).words w ≡ f (slice_index a.words w) (slice_index b.words w)
joined-at f a b none la lb zero = refl
joined-at f a b none la lb (suc zero) = refl
joined-at f a b none la lb (suc (suc zero)) = refl
joined-at f a b none la lb (suc (suc (suc zero))) = refl
joined-at f a b none la lb (suc (suc (suc (suc w)))) =
    let left = get_or_past a.words (suc (suc (suc (suc w)))) 0 (omega (arith, la)) in
    let right = get_or_past b.words (suc (suc (suc (suc w)))) 0 (omega (arith, lb)) in
    sym none ∙ (λ i. f (sym left i) (sym right i))

one-of : (m n : ℕ) → m < 2 → n < 2 → (max m n == 1) ≡ ((m == 1) || (n == 1))
one-of zero zero lm ln = refl
one-of zero (suc zero) lm ln = refl
one-of (suc zero) zero lm ln = refl
one-of (suc zero) (suc zero) lm ln = refl
one-of (suc (suc m)) n lm ln = absurd (omega (arith, lm))
one-of m (suc (suc n)) lm ln = absurd (omega (arith, ln))

one-less : (m n : ℕ) → m < 2 → n < 2 → (min m (1 - n) == 1) ≡ ((m == 1) && not (n == 1))
one-less zero zero lm ln = refl
one-less zero (suc zero) lm ln = refl
one-less (suc zero) zero lm ln = refl
one-less (suc zero) (suc zero) lm ln = refl
one-less (suc (suc m)) n lm ln = absurd (omega (arith, lm))
one-less m (suc (suc n)) lm ln = absurd (omega (arith, ln))

pub in-union : (a b : QueueSet) → length a.words ≤ 4 → length b.words ≤ 4 → (q : ℕ) → contains (joined bit_or a b) q ≡ (contains a q || contains b q)
in-union a b la lb q =
    let x = slice_index a.words (q / 64) in
    let y = slice_index b.words (q / 64) in
    ap (λ n. bit_at n (q % 64) == 1) (joined-at bit_or a b refl la lb (q / 64))
    ∙ (ap (λ n. n == 1) (bit_at_or x y (q % 64)) ∙ one-of (bit_at x (q % 64)) (bit_at y (q % 64)) (bit_at-lt x (q % 64)) (bit_at-lt y (q % 64)))

abbrev pub less : ℕ → ℕ → ℕ
less x y = bit_and x (18446744073709551615 - y)

abbrev pub Fits : QueueSet → ℕ → Type 0
Fits b w = slice_index b.words w < 18446744073709551616

all-fit : (b : QueueSet) → length b.words ≤ 4 → Fits b 0 → Fits b 1 → Fits b 2 → Fits b 3 → (w : ℕ) → Fits b w
all-fit b le f0 f1 f2 f3 zero = f0
all-fit b le f0 f1 f2 f3 (suc zero) = f1
all-fit b le f0 f1 f2 f3 (suc (suc zero)) = f2
all-fit b le f0 f1 f2 f3 (suc (suc (suc zero))) = f3
all-fit b le f0 f1 f2 f3 (suc (suc (suc (suc w)))) = let none = get_or_past b.words (suc (suc (suc (suc w)))) 0 (omega (arith, le)) in omega (arith, none)

pub in-difference : (a b : QueueSet) → length a.words ≤ 4 → length b.words ≤ 4 → Fits b 0 → Fits b 1 → Fits b 2 → Fits b 3 → (q : ℕ)
    → contains (joined less a b) q ≡ (contains a q && not (contains b q))
in-difference a b la lb f0 f1 f2 f3 q =
    let x = slice_index a.words (q / 64) in
    let y = slice_index b.words (q / 64) in
    let left = bit_at-lt x (q % 64) in
    let right = bit_at-lt y (q % 64) in
    ap (λ n. bit_at n (q % 64) == 1) (joined-at less a b refl la lb (q / 64))
    ∙ (ap (λ n. n == 1) (bit_at_and x (18446744073709551615 - y) (q % 64) ∙ ap (min (bit_at x (q % 64))) (bit_at_not w64 y (q % 64) (all-fit b lb f0 f1 f2 f3 (q / 64)) (omega arith)))
    ∙ one-less (bit_at x (q % 64)) (bit_at y (q % 64)) left right)
