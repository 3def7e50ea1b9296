-- Sets of numbers by the bits of a word.
use Rattle.std.proofs.Common.{◌≡◌, ◌≢◌, ℕ, zero, suc, ◌+◌, ◌-◌, ◌*◌, ◌/◌, ◌%◌, ◌^◌, ◌<◌, ◌≤◌, ◌==◌, Bool, true, false, List, [], ◌∷◌, length, filter, ◌||◌, cond, if◌then◌else◌, bit_and, bit_or, Some, arith, refl, ap, sym, ◌∙◌, subst, w64, ⊎_elim}
use Rattle.std.specs.Int.{bit_at, bit_not, trailing_zeros}
use Rattle.std.specs.Int.RustNames.{count_ones}
use Rattle.std.proofs.lemmas.Bool.{cases_eq, cases_lt, eq-eqb, ne_eqb}
use Rattle.std.proofs.lemmas.Nat.{ones_cat, ones_le_self, zero_from_ones, shr_below}
use Rattle.std.proofs.lemmas.Nat.Bits.{bit_at_lowest, bit_at-suc, bit_at-zero, shr_and_one, bit_at_ones, bit_at_ones_above, bit_at_clear_same, bit_at_clear_other, bit_at_set_same, bit_at_set_other, bit_at-trailing_zeros, ones_shr}
use Rattle.em_log.specs.History.{has, without}
use Rattle.em_log.specs.Declarations.{below, numbers_from}
use Rattle.em_acks.specs.Words.{is_member, members, IsLeast}

-- numbers that pass a test

cons-has : (b : Bool) (a c : ℕ) (l : List ℕ) → (a == c) ≡ false → has (cond b (a ∷ l) l) c ≡ has l c
cons-has true a c l ne = ap (λ t. t || has l c) ne
cons-has false a c l ne = refl

cons-has_same : (b : Bool) (a : ℕ) (l : List ℕ) → has l a ≡ false → has (cond b (a ∷ l) l) a ≡ b
cons-has_same true a l none = ap (λ t. t || has l a) (eq-eqb a a refl)
cons-has_same false a l none = none

has-outside : (p : ℕ → Bool) (w a c : ℕ) → c < a → has (filter p (numbers_from a w)) c ≡ false
has-outside p zero a c lt = refl
has-outside p (suc w) a c lt =
    cons-has (p a) a c (filter p (numbers_from (suc a) w)) (ne_eqb a c (λ e. absurd (omega arith))) ∙ has-outside p w (suc a) c (omega arith)

pub has-passing : (p : ℕ → Bool) (w a c : ℕ) → a ≤ c → c < a + w → has (filter p (numbers_from a w)) c ≡ p c
has-passing p zero a c le lt = absurd (omega arith)
has-passing p (suc w) a c le lt =
    ⊎_elim
    (λ e. subst (λ k. has (filter p (numbers_from a (suc w))) k ≡ p k) e
    (cons-has_same (p a) a (filter p (numbers_from (suc a) w)) (has-outside p w (suc a) a (omega arith))))
    (λ ne. cons-has (p a) a c (filter p (numbers_from (suc a) w)) (ne_eqb a c ne) ∙ has-passing p w (suc a) c (omega arith) (omega arith))
    (cases_eq a c)

pub has-above : (p : ℕ → Bool) (w a c : ℕ) → a + w ≤ c → has (filter p (numbers_from a w)) c ≡ false
has-above p zero a c le = refl
has-above p (suc w) a c le =
    cons-has (p a) a c (filter p (numbers_from (suc a) w)) (ne_eqb a c (λ e. absurd (omega arith))) ∙ has-above p w (suc a) c (omega arith)

-- without c pass the numbers other than c

cons-without_same : (b : Bool) (a c : ℕ) (l : List ℕ) → a ≡ c → without c (cond b (a ∷ l) l) ≡ without c l
cons-without_same true a c l e = ap (λ t. if t then without c l else (a ∷ without c l)) (eq-eqb a c e)
cons-without_same false a c l e = refl

cons-without_other : (b : Bool) (a c : ℕ) (l : List ℕ) → a ≢ c → without c (cond b (a ∷ l) l) ≡ cond b (a ∷ without c l) (without c l)
cons-without_other true a c l ne = ap (λ t. if t then without c l else (a ∷ without c l)) (ne_eqb a c ne)
cons-without_other false a c l ne = refl

pub without-passing : (p q : ℕ → Bool) (c : ℕ) → q c ≡ false → (w a : ℕ) → ((i : ℕ) → a ≤ i → i < a + w → i ≢ c → q i ≡ p i)
    → filter q (numbers_from a w) ≡ without c (filter p (numbers_from a w))
without-passing p q c out zero a same = refl
without-passing p q c out (suc w) a same =
    let rest = without-passing p q c out w (suc a) (λ i le lt ne. same i (omega arith) (omega arith) ne) in
    ⊎_elim
    (λ e. ap (λ b. cond b (a ∷ filter q (numbers_from (suc a) w)) (filter q (numbers_from (suc a) w))) (ap q e ∙ out)
    ∙ (rest ∙ sym (cons-without_same (p a) a c (filter p (numbers_from (suc a) w)) e)))
    (λ ne. (λ i. cond (same a (omega arith) (omega arith) ne i) (a ∷ rest i) (rest i))
    ∙ sym (cons-without_other (p a) a c (filter p (numbers_from (suc a) w)) ne))
    (cases_eq a c)

none-passing : (p : ℕ → Bool) (w a : ℕ) → ((i : ℕ) → a ≤ i → p i ≡ false) → filter p (numbers_from a w) ≡ []
none-passing p zero a none = refl
none-passing p (suc w) a none =
    ap (λ b. cond b (a ∷ filter p (numbers_from (suc a) w)) (filter p (numbers_from (suc a) w))) (none a (omega arith))
    ∙ none-passing p w (suc a) (λ i le. none i (omega arith))

-- the first k pass
first-passing : (p : ℕ → Bool) (k w a : ℕ) → k ≤ w → ((i : ℕ) → a ≤ i → i < a + k → p i ≡ true) → ((i : ℕ) → a + k ≤ i → p i ≡ false)
    → filter p (numbers_from a w) ≡ numbers_from a k
first-passing p zero w a le all none = none-passing p w a (λ i from. none i (omega arith))
first-passing p (suc k) zero a le all none = absurd (omega arith)
first-passing p (suc k) (suc w) a le all none =
    ap (λ b. cond b (a ∷ filter p (numbers_from (suc a) w)) (filter p (numbers_from (suc a) w))) (all a (omega arith) (omega arith))
    ∙ ap (λ l. a ∷ l) (first-passing p k w (suc a) (omega arith) (λ i from lt. all i (omega arith) (omega arith)) (λ i from. none i (omega arith)))

-- as many pass as bits are set
bit-ones : (n : ℕ) → n < 2 → count_ones n ≡ cond (n == 1) 1 0
bit-ones n lt = ⊎_elim one none (cases_eq n 1)
  where
    one : n ≡ 1 → count_ones n ≡ cond (n == 1) 1 0
    one e =
        let most = ones_le_self n in
        ⊎_elim (λ lt'. let z = zero_from_ones n (omega arith) in absurd (omega arith))
        (λ ge. (let k : count_ones n ≡ 1 = omega arith in k) ∙ sym (ap (λ b. cond b 1 0) (eq-eqb n 1 e))) (cases_lt (count_ones n) 1)

    none : n ≢ 1 → count_ones n ≡ cond (n == 1) 1 0
    none ne =
        let most = ones_le_self n in
        let z : n ≡ 0 = ⊎_elim (λ lt'. omega arith) (λ ge. absurd (ne (omega arith))) (cases_lt n 1) in
        (let k : count_ones n ≡ 0 = omega arith in k) ∙ sym (ap (λ b. cond b 1 0) (ne_eqb n 1 ne))

halves : (n : ℕ) → count_ones n ≡ count_ones (n / 2) + count_ones (n % 2)
halves n =
    let small : n % 2 < 2 ^ 1 = omega arith in
    let cat : count_ones (n / 2 * 2 ^ 1 + n % 2) ≡ count_ones (n / 2) + count_ones (n % 2) = ones_cat 1 (n / 2) (n % 2) small in
    let same : n / 2 * 2 ^ 1 + n % 2 ≡ n = omega arith in
    ap count_ones (sym same) ∙ cat

cons-length : (b : Bool) (a : ℕ) (l : List ℕ) → length (cond b (a ∷ l) l) ≡ length l + cond b 1 0
cons-length true a l = omega arith
cons-length false a l = omega arith

pub count-passing : (w n a : ℕ) (p : ℕ → Bool) → n < 2 ^ w → ((i : ℕ) → i < w → p (a + i) ≡ (bit_at n i == 1))
    → length (filter p (numbers_from a w)) ≡ count_ones n
count-passing zero n a p lt same = let most = ones_le_self n in omega arith
count-passing (suc w) n a p lt same =
    let half : n / 2 < 2 ^ w = shr_below n w 1 (subst (λ k. n < 2 ^ k) (omega arith) lt) in
    let rest =
    count-passing w (n / 2) (suc a) p half
    (λ i lt'. subst (λ k. p k ≡ (bit_at (n / 2) i == 1)) (omega arith) (same (suc i) (omega arith) ∙ ap (λ b. b == 1) (bit_at-suc n i))) in
    let here : p a ≡ (n % 2 == 1) =
    subst (λ k. p k ≡ (n % 2 == 1)) (omega arith) (same 0 (omega arith) ∙ ap (λ b. b == 1) (bit_at_lowest n)) in
    let lowest = bit-ones (n % 2) (omega arith) ∙ sym (ap (λ b. cond b 1 0) here) in
    let h = halves n in
    let one_more = cons-length (p a) a (filter p (numbers_from (suc a) w)) in
    one_more ∙ omega arith

-- sets of numbers

pub member-has : (bits c : ℕ) → c < 64 → (bit_and (bits / 2 ^ c) 1 == 1) ≡ has (members bits) c
unfolding members
member-has bits c lt = ap (λ b. b == 1) (shr_and_one bits c) ∙ sym (has-passing (is_member bits) 64 0 c (omega arith) lt)

pub none-above : (bits c : ℕ) → 64 ≤ c → false ≡ has (members bits) c
unfolding members
none-above bits c le = sym (has-above (is_member bits) 64 0 c le)

pub members-first : (count : ℕ) → count ≤ 64 → members (18446744073709551615 / 2 ^ (64 - count)) ≡ below count
unfolding members
members-first count le =
    let ones : 18446744073709551615 / 2 ^ (64 - count) ≡ 2 ^ count - 1 =
    ones_shr 64 (64 - count) (omega arith) ∙ ap (λ k. 2 ^ k - 1) (omega arith) in
    ap (λ bits. filter (is_member bits) (below 64)) ones
    ∙ first-passing (is_member (2 ^ count - 1)) count 64 0 le
    (λ i from lt. ap (λ b. b == 1) (bit_at_ones count i (omega arith)))
    (λ i from. ap (λ b. b == 1) (bit_at_ones_above count i (omega arith)))

pub members-none : members 0 ≡ []
unfolding members
members-none = none-passing (is_member 0) 64 0 (λ i le. ap (λ b. b == 1) (bit_at-zero i))

pub members-without : (bits c : ℕ) → c < 64 → members (bit_and bits (bit_not w64 (1 * 2 ^ c % 18446744073709551616))) ≡ without c (members bits)
unfolding members
members-without bits c lt =
    without-passing (is_member bits) (is_member (bit_and bits (bit_not w64 (1 * 2 ^ c % 18446744073709551616)))) c
    (ap (λ b. b == 1) (bit_at_clear_same w64 bits c lt)) 64 0
    (λ i from lt' ne. ap (λ b. b == 1) (bit_at_clear_other w64 bits c lt i lt' ne))

pub members-length : (bits : ℕ) → bits < 18446744073709551616 → count_ones bits ≡ length (members bits)
unfolding members
members-length bits fits = sym (count-passing 64 bits 0 (is_member bits) fits (λ i lt. ap (is_member bits) (omega arith)))

pub members-set_same : (bits k : ℕ) → k < 64 → has (members (bit_or bits (1 * 2 ^ k % 18446744073709551616))) k ≡ true
unfolding members
members-set_same bits k lt =
    has-passing (is_member (bit_or bits (1 * 2 ^ k % 18446744073709551616))) 64 0 k (omega arith) lt ∙ ap (λ b. b == 1) (bit_at_set_same w64 bits k lt)

pub members-set_other : (bits k i : ℕ) → k < 64 → i ≢ k → has (members (bit_or bits (1 * 2 ^ k % 18446744073709551616))) i ≡ has (members bits) i
unfolding members
members-set_other bits k i lt ne =
    ⊎_elim
    (λ within. has-passing (is_member (bit_or bits (1 * 2 ^ k % 18446744073709551616))) 64 0 i (omega arith) within
    ∙ (ap (λ b. b == 1) (bit_at_set_other w64 bits k lt i ne) ∙ sym (has-passing (is_member bits) 64 0 i (omega arith) within)))
    (λ above. has-above (is_member (bit_or bits (1 * 2 ^ k % 18446744073709551616))) 64 0 i (omega arith)
    ∙ sym (has-above (is_member bits) 64 0 i (omega arith)))
    (cases_lt i 64)

pub has-without_same : (c : ℕ) (l : List ℕ) → has (without c l) c ≡ false
has-without_same c [] = refl
has-without_same c (a ∷ l) =
    ⊎_elim (λ e. ap (λ b. has (if b then without c l else (a ∷ without c l)) c) (eq-eqb a c e) ∙ has-without_same c l)
    (λ ne. ap (λ b. has (if b then without c l else (a ∷ without c l)) c) (ne_eqb a c ne)
    ∙ (ap (λ b. b || has (without c l) c) (ne_eqb a c ne) ∙ has-without_same c l))
    (cases_eq a c)

pub has-without_other : (c i : ℕ) (l : List ℕ) → i ≢ c → has (without c l) i ≡ has l i
has-without_other c i [] ne = refl
has-without_other c i (a ∷ l) ne =
    ⊎_elim
    (λ e. ap (λ b. has (if b then without c l else (a ∷ without c l)) i) (eq-eqb a c e)
    ∙ (has-without_other c i l ne ∙ sym (ap (λ b. b || has l i) (ne_eqb a i (λ f. ne (sym f ∙ e))))))
    (λ apart. ap (λ b. has (if b then without c l else (a ∷ without c l)) i) (ne_eqb a c apart)
    ∙ ap (λ b. (a == i) || b) (has-without_other c i l ne))
    (cases_eq a c)

-- a number put in, or taken out
pub put-as : (was now : List ℕ) (k : ℕ) (b : Bool) → has now k ≡ b → ((i : ℕ) → i ≢ k → has now i ≡ has was i)
    → (i : ℕ) → has now i ≡ (if i == k then b else has was i)
put-as was now k b same other i =
    ⊎_elim (λ e. ap (has now) e ∙ (same ∙ sym (ap (λ t. if t then b else has was i) (eq-eqb i k e))))
    (λ ne. other i ne ∙ sym (ap (λ t. if t then b else has was i) (ne_eqb i k ne)))
    (cases_eq i k)

pub least-member : (bits : ℕ) → 0 < bits → bits < 18446744073709551616 → IsLeast (has (members bits)) (Some (trailing_zeros w64 bits))
unfolding members
least-member bits some fits =
    let t = bit_at-trailing_zeros w64 bits some fits in (
      has-passing (is_member bits) 64 0 (trailing_zeros w64 bits) (omega arith) t.0 ∙ eq-eqb (bit_at bits (trailing_zeros w64 bits)) 1 t.1,
      λ m lt. has-passing (is_member bits) 64 0 m (omega arith) (let most = t.0 in omega arith)
          ∙ ne_eqb (bit_at bits m) 1 (λ one. absurd (let none = t.2 m lt in omega arith)),
    )
