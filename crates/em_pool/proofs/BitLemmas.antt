-- Bits of masked words of 64 bits.
use Rattle.std.proofs.Common.{◌≡◌, ℕ, ◌-◌, ◌*◌, ◌%◌, ◌^◌, ◌<◌, ◌≤◌, min, bit_and, arith, ap, sym, ◌∙◌, w64, ⊎_elim}
use Rattle.std.specs.Int.{bit_at, trailing_zeros}
use Rattle.std.proofs.lemmas.Bool.{cases_lt}
use Rattle.std.proofs.lemmas.Nat.{and_le_l}
use Rattle.std.proofs.lemmas.Nat.Bits.{bit_at_and, bit_at_mask_inside, bit_at_mask_below, bit_at-lt, bit_at_above, bit_at-zero, ones_shl, bit_at-trailing_zeros}

abbrev pub rest : ℕ → ℕ → ℕ
rest n k = bit_and n (18446744073709551615 * 2 ^ k % 18446744073709551616)

bit-rest : (n k i : ℕ) → k ≤ 64 → bit_at (rest n k) i ≡ min (bit_at n i) (bit_at (18446744073709551616 - 2 ^ k) i)
bit-rest n k i le = bit_at_and n _ i ∙ ap (λ m. min (bit_at n i) (bit_at m i)) (ones_shl 64 k le)

pub rest_high : (n k i : ℕ) → k ≤ 64 → k ≤ i → i < 64 → bit_at (rest n k) i ≡ bit_at n i
rest_high n k i le from lt =
    let one = bit_at_mask_inside k 64 i from lt in
    let few = bit_at-lt n i in
    bit-rest n k i le ∙ (ap (min (bit_at n i)) one ∙ omega arith)

pub rest_low : (n k i : ℕ) → k ≤ 64 → i < k → bit_at (rest n k) i ≡ 0
rest_low n k i le lt =
    let none = bit_at_mask_below k 64 i lt in
    bit-rest n k i le ∙ (ap (min (bit_at n i)) none ∙ omega arith)

-- where nothing is left, no bit is set from there on
pub none_left : (n k i : ℕ) → n < 18446744073709551616 → k ≤ 64 → rest n k ≡ 0 → k ≤ i → bit_at n i ≡ 0
none_left n k i fits le none from =
    ⊎_elim (λ lt. sym (rest_high n k i le from lt) ∙ (ap (λ m. bit_at m i) none ∙ bit_at-zero i)) (λ ge. bit_at_above n 64 i fits ge)
    (cases_lt i 64)

pub masked_fits : (n m : ℕ) → n < 18446744073709551616 → bit_and n m < 18446744073709551616
masked_fits n m fits = let le = and_le_l n m in omega arith

pub record Lowest (n k t : ℕ) : Type 0 where
  pub from : k ≤ t
  pub below : t < 64
  pub is_set : bit_at n t ≡ 1
  pub none_before : (i : ℕ) → k ≤ i → i < t → bit_at n i ≡ 0

pub lowest : (n k : ℕ) → n < 18446744073709551616 → k ≤ 64 → 0 < rest n k → Lowest n k (trailing_zeros w64 (rest n k))
lowest n k fits le some =
    let small : rest n k < 18446744073709551616 = masked_fits n _ fits in
    let t = bit_at-trailing_zeros w64 (rest n k) some small in
    let from : k ≤ trailing_zeros w64 (rest n k) =
    ⊎_elim (λ lt. absurd (let z = rest_low n k (trailing_zeros w64 (rest n k)) le lt in let o = t.1 in omega arith)) (λ ge. ge)
    (cases_lt (trailing_zeros w64 (rest n k)) k) in
    record {
      from = from;
      below = t.0;
      is_set = sym (rest_high n k (trailing_zeros w64 (rest n k)) le from t.0) ∙ t.1;
      none_before = λ i a b. let lt : i < 64 = (let q = t.0 in omega arith) in sym (rest_high n k i le a lt) ∙ t.2 i b;
    }
