-- Sets of indices in words of 64 bits.
use Rattle.std.proofs.Common.{◌≡◌, ◌≢◌, ℕ, zero, suc, ◌+◌, ◌-◌, ◌*◌, ◌/◌, ◌%◌, ◌<◌, ◌≤◌, Bool, true, false, not, ◌==◌, if◌then◌else◌, List, [], ◌∷◌, ◌++◌, map, length, get_or, set, slice_index, replicate, arith, Option, Some, None, refl, ap, sym, ◌∙◌, subst, ⊎_elim, inl, inr, ◌⊎◌, zero-add, length-set, get_or-set_same, get_or-set_other}
use Rattle.std.specs.Int.{bit_at}
use Rattle.std.proofs.lemmas.Bool.{cases_lt, cases_eq, eq-eqb, eqb-true}
use Rattle.std.proofs.lemmas.List.{same_lists, get_or_past, get_or_read, get_or-replicate, length-replicate, set_at, replicate_more, append_assoc}
use Rattle.std.proofs.lemmas.Nat.Bits.{bit_at-lt, bit_at-zero, same_from_bits}
use Rattle.em_log.specs.Declarations.{numbers_from}
use Rattle.em_pool.specs.Indices.{is_member, AreSummed, IsFirst, IsSummed, members}

pub length-numbers : {B : Type 0} (f : ℕ → B) (n a : ℕ) → length (map f (numbers_from a n)) ≡ n
length-numbers f zero a = refl
length-numbers f (suc n) a = ap (λ m. suc m) (length-numbers f n (suc a))

pub at-numbers : {B : Type 0} (f : ℕ → B) (n a i : ℕ) (d : B) → i < n → get_or (map f (numbers_from a n)) i d ≡ f (a + i)
at-numbers f zero a i d lt = absurd (omega arith)
at-numbers f (suc n) a zero d lt = ap f (omega arith)
at-numbers f (suc n) a (suc i) d lt = at-numbers f n (suc a) i d (omega arith) ∙ ap f (omega arith)

-- a set below its size is what its words say
pub at-members : (size : ℕ) (words : List ℕ) (i : ℕ) (d : Bool) → i < size → get_or (members size words) i d ≡ is_member words i
at-members size words i d lt = at-numbers (is_member words) size 0 i d lt ∙ ap (is_member words) (zero-add i)

pub length-members : (size : ℕ) (words : List ℕ) → length (members size words) ≡ size
length-members size words = length-numbers (is_member words) size 0

pub member-is : {summary : ℕ} (size : ℕ) (words : List ℕ) → IsSummed size words summary → (i : ℕ)
    → get_or (members size words) i false ≡ is_member words i
member-is size words s i =
    ⊎_elim (λ lt. at-members size words i false lt)
    (λ past. get_or_past (members size words) i false (let l = length-members size words in omega arith) ∙ sym (ap (λ b. b == 1) (s.within i past)))
    (cases_lt i size)

pub bit_cases : (n i : ℕ) → (bit_at n i ≡ 0) ⊎ (bit_at n i ≡ 1)
bit_cases n i = ⊎_elim (λ e. inl e) (λ ne. inr (let l = bit_at-lt n i in omega arith)) (cases_eq (bit_at n i) 0)

-- the word v is the old one of index i with the bit of i put
pub record IsPut (words : List ℕ) (i : ℕ) (is_in : Bool) (v : ℕ) : Type 0 where
  pub same : bit_at v (i % 64) ≡ (if is_in then 1 else 0)
  pub others : (j : ℕ) → j ≢ i % 64 → bit_at v j ≡ bit_at (slice_index words (i / 64)) j

put_bit : (b : Bool) → ((if b then 1 else 0) == 1) ≡ b
put_bit true = refl
put_bit false = refl

pub member-put_same : (words : List ℕ) (i : ℕ) (is_in : Bool) (v : ℕ) → IsPut words i is_in v → i / 64 < length words
    → is_member (set words (i / 64) v) i ≡ is_in
member-put_same words i is_in v put lt =
    ap (λ w. bit_at w (i % 64) == 1) (get_or-set_same words (i / 64) v 0 lt) ∙ (ap (λ b. b == 1) put.same ∙ put_bit is_in)

pub bit-put_other : (words : List ℕ) (i : ℕ) (is_in : Bool) (v j : ℕ) → IsPut words i is_in v → i / 64 < length words → j ≢ i
    → bit_at (slice_index (set words (i / 64) v) (j / 64)) (j % 64) ≡ bit_at (slice_index words (j / 64)) (j % 64)
bit-put_other words i is_in v j put lt ne =
    ⊎_elim (λ e. let apart : j % 64 ≢ i % 64 = (λ same. ne (omega arith)) in
    ap (λ w. bit_at (slice_index (set words (i / 64) v) w) (j % 64)) e
    ∙ (ap (λ w. bit_at w (j % 64)) (get_or-set_same words (i / 64) v 0 lt) ∙ (put.others (j % 64) apart ∙ ap (λ w. bit_at (slice_index words w) (j % 64)) (sym e))))
    (λ apart. ap (λ w. bit_at w (j % 64)) (get_or-set_other words (i / 64) (j / 64) v 0 apart))
    (cases_eq (j / 64) (i / 64))

pub members-put : (size : ℕ) (words : List ℕ) (i : ℕ) (is_in : Bool) (v : ℕ) → IsPut words i is_in v → i / 64 < length words → i < size
    → members size (set words (i / 64) v) ≡ set (members size words) i is_in
members-put size words i is_in v put lt within =
    same_lists _ _ (length-members size _ ∙ sym (length-set (members size words) i is_in ∙ length-members size words))
    (λ k d below_size. let k_lt : k < size = (let l = length-members size (set words (i / 64) v) in omega arith) in
    at-members size _ k d k_lt
    ∙ ⊎_elim (λ e. let i_lt : i < length (members size words) = (let l = length-members size words in omega arith) in
    subst (λ m. is_member (set words (i / 64) v) m ≡ get_or (set (members size words) i is_in) m d) (sym e)
    (member-put_same words i is_in v put lt ∙ sym (get_or-set_same (members size words) i is_in d i_lt)))
    (λ ne. ap (λ b. b == 1) (bit-put_other words i is_in v k put lt ne)
    ∙ sym (get_or-set_other (members size words) i k is_in d ne ∙ at-members size words k d k_lt))
    (cases_eq k i))

is_nonzero : (v : ℕ) (b : Bool) → (v == 0) ≡ b → ◌≡◌ {A = ℕ} (if not b then 1 else 0) 0 → v ≡ 0
is_nonzero v true e h = eqb-true v 0 e
is_nonzero v false e h = absurd (omega arith)

is_positive : (v : ℕ) (b : Bool) → (v == 0) ≡ b → ◌≡◌ {A = ℕ} (if not b then 1 else 0) 1 → 0 < v
is_positive v true e h = absurd (omega arith)
is_positive v false e h = ⊎_elim (λ z. absurd (let t = eq-eqb v 0 z in cc)) (λ ne. omega arith) (cases_eq v 0)

pub put-summed : {summary : ℕ} (size : ℕ) (words : List ℕ) (i : ℕ) (is_in : Bool) (v u : ℕ) → IsSummed size words summary
    → IsPut words i is_in v → i < size → bit_at u (i / 64) ≡ (if not (v == 0) then 1 else 0)
    → ((w : ℕ) → w ≢ i / 64 → bit_at u w ≡ bit_at summary w) → IsSummed size (set words (i / 64) v) u
put-summed size words i is_in v u s put lt same others =
    let l = length-set words (i / 64) v in
    let enough = s.enough in
    let within : i / 64 < length words = omega arith in
    record {
      few = s.few;
      enough = omega arith;
      few_words = (let f = s.few_words in omega arith);
      within = λ j past. let ne : j ≢ i = (λ e. absurd (omega arith)) in bit-put_other words i is_in v j put within ne ∙ s.within j past;
      summed = record {
        empty = λ w none. ⊎_elim
            (λ e. ap (λ m. slice_index (set words (i / 64) v) m) e
            ∙ (get_or-set_same words (i / 64) v 0 within ∙ is_nonzero v (v == 0) refl (sym same ∙ (ap (bit_at u) (sym e) ∙ none))))
            (λ ne. get_or-set_other words (i / 64) w v 0 ne ∙ s.summed.empty w (sym (others w ne) ∙ none))
            (cases_eq w (i / 64));
        nonempty = λ w some. ⊎_elim
            (λ e. let p = is_positive v (v == 0) refl (sym same ∙ (ap (bit_at u) (sym e) ∙ some)) in
            let g = ap (λ m. slice_index (set words (i / 64) v) m) e ∙ get_or-set_same words (i / 64) v 0 within in omega arith)
            (λ ne. let p = s.summed.nonempty w (sym (others w ne) ∙ some) in let g = get_or-set_other words (i / 64) w v 0 ne in omega arith)
            (cases_eq w (i / 64));
      };
    }

pub put-word : (words : List ℕ) (i w k x v : ℕ) (is_in : Bool) → w ≡ i / 64 → k ≡ i % 64 → x ≡ get_or words w x → w < length words
    → bit_at v k ≡ (if is_in then 1 else 0) → ((j : ℕ) → j ≢ k → bit_at v j ≡ bit_at x j) → IsPut words i is_in v
put-word words i w k x v is_in ew ek read lt same others =
    let at : x ≡ slice_index words (i / 64) = get_or_read words w x lt read 0 ∙ ap (slice_index words) ew in
    record {
      same = ap (bit_at v) (sym ek) ∙ same;
      others = λ j ne. others j (λ e. ne (e ∙ ek)) ∙ ap (λ m. bit_at m j) at;
    }

-- the index of bit b of word w
at-index : (w b : ℕ) → b < 64 → ((w * 64 + b) / 64 ≡ w) × ((w * 64 + b) % 64 ≡ b)
at-index w b lt = (omega arith, omega arith)

pub is_member-at : (words : List ℕ) (w b : ℕ) → b < 64 → is_member words (w * 64 + b) ≡ (bit_at (slice_index words w) b == 1)
is_member-at words w b lt =
    let at = at-index w b lt in
    ap (λ v. bit_at (slice_index words v) ((w * 64 + b) % 64) == 1) at.0 ∙ ap (λ c. bit_at (slice_index words w) c == 1) at.1

pub not_member : (words : List ℕ) (k : ℕ) → bit_at (slice_index words (k / 64)) (k % 64) ≡ 0 → is_member words k ≡ false
not_member words k e = ap (λ b. b == 1) e

pub none_in_zero : (words : List ℕ) (k : ℕ) → slice_index words (k / 64) ≡ 0 → is_member words k ≡ false
none_in_zero words k e = not_member words k (ap (λ x. bit_at x (k % 64)) e ∙ bit_at-zero (k % 64))

-- the first index of a word, from a bit on
pub found_in_word : (words : List ℕ) (from b : ℕ) → from % 64 ≤ b → b < 64 → bit_at (slice_index words (from / 64)) b ≡ 1
    → ((i : ℕ) → from % 64 ≤ i → i < b → bit_at (slice_index words (from / 64)) i ≡ 0) → IsFirst (is_member words) from (Some (from / 64 * 64 + b))
found_in_word words from b ge lt one least = (
  omega arith,
  is_member-at words (from / 64) b lt ∙ ap (λ c. c == 1) one,
  λ k le below. let w : k / 64 ≡ from / 64 = omega arith in
      not_member words k (ap (λ v. bit_at (slice_index words v) (k % 64)) w ∙ least (k % 64) (omega arith) (omega arith)),
)

-- a word without such a bit has none
pub none_in_word : (words : List ℕ) (from k : ℕ) → ((i : ℕ) → from % 64 ≤ i → bit_at (slice_index words (from / 64)) i ≡ 0)
    → from ≤ k → k / 64 ≡ from / 64 → is_member words k ≡ false
none_in_word words from k none le w =
    not_member words k (ap (λ v. bit_at (slice_index words v) (k % 64)) w ∙ none (k % 64) (omega arith))

pub none_later : (words : List ℕ) (summary from : ℕ) → AreSummed words summary
    → ((i : ℕ) → from % 64 ≤ i → bit_at (slice_index words (from / 64)) i ≡ 0) → ((v : ℕ) → from / 64 + 1 ≤ v → bit_at summary v ≡ 0)
    → IsFirst (is_member words) from None
none_later words summary from s here later = λ k le.
    ⊎_elim (λ e. none_in_word words from k here le e)
    (λ ne. none_in_zero words k (s.empty (k / 64) (later (k / 64) (let q : from / 64 ≤ k / 64 = omega arith in omega arith))))
    (cases_eq (k / 64) (from / 64))

-- no word before the later one has any
pub none_before : (words : List ℕ) (summary from v : ℕ) → AreSummed words summary
    → ((i : ℕ) → from % 64 ≤ i → bit_at (slice_index words (from / 64)) i ≡ 0) → ((u : ℕ) → from / 64 + 1 ≤ u → u < v → bit_at summary u ≡ 0)
    → (k : ℕ) → from ≤ k → k < 64 * v → is_member words k ≡ false
none_before words summary from v s here later k le lt =
    ⊎_elim (λ e. none_in_word words from k here le e)
    (λ ne. none_in_zero words k (s.empty (k / 64) (later (k / 64) (let q : from / 64 ≤ k / 64 = omega arith in omega arith) (omega arith))))
    (cases_eq (k / 64) (from / 64))

pub first_later : (test : ℕ → Bool) (from a : ℕ) (r : Option ℕ) → from ≤ a → ((k : ℕ) → from ≤ k → k < a → test k ≡ false)
    → IsFirst test a r → IsFirst test from r
first_later test from a None le before first = λ k ge. ⊎_elim (λ lt. before k ge lt) (λ more. first k more) (cases_lt k a)
first_later test from a (Some i) le before first = (
  omega (arith, first.0),
  first.1,
  λ k ge lt. ⊎_elim (λ b. before k ge b) (λ more. first.2 k more lt) (cases_lt k a),
)

pub same_first : (f g : ℕ → Bool) (a : ℕ) (r : Option ℕ) → ((k : ℕ) → f k ≡ g k) → IsFirst f a r → IsFirst g a r
same_first f g a None is first = λ k le. sym (is k) ∙ first k le
same_first f g a (Some i) is first = (first.0, sym (is i) ∙ first.1, λ k le lt. sym (is k) ∙ first.2 k le lt)

pub zero_from_bits : (n : ℕ) → ((i : ℕ) → 0 ≤ i → bit_at n i ≡ 0) → n ≡ 0
zero_from_bits n none = same_from_bits n 0 (λ i. none i (omega arith) ∙ sym (bit_at-zero i))

zero_words : (n i : ℕ) → ◌≡◌ {A = ℕ} (get_or (replicate n 0) i 0) 0
zero_words zero i = refl
zero_words (suc n) zero = refl
zero_words (suc n) (suc i) = zero_words n i

pub members-zero : (size n : ℕ) → members size (replicate {A = ℕ} n 0) ≡ replicate size false
members-zero size n =
    same_lists _ _ (length-members size (replicate n 0) ∙ sym (length-replicate size false))
    (λ k d lt. let within : k < size = (let l = length-members size (replicate n 0) in omega arith) in
    at-members size (replicate n 0) k d within ∙ (none_in_zero (replicate n 0) k (zero_words n (k / 64)) ∙ sym (get_or-replicate size k false d within)))

pub fill-step : (n i : ℕ) → i < n
    → set (replicate i true ++ replicate (n - i) false) i true ≡ replicate (i + 1) true ++ replicate (n - (i + 1)) false
fill-step n i lt =
    let more : n - i ≡ suc (n - (i + 1)) = omega arith in
    ap (λ m. set (replicate i true ++ replicate m false) i true) more
    ∙ (set_at (replicate i true) false (replicate (n - (i + 1)) false) true i (length-replicate i true)
    ∙ (sym (append_assoc (replicate i true) (true ∷ []) (replicate (n - (i + 1)) false))
    ∙ ap (λ xs. xs ++ replicate (n - (i + 1)) false) (replicate_more i true)))
