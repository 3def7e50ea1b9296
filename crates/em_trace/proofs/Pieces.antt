-- The pieces of a text, by the place of the first separator.
use Rattle.std.proofs.Common.{◌≡◌, ℕ, suc, ◌+◌, ◌<◌, ◌≤◌, Bool, true, false, not, cond, eqb, ltb, List, [], ◌∷◌, length, take, drop, Some, None, refl, arith, position}
use Rattle.std.proofs.Common.{◌-◌}
use Rattle.std.proofs.Math.Numerals.{add-one}
use Rattle.std.proofs.lemmas.List.{take_rest}
use Rattle.std.proofs.lemmas.Bool.{ltb-true, ltb-false}
use Rattle.std.specs.List.{position_or_len}
use Rattle.em_trace.specs.Form.{has_none}
use Rattle.em_trace.specs.Line.{pieces, onto_first}

-- the pieces where the first separator is at n
pub pieces-position : (separator : ℕ) (bytes : List ℕ) (n : ℕ) → n ≡ position_or_len (λ b. eqb b separator) bytes → n < length bytes → pieces separator bytes ≡ take n bytes ∷ pieces separator (drop (suc n) bytes)
unfolding pieces
pieces-position separator [] n is lt = absurd (omega arith)
pieces-position separator (b ∷ bytes) n is lt =
    let m = position_or_len (λ x. eqb x separator) bytes in
    elim (eqb b separator) as (λ t. n ≡ cond (not t) (1 + m) 0 → cond t ([] ∷ pieces separator bytes) (onto_first b (pieces separator bytes)) ≡ take n (b ∷ bytes) ∷ pieces separator (drop n bytes)) [
      | true ↦ λ e. rw e refl
      | false ↦ λ e.
          let k : n ≡ suc m = omega arith in
          let more : m < length bytes = omega arith in
          rw (k, pieces-position separator bytes m refl more) refl
    ] is

pub pieces-none : (separator : ℕ) (bytes : List ℕ) → length bytes ≤ position_or_len (λ b. eqb b separator) bytes → pieces separator bytes ≡ bytes ∷ []
unfolding pieces
pieces-none separator [] le = refl
pieces-none separator (b ∷ bytes) le =
    let m = position_or_len (λ x. eqb x separator) bytes in
    elim (eqb b separator) as (λ t. length (b ∷ bytes) ≤ cond (not t) (1 + m) 0 → cond t ([] ∷ pieces separator bytes) (onto_first b (pieces separator bytes)) ≡ (b ∷ bytes) ∷ []) [
      | true ↦ λ e. absurd (omega arith)
      | false ↦ λ e. let more : length bytes ≤ m = omega arith in rw (pieces-none separator bytes more) refl
    ] le

has_none-onto_first : (b : ℕ) (ps : List (List ℕ)) → has_none (onto_first b ps) ≡ false
has_none-onto_first b [] = refl
has_none-onto_first b (p ∷ ps) = refl

-- there is always a piece
pub has_none_pieces : (separator : ℕ) (bytes : List ℕ) → has_none (pieces separator bytes) ≡ false
unfolding pieces
has_none_pieces separator [] = refl
has_none_pieces separator (b ∷ bytes) = elim (eqb b separator) as (λ t. has_none (cond t ([] ∷ pieces separator bytes) (onto_first b (pieces separator bytes))) ≡ false) [ true ↦ refl | false ↦ has_none-onto_first b (pieces separator bytes) ]

position-at : (t : Bool) (m at : ℕ) → Some at ≡ cond t (Some m) None → (t ≡ true) × (at ≡ m)
position-at true m at e = (refl, cc)
position-at false m at e = absurd cc

position-none : (t : Bool) (m : ℕ) → None ≡ cond t (Some m) None → t ≡ false
position-none true m e = absurd cc
position-none false m e = refl

pub pieces_found : (separator : ℕ) (bytes : List ℕ) (at : ℕ) → Some at ≡ position (λ b. eqb b separator) bytes → pieces separator bytes ≡ take at bytes ∷ pieces separator (take (length bytes - (at + 1)) (drop (at + 1) bytes))
pieces_found separator bytes at e =
    let m = position_or_len (λ b. eqb b separator) bytes in
    let p = position-at (ltb m (length bytes)) m at e in
    let lt : at < length bytes = rw (p.1) (ltb-true m (length bytes) p.0) in
    rw (take_rest bytes (at + 1), add-one) (pieces-position separator bytes at p.1 lt)

pub pieces_alone : (separator : ℕ) (bytes : List ℕ) → None ≡ position (λ b. eqb b separator) bytes → pieces separator bytes ≡ bytes ∷ []
pieces_alone separator bytes e =
    let m = position_or_len (λ b. eqb b separator) bytes in
    pieces-none separator bytes (ltb-false m (length bytes) (position-none (ltb m (length bytes)) m e))

length-onto_first : (b : ℕ) (ps : List (List ℕ)) → length (onto_first b ps) ≤ length ps + 1
length-onto_first b [] = omega arith
length-onto_first b (p ∷ ps) = omega arith

pub length_pieces : (separator : ℕ) (bytes : List ℕ) → length (pieces separator bytes) ≤ length bytes + 1
unfolding pieces
length_pieces separator [] = omega arith
length_pieces separator (b ∷ bytes) =
    let ps = pieces separator bytes in
    let ih = length_pieces separator bytes in
    let kept = length-onto_first b (pieces separator bytes) in
    elim (eqb b separator) as (λ t. length (cond t ([] ∷ pieces separator bytes) (onto_first b (pieces separator bytes))) ≤ suc (length bytes) + 1) [ true ↦ omega (arith, ih) | false ↦ omega (arith, ih, kept) ]
