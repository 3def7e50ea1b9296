-- The lines of a text, by the places of newlines.
use Rattle.std.proofs.Common.{◌≡◌, ℕ, suc, ◌+◌, ◌-◌, ◌<◌, ◌≤◌, true, false, not, cond, eqb, List, [], ◌∷◌, length, take, drop, Some, None, refl, ap, ◌∙◌, arith, position, inl, inr}
use Rattle.std.proofs.Math.Numerals.{add-one}
use Rattle.std.proofs.lemmas.Bool.{cases_Bool}
use Rattle.std.proofs.lemmas.List.{take_rest, drop_all}
use Rattle.std.specs.List.{position_or_len}
use Rattle.em_script.specs.Lines.{lines, onto_first}
use Rattle.em_script.proofs.Splitting.{position_at, position_none}

-- the lines where the first newline is at n
lines-position : (bytes : List ℕ) (n : ℕ) → n ≡ position_or_len (λ b. eqb b 10) bytes → n < length bytes → lines bytes ≡ take n bytes ∷ lines (drop (suc n) bytes)
unfolding lines
lines-position [] n is lt = absurd (omega arith)
lines-position (b ∷ bytes) n is lt =
    let m = position_or_len (λ x. eqb x 10) bytes in
    elim (eqb b 10) as (λ t. n ≡ cond (not t) (1 + m) 0 → cond t ([] ∷ lines bytes) (onto_first b (lines bytes)) ≡ take n (b ∷ bytes) ∷ lines (drop n bytes)) [
      | true ↦ λ e. rw e refl
      | false ↦ λ e.
          let k : n ≡ suc m = omega arith in
          let more : m < length bytes = omega arith in
          rw (k, lines-position bytes m refl more) refl
    ] is

lines-cons : (b : ℕ) (bytes : List ℕ) → eqb b 10 ≡ false → lines (b ∷ bytes) ≡ onto_first b (lines bytes)
unfolding lines
lines-cons b bytes off = rw off refl

lines-nil : lines [] ≡ []
unfolding lines
lines-nil = refl

differs : (b : ℕ) (bytes : List ℕ) → length (b ∷ bytes) ≤ position_or_len (λ x. eqb x 10) (b ∷ bytes) → eqb b 10 ≡ false
differs b bytes le = elim (cases_Bool (eqb b 10)) [
  | inl e ↦ absurd (let z : position_or_len (λ x. eqb x 10) (b ∷ bytes) ≡ 0 = rw e refl in omega arith)
  | inr off ↦ off
]

-- no newline
lines-none : (b : ℕ) (bytes : List ℕ) → length (b ∷ bytes) ≤ position_or_len (λ x. eqb x 10) (b ∷ bytes) → lines (b ∷ bytes) ≡ (b ∷ bytes) ∷ []
lines-none b [] le = lines-cons b [] (differs b [] le) ∙ rw lines-nil refl
lines-none b (c ∷ cs) le =
    let off = differs b (c ∷ cs) le in
    let z : position_or_len (λ x. eqb x 10) (b ∷ c ∷ cs) ≡ 1 + position_or_len (λ x. eqb x 10) (c ∷ cs) = rw off refl in
    lines-cons b (c ∷ cs) off ∙ ap (onto_first b) (lines-none c cs (omega arith))

pub line_found : (bytes : List ℕ) (at : ℕ) → Some at ≡ position (λ b. eqb b 10) bytes → lines bytes ≡ take at bytes ∷ lines (take (length bytes - (at + 1)) (drop (at + 1) bytes))
line_found bytes at e =
    let q = position_at (λ b. eqb b 10) bytes at e in
    rw (take_rest bytes (at + 1), add-one) (lines-position bytes at q.1 q.0)

pub line_alone : (bytes : List ℕ) → 0 < length bytes → None ≡ position (λ b. eqb b 10) bytes → lines bytes ≡ bytes ∷ lines (take (length bytes - length bytes) (drop (length bytes) bytes))
line_alone [] some e = absurd (omega arith)
line_alone (b ∷ bytes) some e =
    rw (take_rest (b ∷ bytes) (length (b ∷ bytes)), drop_all (length (b ∷ bytes)) (b ∷ bytes) (omega arith), lines-nil)
    (lines-none b bytes (position_none (λ x. eqb x 10) (b ∷ bytes) e))
