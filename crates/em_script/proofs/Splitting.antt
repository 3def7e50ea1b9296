-- The tokens of a line, by the places of spaces.
use Rattle.std.proofs.Common.{◌≡◌, ◌≢◌, ℕ, zero, suc, ◌+◌, ◌<◌, ◌≤◌, Bool, true, false, not, cond, eqb, ltb, List, [], ◌∷◌, length, take, drop, get_or, Some, None, refl, sym, ap, ◌∙◌, arith, position, eqb-true, eq-eqb, inl, inr, ◌⊎◌}
use Rattle.std.proofs.Common.{◌-◌}
use Rattle.std.proofs.lemmas.Bool.{ltb-true, ltb-false, ne_eqb, cases_Bool}
use Rattle.std.proofs.lemmas.List.{take_rest, take_all, drop_all, get_or-drop}
use Rattle.std.specs.List.{position_or_len}
use Rattle.em_script.specs.Lines.{tokens, begun, onto_first}

by-test : (a b : ℕ) (t : Bool) → eqb a b ≡ t → (a ≡ b) ⊎ (eqb a b ≡ false)
by-test a b true e = inl (eqb-true a b e)
by-test a b false e = inr e

pub same_or_not : (a b : ℕ) → (a ≡ b) ⊎ (eqb a b ≡ false)
same_or_not a b = by-test a b (eqb a b) refl

-- spaces before a token
pub tokens-spaces : (bytes : List ℕ) (n : ℕ) → n ≤ position_or_len (λ b. not (eqb b 32)) bytes → tokens (drop n bytes) ≡ tokens bytes
unfolding tokens
tokens-spaces [] zero le = refl
tokens-spaces [] (suc n) le = refl
tokens-spaces (b ∷ bytes) zero le = refl
tokens-spaces (b ∷ bytes) (suc n) le =
    let m = position_or_len (λ b. not (eqb b 32)) bytes in
    elim (eqb b 32) as (λ t. suc n ≤ cond (not (not t)) (1 + m) 0 → tokens (drop n bytes) ≡ cond t (tokens bytes) (begun b bytes (tokens bytes))) [
      | true ↦ λ e. tokens-spaces bytes n (omega arith)
      | false ↦ λ e. absurd (omega arith)
    ] le

tokens-cons : (b : ℕ) (bytes : List ℕ) → eqb b 32 ≡ false → tokens (b ∷ bytes) ≡ begun b bytes (tokens bytes)
unfolding tokens
tokens-cons b bytes off = rw off refl

begun-on : (b c : ℕ) (cs : List ℕ) (more : List (List ℕ)) → eqb c 32 ≡ false → begun b (c ∷ cs) more ≡ onto_first b more
begun-on b c cs more off = rw off refl

begun-at : (b c : ℕ) (cs : List ℕ) (more : List (List ℕ)) → eqb c 32 ≡ true → begun b (c ∷ cs) more ≡ (b ∷ []) ∷ more
begun-at b c cs more yes-space = rw yes-space refl

tokens-nil : tokens [] ≡ []
unfolding tokens
tokens-nil = refl

-- a token up to the first space, or to the end
pub tokens-run : (b : ℕ) (bytes : List ℕ) (m : ℕ) → eqb b 32 ≡ false → m ≡ position_or_len (λ x. eqb x 32) bytes → tokens (b ∷ bytes) ≡ (b ∷ take m bytes) ∷ tokens (drop m bytes)
tokens-run b [] m off is = tokens-cons b [] off ∙ rw is refl
tokens-run b (c ∷ cs) m off is =
    let k = position_or_len (λ x. eqb x 32) cs in
    elim (same_or_not c 32) [
      | inl e ↦
          let t : eqb c 32 ≡ true = eq-eqb c 32 e in
          let z : m ≡ 0 = is ∙ rw t refl in
          tokens-cons b (c ∷ cs) off ∙ begun-at b c cs (tokens (c ∷ cs)) t ∙ rw z refl
      | inr n ↦
          let z : m ≡ suc (position_or_len (λ x. eqb x 32) cs) = is ∙ rw n (omega arith) in
          tokens-cons b (c ∷ cs) off ∙ begun-on b c cs (tokens (c ∷ cs)) n ∙ ap (onto_first b) (tokens-run c cs (position_or_len (λ x. eqb x 32) cs) n refl) ∙ rw z refl
    ]

position-at : (t : Bool) (m at : ℕ) → Some at ≡ cond t (Some m) None → (t ≡ true) × (at ≡ m)
position-at true m at e = (refl, cc)
position-at false m at e = absurd cc

position-none : (t : Bool) (m : ℕ) → None ≡ cond t (Some m) None → t ≡ false
position-none true m e = absurd cc
position-none false m e = refl

pub position_at : (p : ℕ → Bool) (bytes : List ℕ) (at : ℕ) → Some at ≡ position p bytes → (at < length bytes) × (at ≡ position_or_len p bytes)
position_at p bytes at e =
    let m = position_or_len p bytes in
    let q = position-at (ltb m (length bytes)) m at e in
    (rw (q.1) (ltb-true m (length bytes) q.0), q.1)

pub position_none : (p : ℕ → Bool) (bytes : List ℕ) → None ≡ position p bytes → length bytes ≤ position_or_len p bytes
position_none p bytes e =
    let m = position_or_len p bytes in
    ltb-false m (length bytes) (position-none (ltb m (length bytes)) m e)

-- the byte at which a search stops
stops-at : (p : ℕ → Bool) (bytes : List ℕ) → position_or_len p bytes < length bytes → p (get_or bytes (position_or_len p bytes) 0) ≡ true
stops-at p [] lt = absurd (omega arith)
stops-at p (b ∷ bytes) lt =
    elim (cases_Bool (p b)) [
      | inl e ↦ rw (e, e) refl
      | inr n ↦
          let less : position_or_len p bytes < length bytes = omega (arith, rw n at lt) in
          let one : 1 + position_or_len p bytes ≡ suc (position_or_len p bytes) = omega arith in
          rw (n, one) (stops-at p bytes less)
    ]

-- a token that is cut at the first space
cut_at : (bytes : List ℕ) (n : ℕ) → 0 < length bytes → get_or bytes 0 0 ≢ 32 → n ≡ position_or_len (λ b. eqb b 32) bytes → tokens bytes ≡ take n bytes ∷ tokens (drop n bytes)
cut_at [] n some first is = absurd (omega arith)
cut_at (b ∷ bytes) n some first is =
    let off : eqb b 32 ≡ false = ne_eqb b 32 first in
    let z : n ≡ suc (position_or_len (λ x. eqb x 32) bytes) = is ∙ rw off (omega arith) in
    tokens-run b bytes (position_or_len (λ x. eqb x 32) bytes) off refl ∙ rw z refl

pub cut_found : (bytes : List ℕ) (at : ℕ) → 0 < length bytes → get_or bytes 0 0 ≢ 32 → Some at ≡ position (λ b. eqb b 32) bytes → tokens bytes ≡ take at bytes ∷ tokens (take (length bytes - at) (drop at bytes))
cut_found bytes at some first e = rw (take_rest bytes at) (cut_at bytes at some first (position_at (λ b. eqb b 32) bytes at e).1)

pub cut_alone : (bytes : List ℕ) → 0 < length bytes → get_or bytes 0 0 ≢ 32 → None ≡ position (λ b. eqb b 32) bytes → tokens bytes ≡ bytes ∷ tokens (take (length bytes - length bytes) (drop (length bytes) bytes))
cut_alone bytes some first e =
    let le : length bytes ≤ position_or_len (λ b. eqb b 32) bytes = position_none (λ b. eqb b 32) bytes e in
    rw (take_rest bytes (length bytes), drop_all (length bytes) bytes (omega arith))
    (cut_at bytes (position_or_len (λ b. eqb b 32) bytes) some first refl ∙ rw (take_all (position_or_len (λ b. eqb b 32) bytes) bytes le, drop_all (position_or_len (λ b. eqb b 32) bytes) bytes le) refl)

pub token_found : (bytes : List ℕ) (at : ℕ) → Some at ≡ position (λ b. not (eqb b 32)) bytes → tokens (take (length bytes - at) (drop at bytes)) ≡ tokens bytes
token_found bytes at e = rw (take_rest bytes at) (tokens-spaces bytes at (let is = (position_at (λ b. not (eqb b 32)) bytes at e).1 in omega arith))

not-true : (b : Bool) → not b ≡ true → b ≡ false
not-true true e = absurd cc
not-true false e = refl

eqb-differs : (a b : ℕ) → eqb a b ≡ false → a ≢ b
eqb-differs a b e same = absurd (let t : eqb a b ≡ true = eq-eqb a b same in cc)

pub token_begins : (bytes : List ℕ) (at : ℕ) → Some at ≡ position (λ b. not (eqb b 32)) bytes → get_or (take (length bytes - at) (drop at bytes)) 0 0 ≢ 32
token_begins bytes at e =
    let q = position_at (λ b. not (eqb b 32)) bytes at e in
    let less : position_or_len (λ b. not (eqb b 32)) bytes < length bytes = rw (q.1) at q.0 in
    let stop = stops-at (λ b. not (eqb b 32)) bytes less in
    let differs : get_or bytes at 0 ≢ 32 = eqb-differs (get_or bytes at 0) 32 (not-true (eqb (get_or bytes at 0) 32) (rw (q.1) stop)) in
    rw (take_rest bytes at, get_or-drop at bytes 0 0) (let z : at + 0 ≡ at = omega arith in rw z differs)

pub token_none : (bytes : List ℕ) → None ≡ position (λ b. not (eqb b 32)) bytes → tokens bytes ≡ []
token_none bytes e =
    let le : length bytes ≤ position_or_len (λ b. not (eqb b 32)) bytes = position_none (λ b. not (eqb b 32)) bytes e in
    sym (tokens-spaces bytes (length bytes) le) ∙ ap tokens (drop_all (length bytes) bytes (omega arith)) ∙ tokens-nil
