-- Numbers as tokens of digits, plain and behind a letter.
use Rattle.std.proofs.Common.{◌≡◌, ℕ, zero, suc, ◌^◌, ◌<◌, ◌≤◌, Bool, true, false, not, ◌&&◌, cond, eqb, leb, ltb, List, [], ◌∷◌, length, get_or, Some, refl, sym, ap, ◌∙◌, arith, rules, eqb-true, eq-eqb, ltb-true, lt-ltb, le-leb, leb-true, ltb-false, ne_eqb}
use Rattle.std.specs.List.{AllByRecursion, list_all}
use Rattle.std.specs.Char.{is_ascii_digit}
use Rattle.std.specs.Prelude.{decimal}
use Rattle.std.proofs.lemmas.Str.Parse.{IsNumeralModel, IsDigitsTest, numerals_by_fold}
use Rattle.std.proofs.lemmas.Fmt.{digits_decimal, digits_value-decimal, decimal_nonempty, decimal_digit, first_decimal, decimal-digits_value}
use Rattle.em_script.specs.Lines.{Rest}
use Rattle.em_script.specs.Numerals.{value_from, value, is_digits, is_within}
use Rattle.em_script.specs.Form.{◌>>=◌, judged, token_at, first_token, number_of, read_number, number, variable_digits, variable_of, variable}
use Rattle.em_script.proofs.Binds.{some-is, bind-some, cond-some, test-some}
use Rattle.em_script.proofs.Forms.{kept, IsPlain, IsVisible, well_rest, IsForm, Any, and-true, judged-met}

abbrev AreDigits : List ℕ → Type 0
AreDigits ds = list_all is_ascii_digit ds ≡ true

digits-test : IsDigitsTest AreDigits
digits-test = search rules

own : IsNumeralModel AreDigits (value_from 0)
own = numerals_by_fold AreDigits digits-test value_from (search rules)

and-both : (a b : Bool) → a ≡ true → b ≡ true → (a && b) ≡ true
and-both a b p q = rw (p, q) refl

not-and : (a b : Bool) → not (a && b) ≡ true → a ≡ true → b ≡ false
not-and a true e p = absurd (let q : (a && true) ≡ true = and-both a true p refl in cc)
not-and a false e p = refl

pub digits-decimal : (n : ℕ) → n < 2 ^ 64 → is_digits (decimal n) ≡ true
unfolding is_digits
digits-decimal n lt = and-both (ltb 0 (length (decimal n))) (list_all is_ascii_digit (decimal n)) (lt-ltb 0 (length (decimal n)) (decimal_nonempty n lt)) (digits_decimal own n lt)

pub value-decimal : (n : ℕ) → n < 2 ^ 64 → value (decimal n) ≡ n
unfolding value
value-decimal n lt = digits_value-decimal own n lt

no-leading-zero : (n : ℕ) → n < 2 ^ 64 → not (eqb (get_or (decimal n) 0 0) 48 && ltb 1 (length (decimal n))) ≡ true
no-leading-zero zero lt = rw (decimal_digit 0 (omega arith)) refl
no-leading-zero (suc n) lt =
    let first : 48 < get_or (decimal (suc n)) 0 0 = first_decimal (suc n) (omega arith) lt in
    let differs : eqb (get_or (decimal (suc n)) 0 0) 48 ≡ false = ne_eqb (get_or (decimal (suc n)) 0 0) 48 (λ e. omega arith) in
    rw differs refl

pub within-decimal : (low high n : ℕ) → low ≤ n → n ≤ high → n < 2 ^ 64 → is_within low high (decimal n) ≡ true
unfolding is_within
within-decimal low high n ge le lt =
    and-both (not (eqb (get_or (decimal n) 0 0) 48 && ltb 1 (length (decimal n))) && leb low (value (decimal n))) (leb (value (decimal n)) high)
    (and-both (not (eqb (get_or (decimal n) 0 0) 48 && ltb 1 (length (decimal n)))) (leb low (value (decimal n))) (no-leading-zero n lt) (rw (value-decimal n lt) (le-leb low n ge)))
    (rw (value-decimal n lt) (le-leb n high le))

-- digits that are spelled well are what is written for their value
pub decimal-value : (low high : ℕ) (ds : List ℕ) → high < 2 ^ 64 → is_digits ds ≡ true → is_within low high ds ≡ true → (low ≤ value ds) × (value ds ≤ high) × (decimal (value ds) ≡ ds)
unfolding is_digits is_within value
decimal-value low high ds small d w =
    let digits = and-true (ltb 0 (length ds)) (list_all is_ascii_digit ds) d in
    let parts = and-true (not (eqb (get_or ds 0 0) 48 && ltb 1 (length ds)) && leb low (value_from 0 ds)) (leb (value_from 0 ds) high) w in
    let front = and-true (not (eqb (get_or ds 0 0) 48 && ltb 1 (length ds))) (leb low (value_from 0 ds)) parts.0 in
    let le : value_from 0 ds ≤ high = leb-true (value_from 0 ds) high parts.1 in
    let ge : low ≤ value_from 0 ds = leb-true low (value_from 0 ds) front.1 in
    let some : 0 < length ds = ltb-true 0 (length ds) digits.0 in
    let below : value_from 0 ds < 2 ^ 64 = omega arith in
    let lead = λ (e : get_or ds 0 0 ≡ 48). (let at_most : length ds ≤ 1 = ltb-false 1 (length ds) (not-and (eqb (get_or ds 0 0) 48) (ltb 1 (length ds)) front.0 (eq-eqb (get_or ds 0 0) 48 e)) in let one : length ds ≡ 1 = omega arith in one) in
    (ge, le, decimal-digits_value own ds digits.1 some lead below)

visible-digits : (ds : List ℕ) → AreDigits ds → AllByRecursion IsVisible ds
visible-digits [] h = tt
visible-digits (c ∷ cs) h =
    let p = digits-test.parts c cs h in
    ((omega (arith, p.0), omega (arith, p.0)), visible-digits cs p.1)

pub plain-decimal : (n : ℕ) → n < 2 ^ 64 → IsPlain (decimal n)
plain-decimal n lt = (decimal_nonempty n lt, visible-digits (decimal n) (digits_decimal own n lt))

pub number_of-again : (low high n : ℕ) (s : Rest) → low ≤ n → n ≤ high → high < 2 ^ 64 → number_of low high (decimal n) s ≡ Some (n, s)
unfolding number_of
number_of-again low high n s ge le small =
    let lt : n < 2 ^ 64 = omega arith in
    let digits = digits-decimal n lt in
    let good = within-decimal low high n ge le lt in
    let v = value-decimal n lt in
    rw (digits, good, v) refl

pub number_of-took : (low high : ℕ) (token : List ℕ) (s : Rest) (n : ℕ) (s' : Rest) → high < 2 ^ 64 → number_of low high token s ≡ Some (n, s') → 12 ≤ s'.rule → (token ≡ decimal n) × ((low ≤ n) × (n ≤ high)) × (12 ≤ s.rule) × (s.tokens ≡ s'.tokens)
unfolding number_of
number_of-took low high token s n s' small e w =
    let c = cond-some (is_digits token) (cond (is_within low high token) (value token) 0, judged 6 (is_within low high token) s) (n, s') e in
    let rest : judged 6 (is_within low high token) s ≡ s' = ap (λ (p : ℕ × Rest). p.1) c.1 in
    let met = judged-met 6 (is_within low high token) s s' (omega arith) rest w in
    let n-is : value token ≡ n = (rw met.0 at (ap (λ (p : ℕ × Rest). p.0) c.1)) in
    let d = decimal-value low high token small c.0 met.0 in
    (sym d.2 ∙ ap (λ v. decimal v) n-is, (rw (← n-is) d.0, rw (← n-is) d.1), met.1, met.2)

pub token-again : (token : List ℕ) (more : List (List ℕ)) → token_at (well_rest (token ∷ more)) ≡ Some (token, well_rest more)
unfolding token_at
token-again token more = refl

first-took : (rule : ℕ) (tokens : List (List ℕ)) (t : List ℕ) (s' : Rest) → first_token rule tokens ≡ Some (t, s') → (tokens ≡ t ∷ s'.tokens) × (rule ≡ s'.rule)
first-took rule [] t s' e = absurd cc
first-took rule (token ∷ tokens) t s' e =
    let same = some-is (token, record { tokens = tokens; rule = rule }) (t, s') e in
    let t-is : token ≡ t = ap (λ (p : List ℕ × Rest). p.0) same in
    let rest : record { tokens = tokens; rule = rule } ≡ s' = ap (λ (p : List ℕ × Rest). p.1) same in
    (λ i. t-is i ∷ (rest i).tokens, ap (λ r. r.rule) rest)

pub token-took : (s : Rest) (t : List ℕ) (s' : Rest) → token_at s ≡ Some (t, s') → (s.tokens ≡ t ∷ s'.tokens) × (s.rule ≡ s'.rule)
unfolding token_at
token-took s t s' e = first-took s.rule s.tokens t s' e

pub number-form : (low high : ℕ) → high < 2 ^ 64 → IsForm (number low high) (λ n. (low ≤ n) × (n ≤ high)) Any
unfolding read_number
number-form low high small = record {
  again = λ n fits more ends. rw (token-again (decimal n) more) (number_of-again low high n (well_rest more) fits.0 fits.1 small);
  took = λ s n s' e w.
      let t = bind-some (token_at s) (λ t. number_of low high t.0 t.1) (n, s') e in
      let k = number_of-took low high t.0.0 t.0.1 n s' small t.2 w in
      let f = token-took s t.0.0 t.0.1 t.1 in
      record { tokens = f.0 ∙ (λ i. k.0 i ∷ k.3 i); well = kept f.1 k.2; fits = k.1; ends = tt };
  plain = λ n fits. (plain-decimal n (omega arith), tt);
}

-- ---- variables

pub variable_of-decimal : (v : ℕ) → v ≤ 15 → variable_of (118 ∷ decimal v) ≡ Some v
variable_of-decimal v le =
    let lt : v < 2 ^ 64 = omega arith in
    let digits = digits-decimal v lt in
    let good = within-decimal 0 15 v (omega arith) le lt in
    let is = value-decimal v lt in
    rw (digits, good, is) refl

variable_digits-took : (ds : List ℕ) (v : ℕ) → variable_digits ds ≡ Some v → (ds ≡ decimal v) × (v ≤ 15)
variable_digits-took ds v e =
    let c = cond-some (is_digits ds && is_within 0 15 ds) (value ds) v e in
    let b = and-true (is_digits ds) (is_within 0 15 ds) c.0 in
    let d = decimal-value 0 15 ds (omega arith) b.0 b.1 in
    let same = c.1 in
    (sym d.2 ∙ ap (λ v. decimal v) same, rw (← same) d.1)

pub variable_of-took : (token : List ℕ) (v : ℕ) → variable_of token ≡ Some v → (token ≡ 118 ∷ decimal v) × (v ≤ 15)
variable_of-took [] v e = absurd cc
variable_of-took (c ∷ ds) v e =
    let t = test-some (eqb c 118) (variable_digits ds) v e in
    let d = variable_digits-took ds v t.1 in
    let c-is : c ≡ 118 = eqb-true c 118 t.0 in
    (λ i. c-is i ∷ d.0 i, d.1)

pub plain-variable : (v : ℕ) → v ≤ 15 → IsPlain (118 ∷ decimal v)
plain-variable v le = (omega arith, ((omega arith, omega arith), (plain-decimal v (omega arith)).1))

pub variable-form : IsForm variable (λ v. v ≤ 15) Any
variable-form = record {
  again = λ v le more ends. rw (token-again (118 ∷ decimal v) more, variable_of-decimal v le) refl;
  took = λ s v s' e w.
      let t = bind-some (token_at s) (λ t. variable_of t.0 >>= λ v. Some (v, t.1)) (v, s') e in
      let x = bind-some (variable_of t.0.0) (λ v. Some (v, t.0.1)) (v, s') t.2 in
      let same = some-is (x.0, t.0.1) (v, s') x.2 in
      let v-is : x.0 ≡ v = ap (λ (p : ℕ × Rest). p.0) same in
      let rest : t.0.1 ≡ s' = ap (λ (p : ℕ × Rest). p.1) same in
      let k = variable_of-took t.0.0 x.0 x.1 in
      let spelled : t.0.0 ≡ 118 ∷ decimal v = k.0 ∙ ap (λ n. 118 ∷ decimal n) v-is in
      let f = token-took s t.0.0 t.0.1 t.1 in
      record { tokens = f.0 ∙ (λ i. spelled i ∷ (rest i).tokens); well = kept (f.1 ∙ ap (λ r. r.rule) rest) w; fits = rw (← v-is) k.1; ends = tt };
  plain = λ v le. (plain-variable v le, tt);
}
