-- Numbers as tokens of digits, plain and behind a letter.
use Rattle.std.proofs.Common.{◌≡◌, ℕ, zero, suc, ◌^◌, ◌<◌, ◌≤◌, Bool, true, false, not, ◌&&◌, cond, eqb, leb, ltb, List, [], ◌∷◌, ◌++◌, length, get_or, Some, refl, sym, ap, ◌∙◌, arith, rules, eqb-true, eq-eqb, ltb-true, lt-ltb, le-leb, leb-true, ltb-false, ne_eqb}
use Rattle.std.specs.List.{list_all}
use Rattle.std.specs.Char.{is_ascii_digit}
use Rattle.std.specs.Prelude.{decimal, bytes_eq}
use Rattle.std.proofs.lemmas.Str.Parse.{IsNumeralModel, IsDigitsTest, numerals_by_fold}
use Rattle.std.proofs.lemmas.Fmt.{digits_decimal, digits_value-decimal, decimal_nonempty, decimal_digit, first_decimal, decimal-digits_value}
use Rattle.em_trace.specs.Line.{Rest}
use Rattle.em_trace.specs.Form.{judged, token_at, first_token, value_from, value, is_digits, is_well, number_of, read_number, number, number_behind, read_marked, marked}
use Rattle.em_trace.proofs.Binds.{some-is, bind-some, cond-some, test-some}
use Rattle.em_trace.proofs.Forms.{IsPlain, well_rest, IsForm, Any, and-true}

abbrev AreDigits : List ℕ → Type 0
AreDigits ds = list_all is_ascii_digit ds ≡ true

digits-test : IsDigitsTest AreDigits
digits-test = search rules

own : IsNumeralModel AreDigits (value_from 0)
own = numerals_by_fold AreDigits digits-test value_from (search rules)

and-both : (a b : Bool) → a ≡ true → b ≡ true → (a && b) ≡ true
and-both a b p q = rw (p, q) refl

not-and : (a b : Bool) → not (a && b) ≡ true → a ≡ true → b ≡ false
not-and a true e p = absurd (let q : (a && true) ≡ true = and-both a true p refl in cc)
not-and a false e p = refl

pub digits-decimal : (n : ℕ) → n < 2 ^ 64 → is_digits (decimal n) ≡ true
unfolding is_digits
digits-decimal n lt = and-both (ltb 0 (length (decimal n))) (list_all is_ascii_digit (decimal n)) (lt-ltb 0 (length (decimal n)) (decimal_nonempty n lt)) (digits_decimal own n lt)

pub value-decimal : (n : ℕ) → n < 2 ^ 64 → value (decimal n) ≡ n
unfolding value
value-decimal n lt = digits_value-decimal own n lt

no-leading-zero : (n : ℕ) → n < 2 ^ 64 → not (eqb (get_or (decimal n) 0 0) 48 && ltb 1 (length (decimal n))) ≡ true
no-leading-zero zero lt = rw (decimal_digit 0 (omega arith)) refl
no-leading-zero (suc n) lt =
    let first : 48 < get_or (decimal (suc n)) 0 0 = first_decimal (suc n) (omega arith) lt in
    let differs : eqb (get_or (decimal (suc n)) 0 0) 48 ≡ false = ne_eqb (get_or (decimal (suc n)) 0 0) 48 (λ e. omega arith) in
    rw differs refl

pub well-decimal : (max n : ℕ) → n ≤ max → n < 2 ^ 64 → is_well max (decimal n) ≡ true
unfolding is_well
well-decimal max n le lt =
    and-both (not (eqb (get_or (decimal n) 0 0) 48 && ltb 1 (length (decimal n)))) (leb (value (decimal n)) max) (no-leading-zero n lt) (rw (value-decimal n lt) (le-leb n max le))

-- digits that are well are what is written for their value
pub decimal-value : (max : ℕ) (ds : List ℕ) → max < 2 ^ 64 → is_digits ds ≡ true → is_well max ds ≡ true → (value ds ≤ max) × (decimal (value ds) ≡ ds)
unfolding is_digits is_well value
decimal-value max ds small d w =
    let digits = and-true (ltb 0 (length ds)) (list_all is_ascii_digit ds) d in
    let parts = and-true (not (eqb (get_or ds 0 0) 48 && ltb 1 (length ds))) (leb (value_from 0 ds) max) w in
    let le : value_from 0 ds ≤ max = leb-true (value_from 0 ds) max parts.1 in
    let some : 0 < length ds = ltb-true 0 (length ds) digits.0 in
    let below : value_from 0 ds < 2 ^ 64 = omega arith in
    let lead = λ (e : get_or ds 0 0 ≡ 48). (let at_most : length ds ≤ 1 = ltb-false 1 (length ds) (not-and (eqb (get_or ds 0 0) 48) (ltb 1 (length ds)) parts.0 (eq-eqb (get_or ds 0 0) 48 e)) in let one : length ds ≡ 1 = omega arith in one) in
    (le, decimal-digits_value own ds digits.1 some lead below)

plain-digits : (ds : List ℕ) → AreDigits ds → IsPlain ds
plain-digits [] h = tt
plain-digits (c ∷ cs) h =
    let p = digits-test.parts c cs h in
    (omega (arith, p.0), plain-digits cs p.1)

pub plain-decimal : (n : ℕ) → n < 2 ^ 64 → IsPlain (decimal n)
plain-decimal n lt = plain-digits (decimal n) (digits_decimal own n lt)

pub number_of-again : (max n : ℕ) (s : Rest) → s.well ≡ true → n ≤ max → max < 2 ^ 64 → number_of max (decimal n) s ≡ Some (n, s)
unfolding number_of
number_of-again max n s w le small =
    let lt : n < 2 ^ 64 = omega arith in
    let digits = digits-decimal n lt in
    let good = well-decimal max n le lt in
    let v = value-decimal n lt in
    let still : (s.well && true) ≡ s.well = rw w refl in
    let same : judged true s ≡ s = λ i. record { tokens = s.tokens; well = still i } in
    rw (digits, good, v) (ap (λ r. Some (n, r)) same)

pub number_of-took : (max : ℕ) (token : List ℕ) (s : Rest) (n : ℕ) (s' : Rest) → max < 2 ^ 64 → number_of max token s ≡ Some (n, s') → s'.well ≡ true → (token ≡ decimal n) × (n ≤ max) × (s.well ≡ true) × (s.tokens ≡ s'.tokens)
unfolding number_of
number_of-took max token s n s' small e w =
    let c = cond-some (is_digits token) (cond (is_well max token) (value token) 0, judged (is_well max token) s) (n, s') e in
    let rest : judged (is_well max token) s ≡ s' = ap (λ (p : ℕ × Rest). p.1) c.1 in
    let both = and-true s.well (is_well max token) (ap (λ r. r.well) rest ∙ w) in
    let n-is : value token ≡ n = (rw both.1 at (ap (λ (p : ℕ × Rest). p.0) c.1)) in
    let d = decimal-value max token small c.0 both.1 in
    (sym d.1 ∙ ap (λ v. decimal v) n-is, rw (← n-is) d.0, both.0, ap (λ r. r.tokens) rest)

pub token-again : (token : List ℕ) (more : List (List ℕ)) → token_at (well_rest (token ∷ more)) ≡ Some (token, well_rest more)
unfolding token_at
token-again token more = refl

first-took : (well : Bool) (tokens : List (List ℕ)) (t : List ℕ) (s' : Rest) → first_token well tokens ≡ Some (t, s') → (tokens ≡ t ∷ s'.tokens) × (well ≡ s'.well)
first-took well [] t s' e = absurd cc
first-took well (token ∷ tokens) t s' e =
    let same = some-is (token, record { tokens = tokens; well = well }) (t, s') e in
    let t-is : token ≡ t = ap (λ (p : List ℕ × Rest). p.0) same in
    let rest : record { tokens = tokens; well = well } ≡ s' = ap (λ (p : List ℕ × Rest). p.1) same in
    (λ i. t-is i ∷ (rest i).tokens, ap (λ r. r.well) rest)

pub token-took : (s : Rest) (t : List ℕ) (s' : Rest) → token_at s ≡ Some (t, s') → (s.tokens ≡ t ∷ s'.tokens) × (s.well ≡ s'.well)
unfolding token_at
token-took s t s' e = first-took s.well s.tokens t s' e

pub number-form : (max : ℕ) → max < 2 ^ 64 → IsForm (number max) (λ n. n ≤ max) Any
unfolding read_number
number-form max small = record {
  again = λ n le more ends. rw (token-again (decimal n) more) (number_of-again max n (well_rest more) refl le small);
  took = λ s n s' e w.
      let t = bind-some (token_at s) (λ t. number_of max t.0 t.1) (n, s') e in
      let k = number_of-took max t.0.0 t.0.1 n s' small t.2 w in
      let f = token-took s t.0.0 t.0.1 t.1 in
      record { tokens = f.0 ∙ (λ i. k.0 i ∷ k.3 i); well = f.1 ∙ k.2; fits = k.1; ends = tt };
  plain = λ n le. (plain-decimal n (omega arith), tt);
}

behind-took : (mark max : ℕ) (token : List ℕ) (s : Rest) (n : ℕ) (s' : Rest) → max < 2 ^ 64 → number_behind mark max token s ≡ Some (n, s') → s'.well ≡ true → (token ≡ mark ∷ decimal n) × (n ≤ max) × (s.well ≡ true) × (s.tokens ≡ s'.tokens)
behind-took mark max [] s n s' small e w = absurd cc
behind-took mark max (c ∷ digits) s n s' small e w =
    let t = test-some (eqb c mark) (number_of max digits s) (n, s') e in
    let k = number_of-took max digits s n s' small t.1 w in
    let c-is : c ≡ mark = eqb-true c mark t.0 in
    (λ i. c-is i ∷ k.0 i, k.1, k.2, k.3)

pub marked-form : (mark max : ℕ) → 32 < mark → max < 2 ^ 64 → IsForm (marked mark max) (λ n. n ≤ max) Any
unfolding read_marked
marked-form mark max visible small = record {
  again = λ n le more ends. rw (token-again (mark ∷ decimal n) more, eq-eqb mark mark refl) (number_of-again max n (well_rest more) refl le small);
  took = λ s n s' e w.
      let t = bind-some (token_at s) (λ t. number_behind mark max t.0 t.1) (n, s') e in
      let k = behind-took mark max t.0.0 t.0.1 n s' small t.2 w in
      let f = token-took s t.0.0 t.0.1 t.1 in
      record { tokens = f.0 ∙ (λ i. k.0 i ∷ k.3 i); well = f.1 ∙ k.2; fits = k.1; ends = tt };
  plain = λ n le. ((visible, plain-decimal n (omega arith)), tt);
}

digits-differ : (ds : List ℕ) (b : ℕ) (bs : List ℕ) → AreDigits ds → 0 < length ds → 57 < b → bytes_eq ds (b ∷ bs) ≡ false
digits-differ [] b bs h some above = absurd (omega arith)
digits-differ (c ∷ cs) b bs h some above =
    let p = digits-test.parts c cs h in
    let differs : eqb c b ≡ false = ne_eqb c b (λ e. omega (arith, p.0)) in
    rw differs refl

-- digits are no word that begins with a letter
pub decimal-differs : (n b : ℕ) (bs : List ℕ) → n < 2 ^ 64 → 57 < b → bytes_eq (decimal n) (b ∷ bs) ≡ false
decimal-differs n b bs lt above = digits-differ (decimal n) b bs (digits_decimal own n lt) (decimal_nonempty n lt) above

digits-differ-with : (ds : List ℕ) (b : ℕ) (bs more : List ℕ) → AreDigits ds → 0 < length ds → 57 < b → bytes_eq (ds ++ more) (b ∷ bs) ≡ false
digits-differ-with [] b bs more h some above = absurd (omega arith)
digits-differ-with (c ∷ cs) b bs more h some above =
    let p = digits-test.parts c cs h in
    let differs : eqb c b ≡ false = ne_eqb c b (λ e. omega (arith, p.0)) in
    rw differs refl

-- nor is a line that begins with digits
pub decimal-differs-with : (n b : ℕ) (bs more : List ℕ) → n < 2 ^ 64 → 57 < b → bytes_eq (decimal n ++ more) (b ∷ bs) ≡ false
decimal-differs-with n b bs more lt above = digits-differ-with (decimal n) b bs more (digits_decimal own n lt) (decimal_nonempty n lt) above
