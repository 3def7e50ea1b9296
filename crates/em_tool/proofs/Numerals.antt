-- What parsing gives at a number in decimal digits.
use Rattle.std.proofs.Common.{◌≡◌, ◌≢◌, ◌<◌, ◌^◌, ℕ, zero, suc, List, true, length, get_or, rules, arith, sym, ap, ◌∙◌, Ok, Err, Result, IfSome}
use Rattle.std.specs.Str.{all_ascii_digits}
use Rattle.std.specs.Str.Parse.{ParsesUnsigned, digits_value}
use Rattle.std.specs.Fmt.{decimal}
use Rattle.std.specs.Result.{result_ok}
use Rattle.std.specs.Int.{IsInRange}
use Rattle.std.proofs.lemmas.Str.Parse.{IsNumeralModel, numerals_by_value, parse_plain, not_in_digits}
use Rattle.std.proofs.lemmas.Fmt.{decimal-digits_value, decimal_nonempty, digits_decimal, first_decimal, decimal_digit}

pub own : IsNumeralModel (λ ds. all_ascii_digits ds ≡ true) (digits_value 10)
own = numerals_by_value _ (search rules)

-- what begins with a digit and parses is spelled so, if it has no leading zero
pub parsed-spelled : (E : Type 0) (bs : List ℕ) (n : ℕ) → ParsesUnsigned {E = E} 64 10 bs (Ok n) → get_or bs 0 0 ≢ 43 → (get_or bs 0 0 ≡ 48 → length bs ≡ 1) → bs ≡ decimal n
parsed-spelled E bs n parses plain lead =
    let p = parse_plain own {E = E} 64 bs (Ok n) parses plain in
    sym (decimal-digits_value own bs p.0.0 p.0.1 lead p.0.2) ∙ ap decimal (sym p.1)

pub parsed-result : (E : Type 0) (bs text : List ℕ) (r : Result ℕ E) → bs ≡ text → ParsesUnsigned 64 10 text r → get_or bs 0 0 ≢ 43 → (get_or bs 0 0 ≡ 48 → length bs ≡ 1)
    → IfSome (result_ok r) (λ n. text ≡ decimal n)
parsed-result E bs text (Ok n) same parses plain lead =
    let first = ap (λ l. get_or l 0 0) same in
    parsed-spelled E text n parses (λ h. plain (first ∙ h)) (λ h. sym (ap length same) ∙ lead (first ∙ h))
parsed-result E bs text (Err e) same parses plain lead = tt

-- a number that begins with 0 is 0
pub decimal-zero : (n : ℕ) → n < 2 ^ 64 → get_or (decimal n) 0 0 ≡ 48 → length (decimal n) ≡ 1
decimal-zero zero small starts = ap length (decimal_digit 0 (omega arith))
decimal-zero (suc n) small starts = absurd (let lead = first_decimal (suc n) (omega arith) small in omega arith)

no_sign : ¬ (IsInRange 48 57 43)
no_sign h = absurd (omega arith)

pub decimal-plain : (n : ℕ) → n < 2 ^ 64 → get_or (decimal n) 0 0 ≢ 43
decimal-plain n small = not_in_digits own (decimal n) 43 (digits_decimal own n small) no_sign 0 (decimal_nonempty n small)
