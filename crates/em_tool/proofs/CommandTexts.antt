-- The words of a command are values, and their split does not fail.
use Rattle.std.proofs.Common.{◌≡◌, ◌≢◌, ◌<◌, ◌^◌, ◌++◌, ◌∷◌, ◌||◌, ℕ, List, [], false, codes, get_or, length, arith, refl, sym, ap, ap₂, ◌∙◌, subst}
use Rattle.std.specs.Fmt.{decimal}
use Rattle.std.proofs.lemmas.Bool.{ne_eqb}
use Rattle.std.proofs.lemmas.Fmt.{decimal_nonempty, digits_decimal}
use Rattle.std.proofs.lemmas.Str.Parse.{not_in_digits}
use Rattle.clap.specs.Words.{Text, fault_of}
use Rattle.em_tool.specs.Decimal.{AreNumbers, spelled}
use Rattle.em_tool.specs.Splitting.{AreValues, command_line, is_option}
use Rattle.em_tool.specs.Words.{IsCommand}
use Rattle.em_tool.specs.declared.commands.Command.{Command}
use Rattle.em_tool.specs.declared.commands.Command.TheVariants as commands
use Rattle.em_tool.proofs.Numerals.{own}
use Rattle.em_tool.proofs.Orders.{AreNumbers-order}
use Rattle.em_tool.proofs.Splitting.{check_right, solo_right, value_word}

option_first : (text : Text) → get_or text 0 0 ≢ 45 → is_option text ≡ false
option_first [] differs = refl
option_first (x ∷ xs) differs = ne_eqb x 45 differs

decimal_value : (n : ℕ) → n < 2 ^ 64 → is_option (decimal n) ≡ false
decimal_value n small = option_first (decimal n) (not_in_digits own (decimal n) 45 (digits_decimal own n small) (λ range. omega arith) 0 (decimal_nonempty n small))

joined : (xs ys : Text) → 0 < length xs → is_option (xs ++ ys) ≡ is_option xs
joined [] ys some = absurd (omega arith)
joined (x ∷ xs) ys some = refl

spelled_value : (ns : List ℕ) → AreNumbers ns → is_option (spelled 44 ns) ≡ false
spelled_value [] are = absurd are
spelled_value (n ∷ []) are = decimal_value n are.0
spelled_value (n ∷ m ∷ ns) are = joined (decimal n) (44 ∷ spelled 44 (m ∷ ns)) (decimal_nonempty n are.0) ∙ decimal_value n are.0

check_values : AreValues (codes "check" ∷ [])
check_values = (refl, λ rest e. let bad : 99 ≡ 104 = ap (λ l. get_or (get_or l 0 []) 0 0) e in absurd (omega arith))

solo_values : (a b d : Text) → is_option a ≡ false → is_option b ≡ false → is_option d ≡ false → AreValues (codes "solo" ∷ a ∷ b ∷ d ∷ [])
solo_values a b d first second third = (
  ap₂ (λ x y. x || (y || (is_option d || false))) first second ∙ ap (λ z. z || false) third,
  λ rest e. let bad : 115 ≡ 104 = ap (λ l. get_or (get_or l 0 []) 0 0) e in absurd (omega arith),
)

pub commanded : (asked : Command) (texts : List Text) → IsCommand texts asked → AreValues texts × (fault_of command_line texts ≡ [])
commanded (commands.Solo solo) texts is =
    let limit = decimal_value solo.limits.receives (let most = is.at_most in omega arith) in
    let burst = decimal_value solo.limits.burst (let one = is.burst in omega arith) in
    let order = spelled_value solo.order (AreNumbers-order solo.order is.order) in
    subst (λ t. AreValues t × (fault_of command_line t ≡ [])) (sym is.words)
    (solo_values (decimal solo.limits.receives) (decimal solo.limits.burst) (spelled 44 solo.order) limit burst order, solo_right (decimal solo.limits.receives) (value_word (decimal solo.limits.receives) limit) (decimal solo.limits.burst) (value_word (decimal solo.limits.burst) burst) (spelled 44 solo.order) (value_word (spelled 44 solo.order) order))
commanded commands.Check texts is = subst (λ t. AreValues t × (fault_of command_line t ≡ [])) (sym is) (check_values, check_right)
