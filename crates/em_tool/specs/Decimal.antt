-- Numbers spelled in decimal digits, with no sign and no leading zero.
use Rattle.std.specs.Prelude.{◌<◌, ◌^◌, ℕ, List, [], ◌∷◌, map}
use Rattle.std.specs.Fmt.{decimal}
use Rattle.std.specs.List.{join_with_byte}

-- each fits 64 bits
abbrev pub AllFit : List ℕ → Type 0
AllFit [] = Unit {0}
AllFit (n ∷ ns) = (n < 2 ^ 64) × AllFit ns

-- at least one number, and each fits 64 bits
abbrev pub AreNumbers : List ℕ → Type 0
AreNumbers [] = ⊥
AreNumbers (n ∷ ns) = (n < 2 ^ 64) × AllFit ns

-- their spellings, with the separator between each two
abbrev pub spelled : ℕ → List ℕ → List ℕ
spelled separator numbers = join_with_byte separator (map decimal numbers)
