-- Numbers in decimal digits.
use Rattle.std.specs.Prelude.{ℕ, ◌+◌, ◌-◌, ◌*◌, Bool, not, ◌&&◌, List, [], ◌∷◌, length, slice_index, ◌==◌, nat_lt, nat_le}
use Rattle.std.specs.Char.{is_ascii_digit}
use Rattle.std.specs.List.{list_all}

abbrev pub value_from : ℕ → List ℕ → ℕ
value_from n [] = n
value_from n (digit ∷ digits) = value_from (10 * n + (digit - 48)) digits

-- the number that digits spell, leading zeros or not
unfoldable pub value : List ℕ → ℕ
value digits = value_from 0 digits

unfoldable pub is_digits : List ℕ → Bool
is_digits token = nat_lt 0 (length token) && list_all is_ascii_digit token

-- digits without a leading zero, of a number from low to high
unfoldable pub is_within : ℕ → ℕ → List ℕ → Bool
is_within low high digits =
    not (slice_index digits 0 == 48 && nat_lt 1 (length digits)) && nat_le low (value digits) && nat_le (value digits) high

-- the greatest number of 64 bits
abbrev pub greatest : ℕ
greatest = 18446744073709551615
