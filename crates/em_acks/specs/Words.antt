-- The numbers of a set, by the bits of its word.
use Rattle.std.specs.Prelude.{ℕ, ◌≡◌, ◌<◌, ◌==◌, Bool, true, false, List, filter, Option, Some, None}
use Rattle.std.specs.Int.{bit_at}
use Rattle.em_log.specs.Declarations.{below}

abbrev pub is_member : ℕ → ℕ → Bool
is_member bits i = bit_at bits i == 1

-- the numbers of the bits that are set in a word of 64 bits, upwards
unfoldable pub members : ℕ → List ℕ
members bits = filter (is_member bits) (below 64)

-- the least number that passes the test, if one does
abbrev pub IsLeast : (ℕ → Bool) → Option ℕ → Type 0
IsLeast test None = (n : ℕ) → test n ≡ false
IsLeast test (Some n) = (test n ≡ true) × ((m : ℕ) → m < n → test m ≡ false)
