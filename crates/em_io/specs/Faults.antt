-- Counters, and what a counter of faults tells of one call.
use Rattle.std.specs.Prelude.{◌≡◌, ◌⊎◌, ◌<◌, ◌+◌, ℕ, min}

-- the number at which a counter of 64 bits stops
abbrev pub greatest_count : ℕ
greatest_count = 18446744073709551615

-- what a counter shows after n more
abbrev pub count_after : ℕ → ℕ → ℕ
count_after before n = min (before + n) greatest_count

-- the count rose in a call: it is greater than before, or stands where a counter stops
abbrev pub HasRisen : ℕ → ℕ → Type 0
HasRisen before after = (before < after) ⊎ (after ≡ greatest_count)
