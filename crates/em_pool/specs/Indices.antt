-- Sets of indices in words of 64 bits.
use Rattle.std.specs.Prelude.{ℕ, ◌≡◌, ◌*◌, ◌/◌, ◌%◌, ◌<◌, ◌≤◌, ◌==◌, Bool, true, false, List, length, map, slice_index, Option, Some, None}
use Rattle.std.specs.Int.{bit_at}
use Rattle.em_log.specs.Declarations.{below}

-- whether an index is in the set of these words
abbrev pub is_member : List ℕ → ℕ → Bool
is_member words i = bit_at (slice_index words (i / 64)) (i % 64) == 1

-- which indices below the size are in it
abbrev pub members : ℕ → List ℕ → List Bool
members size words = map (is_member words) (below size)

-- each bit of the summary tells whether a word is not 0
pub record AreSummed (words : List ℕ) (summary : ℕ) : Type 0 where
  pub empty : (w : ℕ) → bit_at summary w ≡ 0 → slice_index words w ≡ 0
  pub nonempty : (w : ℕ) → bit_at summary w ≡ 1 → 0 < slice_index words w

-- the first number from a on that passes the test, if one does
abbrev pub IsFirst : (ℕ → Bool) → ℕ → Option ℕ → Type 0
IsFirst test a None = (k : ℕ) → a ≤ k → test k ≡ false
IsFirst test a (Some i) = (a ≤ i) × (test i ≡ true) × ((k : ℕ) → a ≤ k → k < i → test k ≡ false)

-- the words have a bit for each index below the size and no other set
pub record IsSummed (size : ℕ) (words : List ℕ) (summary : ℕ) : Type 0 where
  pub few : size ≤ 4096
  pub enough : size ≤ 64 * length words
  pub few_words : length words ≤ 64
  pub within : (i : ℕ) → size ≤ i → bit_at (slice_index words (i / 64)) (i % 64) ≡ 0
  pub summed : AreSummed words summary
