-- What a source has left, and what reading it takes.
use Rattle.std.specs.Prelude.{◌≡◌, ◌+◌, ℕ, List, Option, length}
use Rattle.std.specs.Io.KnownBytes.{prepend_known}

-- these bytes were the first ones left, and they are gone
pub record Takes (left-before left-after : Option (List ℕ)) (given-before given-after : ℕ) (bytes : List ℕ) : Type 0 where
  pub left : left-before ≡ prepend_known bytes left-after
  pub given : given-after ≡ given-before + length bytes
