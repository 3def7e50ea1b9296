-- What a sink holds after a write.
use Rattle.std.specs.Prelude.{◌≡◌, ℕ, List, Option, take}
use Rattle.std.specs.Io.KnownBytes.{append_known}

-- some first bytes of the piece were appended
abbrev pub AppendsPrefix : Option (List ℕ) → Option (List ℕ) → List ℕ → Type 0
AppendsPrefix before after piece = (n : ℕ) × (after ≡ append_known before (take n piece))
