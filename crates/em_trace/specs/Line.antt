-- The lines of a text, and the tokens of a line.
use Rattle.std.specs.Borrow.{Bor}
use Rattle.std.specs.Prelude.{Option, Some, None, ℕ, Bool, List, [], ◌∷◌, ◌++◌, ◌==◌, if◌then◌else◌}

abbrev pub onto_first : ℕ → List (List ℕ) → List (List ℕ)
onto_first byte [] = (byte ∷ []) ∷ []
onto_first byte (piece ∷ more) = (byte ∷ piece) ∷ more

-- what stands before, between and after the separators: one piece more than there are separators
unfoldable pub pieces : ℕ → List ℕ → List (List ℕ)
pieces separator [] = [] ∷ []
pieces separator (byte ∷ bytes) = if byte == separator then [] ∷ pieces separator bytes else onto_first byte (pieces separator bytes)

-- the tokens, each after a space
abbrev pub spaced : List (List ℕ) → List ℕ
spaced [] = []
spaced (token ∷ tokens) = 32 ∷ token ++ spaced tokens

-- the tokens, with a space between any two
abbrev pub joined : List (List ℕ) → List ℕ
joined [] = []
joined (token ∷ tokens) = token ++ spaced tokens

-- what is left of a line: its tokens, and whether each number so far was spelled well and in its range
pub record Rest : Type 0 where
  pub tokens : List (List ℕ)
  pub well : Bool

-- the pieces of what is left, where something is left
abbrev pub pieces_of : ℕ → Option (Bor (List ℕ)) → List (List ℕ)
pieces_of separator None = []
pieces_of separator (Some bytes) = pieces separator bytes.now

abbrev pub rest_of : Option (Bor (List ℕ)) → Bool → Rest
rest_of bytes well = record { tokens = pieces_of 32 bytes; well = well }
