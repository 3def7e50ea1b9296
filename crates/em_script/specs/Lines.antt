-- The lines of a text, the tokens of a line, and how they are spelled.
use Rattle.std.specs.Prelude.{ℕ, Bool, ◌&&◌, List, [], ◌∷◌, ◌++◌, ◌==◌, if◌then◌else◌, nat_le, flat_map}
use Rattle.std.specs.List.{list_all}

abbrev pub onto_first : ℕ → List (List ℕ) → List (List ℕ)
onto_first byte [] = (byte ∷ []) ∷ []
onto_first byte (piece ∷ more) = (byte ∷ piece) ∷ more

-- the lines, each ended by a newline; where the last byte is no newline, what follows the last one is a line too
unfoldable pub lines : List ℕ → List (List ℕ)
lines [] = []
lines (byte ∷ bytes) = if byte == 10 then [] ∷ lines bytes else onto_first byte (lines bytes)

-- a byte before what follows it in its line: the first byte of a token that ends here, or of the token that goes on
abbrev pub begun : ℕ → List ℕ → List (List ℕ) → List (List ℕ)
begun byte [] more = (byte ∷ []) ∷ more
begun byte (next ∷ bytes) more = if next == 32 then (byte ∷ []) ∷ more else onto_first byte more

-- the longest runs of bytes that are no spaces
unfoldable pub tokens : List ℕ → List (List ℕ)
tokens [] = []
tokens (byte ∷ bytes) = if byte == 32 then tokens bytes else begun byte bytes (tokens bytes)

-- a byte that may stand in a line: a space or a visible character
abbrev pub is_plain_byte : ℕ → Bool
is_plain_byte byte = nat_le 32 byte && nat_le byte 126

abbrev pub is_plain_line : List ℕ → Bool
is_plain_line line = list_all is_plain_byte line

-- the tokens, each after a space
abbrev pub spaced : List (List ℕ) → List ℕ
spaced [] = []
spaced (token ∷ tokens) = 32 ∷ token ++ spaced tokens

-- the tokens, with a space between any two
abbrev pub joined : List (List ℕ) → List ℕ
joined [] = []
joined (token ∷ tokens) = token ++ spaced tokens

-- lines of tokens as text, a newline after each
abbrev pub spelled : List (List (List ℕ)) → List ℕ
spelled lines = flat_map (λ line. joined line ++ 10 ∷ []) lines

-- what is left of a line: its tokens, and the least rule that failed in it so far, or 12
pub record Rest : Type 0 where
  pub tokens : List (List ℕ)
  pub rule : ℕ

abbrev pub rest_of : List ℕ → ℕ → Rest
rest_of bytes rule = record { tokens = tokens bytes; rule = rule }
