-- Cutting a text at a known byte.
use Rattle.std.specs.Prelude.{◌≢◌, ◌==◌, ℕ, List, [], ◌∷◌, Option, Some, None, if◌then◌else◌}
use Rattle.std.specs.Option.{option_map}

-- no byte of the text is this one
abbrev pub Lacks : ℕ → List ℕ → Type 0
Lacks end [] = Unit {0}
Lacks end (b ∷ bs) = (b ≢ end) × Lacks end bs

-- what stands before the first such byte, and after it
abbrev pub cut : ℕ → List ℕ → Option (List ℕ × List ℕ)
cut end [] = None
cut end (b ∷ bs) = if b == end then Some ([], bs) else option_map (λ parts. (b ∷ parts.0, parts.1)) (cut end bs)
