-- The first lines of a text.
use Rattle.std.specs.Prelude.{◌≡◌, ◌⊎◌, ℕ, zero, suc, List, [], ◌∷◌, ◌++◌, take, ◌==◌, if◌then◌else◌}
use Rattle.em_log.specs.declared.ids.EndKind.{EndKind}
use Rattle.em_log.specs.declared.entry.Entry.{Entry}
use Rattle.em_trace.specs.Text.{head_word, lines_from, text}

-- the first n lines, each with its newline where it has one
abbrev pub first_lines : ℕ → List ℕ → List ℕ
first_lines zero bytes = []
first_lines (suc n) [] = []
first_lines (suc n) (byte ∷ bytes) = byte ∷ first_lines (if byte == 10 then n else suc n) bytes

abbrev pub newlines : List ℕ → ℕ
newlines [] = 0
newlines (byte ∷ bytes) = if byte == 10 then suc (newlines bytes) else newlines bytes

-- the lines that are ended by a newline
abbrev pub whole_lines : List ℕ → List ℕ
whole_lines bytes = first_lines (newlines bytes) bytes

-- nothing, the first line and those of some first entries, or the whole text
abbrev pub AreFirstEntries : List Entry → EndKind → List ℕ → Type 0
AreFirstEntries history end lines =
    (lines ≡ []) ⊎ ((k : ℕ) × (lines ≡ head_word ++ 10 ∷ lines_from 0 (take k history))) ⊎ (lines ≡ text history end)
