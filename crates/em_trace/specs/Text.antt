-- The text of a history and its end.
use Rattle.std.specs.Prelude.{ℕ, ◌+◌, List, [], ◌∷◌, ◌++◌, decimal, codes}
use Rattle.em_log.specs.declared.ids.EndKind.{EndKind}
use Rattle.em_log.specs.declared.ids.EndKind.TheVariants.{Quiet, Limit}
use Rattle.em_log.specs.declared.entry.Entry.{Entry}
use Rattle.em_trace.specs.Line.{joined}
use Rattle.em_trace.specs.Forms.{entry_form}

abbrev pub line_tokens : ℕ → Entry → List (List ℕ)
line_tokens place entry = decimal place ∷ entry_form.write entry

-- an entry's line: its place, its core and what happened, with a newline
unfoldable pub line : ℕ → Entry → List ℕ
line place entry = joined (line_tokens place entry) ++ 10 ∷ []

-- the lines of entries whose first one has this place
unfoldable pub lines_from : ℕ → List Entry → List ℕ
lines_from place [] = []
lines_from place (entry ∷ entries) = line place entry ++ lines_from (place + 1) entries

abbrev pub end_word : EndKind → List ℕ
end_word Quiet = codes "quiet"
end_word Limit = codes "limit"

abbrev pub head_word : List ℕ
head_word = codes "trace 1"

-- the text of a history, its oldest entry first, and its end
unfoldable pub text : List Entry → EndKind → List ℕ
text history end = head_word ++ 10 ∷ (lines_from 0 history ++ (end_word end ++ 10 ∷ []))
