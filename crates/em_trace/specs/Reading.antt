-- Reading a trace: its history and end, or the first line that fails with the least rule that fails there.
use Rattle.std.specs.Prelude.{ℕ, ◌+◌, true, List, [], ◌∷◌, ◌++◌, length, Option, Some, None, Result, Ok, Err, ◌==◌, if◌then◌else◌, bytes_eq, codes}
use Rattle.em_log.specs.declared.ids.EndKind.{EndKind}
use Rattle.em_log.specs.declared.ids.EndKind.TheVariants.{Quiet, Limit}
use Rattle.em_log.specs.declared.entry.Entry.{Entry}
use Rattle.em_trace.specs.declared.judging.Line.{Line}
use Rattle.em_trace.specs.declared.judging.Line.TheVariants as lines
use Rattle.em_trace.specs.Line.{Rest, pieces}
use Rattle.em_trace.specs.Form.{Form, ◌▷◌}
use Rattle.em_trace.specs.Forms.{u64_form, entry_form}
use Rattle.em_trace.specs.Text.{head_word}

abbrev pub placed_form : Form (ℕ × Entry)
placed_form = u64_form ▷ entry_form

-- rule 2: the line has no form; 3: a number is spelled badly or out of its range; 4: the place is not the next
abbrev pub placed : ℕ → Option ((ℕ × Entry) × Rest) → Result Line ℕ
placed place None = Err 2
placed place (Some x) = if x.1.well then (if x.0.0 == place then Ok (lines.Entry x.0.1) else Err 4) else Err 3

-- a line without its newline, where this place is the next
unfoldable pub judge : ℕ → List ℕ → Result Line ℕ
judge place line =
    if bytes_eq line (codes "quiet") then Ok (lines.End Quiet)
    else (if bytes_eq line (codes "limit") then Ok (lines.End Limit)
    else placed place (placed_form.read (record { tokens = pieces 32 line; well = true })))

-- the number of the line that fails, and the rule
abbrev pub Refusal : Type 0
Refusal = ℕ × ℕ

abbrev pub Found : Type 0
Found = Result (List Entry × EndKind) Refusal

abbrev pub rule_after_end : Result Line ℕ → ℕ
rule_after_end (Ok line) = 5
rule_after_end (Err rule) = rule

-- what fails behind the last line, from the line of this number on: no byte may stand there
unfoldable pub fault_after : ℕ → ℕ → List (List ℕ) → Option Refusal
fault_after number place [] = None
fault_after number place (piece ∷ []) = if length piece == 0 then None else Some (number, 2)
fault_after number place (line ∷ next ∷ more) = Some (number, rule_after_end (judge place line))

abbrev pub end_unless : EndKind → Option Refusal → Found
end_unless end None = Ok ([], end)
end_unless end (Some refusal) = Err refusal

abbrev pub with_first : Entry → Found → Found
with_first entry (Ok x) = Ok (entry ∷ x.0, x.1)
with_first entry (Err refusal) = Err refusal

-- entries before what is found
abbrev pub behind : List Entry → Found → Found
behind entries (Ok x) = Ok (entries ++ x.0, x.1)
behind entries (Err refusal) = Err refusal

-- by what a line is: an entry before what follows, or the last line
abbrev pub followed : ℕ → Result Line ℕ → Found → Option Refusal → Found
followed number (Err rule) more after = Err (number, rule)
followed number (Ok (lines.Entry entry)) more after = with_first entry more
followed number (Ok (lines.End end)) more after = end_unless end after

-- the lines from the one of this number on, where this place is the next. The last piece has no newline: where it is
-- empty the bytes end there.
unfoldable pub found_from : ℕ → ℕ → List (List ℕ) → Found
found_from number place [] = Err (number, 5)
found_from number place (piece ∷ []) = Err (number, if length piece == 0 then 5 else 2)
found_from number place (line ∷ next ∷ more) =
    followed number (judge place line) (found_from (number + 1) (place + 1) (next ∷ more)) (fault_after (number + 1) place (next ∷ more))

abbrev pub found_behind : List (List ℕ) → Found
found_behind [] = Err (1, 1)
found_behind (head ∷ []) = Err (1, if bytes_eq head head_word then 2 else 1)
found_behind (head ∷ next ∷ more) = if bytes_eq head head_word then found_from 2 0 (next ∷ more) else Err (1, 1)

-- what a trace says, or the first line that fails with its rule
unfoldable pub trace_of : List ℕ → Found
trace_of bytes = found_behind (pieces 10 bytes)
