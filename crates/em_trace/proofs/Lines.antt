-- Reading by lines, where the next line is known.
use Rattle.std.proofs.Common.{◌≡◌, ℕ, ◌+◌, true, false, cond, eqb, List, [], ◌∷◌, ◌++◌, length, Some, Ok, Err, refl, sym, ap, ◌∙◌, append_assoc}
use Rattle.em_log.specs.declared.ids.EndKind.{EndKind}
use Rattle.em_log.specs.declared.entry.Entry.{Entry}
use Rattle.em_trace.specs.declared.judging.Line.TheVariants as lines
use Rattle.em_trace.specs.Form.{has_none}
use Rattle.std.specs.Prelude.{bytes_eq}
use Rattle.em_trace.specs.Text.{head_word}
use Rattle.em_trace.specs.Line.{pieces}
use Rattle.em_trace.specs.Reading.{trace_of, found_behind, judge, Found, rule_after_end, fault_after, found_from, followed, with_first, end_unless, behind}
use Rattle.em_trace.proofs.Pieces.{has_none_pieces}

after-more : (number place : ℕ) (line : List ℕ) (ps : List (List ℕ)) → has_none ps ≡ false → fault_after number place (line ∷ ps) ≡ Some (number, rule_after_end (judge place line))
unfolding fault_after
after-more number place line [] h = absurd cc
after-more number place line (p ∷ ps) h = refl

-- behind the last line there is a line
pub fault_after_more : (number place : ℕ) (line rest : List ℕ) → fault_after number place (line ∷ pieces 10 rest) ≡ Some (number, rule_after_end (judge place line))
fault_after_more number place line rest = after-more number place line (pieces 10 rest) (has_none_pieces 10 rest)

from-more : (number place : ℕ) (line : List ℕ) (ps : List (List ℕ)) → has_none ps ≡ false → found_from number place (line ∷ ps) ≡ followed number (judge place line) (found_from (number + 1) (place + 1) ps) (fault_after (number + 1) place ps)
unfolding found_from
from-more number place line [] h = absurd cc
from-more number place line (p ∷ ps) h = refl

pub found_from_more : (number place : ℕ) (line rest : List ℕ) → found_from number place (line ∷ pieces 10 rest) ≡ followed number (judge place line) (found_from (number + 1) (place + 1) (pieces 10 rest)) (fault_after (number + 1) place (pieces 10 rest))
found_from_more number place line rest = from-more number place line (pieces 10 rest) (has_none_pieces 10 rest)

pub found_from_last : (number place : ℕ) (line : List ℕ) → found_from number place (line ∷ []) ≡ Err (number, cond (eqb (length line) 0) 5 2)
unfolding found_from
found_from_last number place line = refl

behind-first : (front : List Entry) (entry : Entry) (found : Found) → behind front (with_first entry found) ≡ behind (front ++ entry ∷ []) found
behind-first front entry (Err refusal) = refl
behind-first front entry (Ok x) = ap (λ (es : List Entry). Ok (es, x.1)) (sym (append_assoc front (entry ∷ []) x.0))

-- ---- the loop over the lines

module _ (front : List Entry) (number place : ℕ) (bytes line : List ℕ) (total : Found) (so_far : behind front (found_from number place (pieces 10 bytes)) ≡ total) where
  -- no newline is left
  pub lines_end : pieces 10 bytes ≡ line ∷ [] → total ≡ Err (number, cond (eqb (length line) 0) 5 2)
  lines_end e = sym so_far ∙ ap (λ ps. behind front (found_from number place ps)) e ∙ ap (behind front) (found_from_last number place line)

  lines-more : (rest : List ℕ) → pieces 10 bytes ≡ line ∷ pieces 10 rest → total ≡ behind front (followed number (judge place line) (found_from (number + 1) (place + 1) (pieces 10 rest)) (fault_after (number + 1) place (pieces 10 rest)))
  lines-more rest e = sym so_far ∙ ap (λ ps. behind front (found_from number place ps)) e ∙ ap (behind front) (found_from_more number place line rest)

  pub lines_refused : (rest : List ℕ) (rule : ℕ) → pieces 10 bytes ≡ line ∷ pieces 10 rest → judge place line ≡ Err rule → total ≡ Err (number, rule)
  lines_refused rest rule e j = lines-more rest e ∙ rw j refl

  pub lines_over : (rest : List ℕ) (end : EndKind) → pieces 10 bytes ≡ line ∷ pieces 10 rest → judge place line ≡ Ok (lines.End end) → total ≡ behind front (end_unless end (fault_after (number + 1) place (pieces 10 rest)))
  lines_over rest end e j = lines-more rest e ∙ rw j refl

  pub lines_entry : (rest : List ℕ) (entry : Entry) → pieces 10 bytes ≡ line ∷ pieces 10 rest → judge place line ≡ Ok (lines.Entry entry) → behind (front ++ entry ∷ []) (found_from (number + 1) (place + 1) (pieces 10 rest)) ≡ total
  lines_entry rest entry e j = sym (lines-more rest e ∙ rw j refl ∙ behind-first front entry (found_from (number + 1) (place + 1) (pieces 10 rest)))

behind-nothing : (found : Found) → behind [] found ≡ found
behind-nothing (Ok x) = refl
behind-nothing (Err refusal) = refl

pub lines_begin : (number place : ℕ) (ps : List (List ℕ)) → behind [] (found_from number place ps) ≡ found_from number place ps
lines_begin number place ps = behind-nothing (found_from number place ps)

pub head-more : (head : List ℕ) (ps : List (List ℕ)) → has_none ps ≡ false → found_behind (head ∷ ps) ≡ cond (bytes_eq head head_word) (found_from 2 0 ps) (Err (1, 1))
head-more head [] h = absurd cc
head-more head (p ∷ ps) h = refl

-- what is found behind a good first line
pub trace_behind_head : (bytes head rest : List ℕ) → pieces 10 bytes ≡ head ∷ pieces 10 rest → bytes_eq head head_word ≡ true → trace_of bytes ≡ found_from 2 0 (pieces 10 rest)
unfolding trace_of
trace_behind_head bytes head rest e good = ap found_behind e ∙ head-more head (pieces 10 rest) (has_none_pieces 10 rest) ∙ rw good refl
