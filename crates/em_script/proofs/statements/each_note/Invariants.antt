use Rattle.std.proofs.Common.{◌≡◌, length}
use Rattle.em_script.specs.Form.{up_to_end}
use Rattle.em_script.specs.Names.{reading}
use Rattle.em_script.specs.Statements.{note}
use Rattle.em_script.proofs.Front.{with_front}
use Rattle.em_script.proofs.statements.each_note.Given as goal

abbrev pub invariant-notes : goal.invariant-notes
invariant-notes l = record {
  so_far : with_front l.notes (up_to_end (note (reading l.names)) (length l.line.tokens) l.line) ≡ up_to_end (note (reading l.names)) (length l.initial.line.tokens) l.initial.line;
}

abbrev pub decreases-notes : goal.decreases-notes
decreases-notes l = length l.line.tokens
