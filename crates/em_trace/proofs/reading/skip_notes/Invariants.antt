use Rattle.std.proofs.Common.{◌≡◌, ◌-◌, List}
use Rattle.em_log.specs.declared.ids.Note.{Note}
use Rattle.em_trace.specs.Form.{items}
use Rattle.em_trace.specs.Forms.{note_form}
use Rattle.em_trace.proofs.Items.{with_front}
use Rattle.em_trace.proofs.reading.skip_notes.Given as goal

abbrev pub invariant-loop : goal.invariant-loop
invariant-loop l = (front : List Note) × (with_front front (items note_form (l.count - l.counter) l.line) ≡ items note_form l.count l.initial.line)
