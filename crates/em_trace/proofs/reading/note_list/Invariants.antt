use Rattle.std.proofs.Common.{◌≡◌, ◌-◌, length}
use Rattle.em_trace.specs.Form.{items}
use Rattle.em_trace.specs.Forms.{note_form}
use Rattle.em_trace.proofs.Items.{with_front}
use Rattle.em_trace.proofs.reading.note_list.Given as goal

abbrev pub invariant-loop : goal.invariant-loop
invariant-loop l = record {
  so_far : with_front l.notes (items note_form (l.count - l.counter) l.line) ≡ items note_form l.count l.initial.line;
  as_many : length l.notes ≡ l.counter;
}
