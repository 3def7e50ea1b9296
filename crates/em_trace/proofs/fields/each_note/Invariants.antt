use Rattle.std.proofs.Common.{◌≡◌, ◌≤◌, ◌+◌, ◌*◌, ◌++◌, length, take}
use Rattle.std.specs.List.{flat_map}
use Rattle.std.specs.List.{AllByRecursion}
use Rattle.em_trace.specs.Fitting.{NoteFits}
use Rattle.em_trace.specs.Line.{spaced}
use Rattle.em_trace.specs.Forms.{note_form}
use Rattle.em_trace.proofs.fields.each_note.Given as goal

abbrev pub invariant-loop-each : goal.invariant-loop-each
invariant-loop-each l = record {
  text : l.line ≡ l.initial.line ++ spaced (flat_map note_form.write (take l.each-index l.notes));
  room : length l.line ≤ length l.initial.line + 44 * l.each-index;
  fits : AllByRecursion NoteFits (take l.each-index l.notes);
}
