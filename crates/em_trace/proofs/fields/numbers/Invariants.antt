use Rattle.std.proofs.Common.{◌≡◌, ◌≤◌, ◌+◌, ◌*◌, ◌++◌, length, take}
use Rattle.std.specs.List.{flat_map}
use Rattle.em_trace.specs.Line.{spaced}
use Rattle.em_trace.specs.Forms.{u64_form}
use Rattle.em_trace.proofs.fields.numbers.Given as goal

abbrev pub invariant-loop-number : goal.invariant-loop-number
invariant-loop-number l = record {
  text : l.line ≡ l.initial.line ++ spaced (flat_map u64_form.write (take l.number-index l.numbers));
  room : length l.line ≤ length l.initial.line + 22 * l.number-index;
}
