use Rattle.std.proofs.Common.{◌≡◌, ◌-◌, length}
use Rattle.em_trace.specs.Form.{items}
use Rattle.em_trace.specs.Forms.{u64_form}
use Rattle.em_trace.proofs.Items.{with_front}
use Rattle.em_trace.proofs.reading.numbers.Given as goal

abbrev pub invariant-loop : goal.invariant-loop
invariant-loop l = record {
  so_far : with_front l.words (items u64_form (l.count - l.counter) l.line) ≡ items u64_form l.count l.initial.line;
  as_many : length l.words ≡ l.counter;
}
