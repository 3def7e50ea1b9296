use Rattle.std.proofs.Common.{◌≡◌, ◌-◌, ℕ, List}
use Rattle.em_trace.specs.Form.{items}
use Rattle.em_trace.specs.Forms.{u64_form}
use Rattle.em_trace.proofs.Items.{with_front}
use Rattle.em_trace.proofs.reading.skip_numbers.Given as goal

abbrev pub invariant-loop : goal.invariant-loop
invariant-loop l = (front : List ℕ) × (with_front front (items u64_form (l.count - l.counter) l.line) ≡ items u64_form l.count l.initial.line)
