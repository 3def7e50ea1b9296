use Rattle.std.proofs.Common.{◌≡◌, drop}
use Rattle.em_trace.specs.Form.{value_from, value}
use Rattle.em_trace.proofs.line.value.Given as goal

abbrev pub invariant-loop-digit : goal.invariant-loop-digit
invariant-loop-digit l = value_from l.number (drop l.digit-index l.digits) ≡ value l.digits
