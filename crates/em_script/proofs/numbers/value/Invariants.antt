use Rattle.std.proofs.Common.{◌≡◌, drop}
use Rattle.em_script.specs.Numerals.{value_from, value}
use Rattle.em_script.proofs.numbers.value.Given as goal

abbrev pub invariant-loop-digit : goal.invariant-loop-digit
invariant-loop-digit l = value_from l.number (drop l.digit-index l.digits) ≡ value l.digits
