use Rattle.std.proofs.Common.{◌≡◌, ◌≤◌, length, drop}
use Rattle.em_script.specs.Expressions.{expressions_of}
use Rattle.em_script.proofs.expressions.expressions_of.Given as goal

abbrev pub invariant-symbols : goal.invariant-symbols
invariant-symbols l = record {
  done : l.done ≡ expressions_of (drop l.at l.symbols);
  within : l.at ≤ length l.symbols;
}

abbrev pub decreases-symbols : goal.decreases-symbols
decreases-symbols l = l.at
