use Rattle.std.proofs.Common.{◌≡◌, ◌++◌, take}
use Rattle.std.specs.List.{flat_map}
use Rattle.em_script.specs.Expressions.{expression}
use Rattle.em_script.specs.Lines.{spaced}
use Rattle.em_script.proofs.spelling.expressions.Given as goal

abbrev pub invariant-loop-each : goal.invariant-loop-each
invariant-loop-each l = l.text ≡ l.initial.text ++ spaced (flat_map expression.write (take l.each-index l.expressions))
