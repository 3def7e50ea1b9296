use Rattle.std.proofs.Common.{◌≡◌, length}
use Rattle.em_script.specs.Expressions.{expression}
use Rattle.em_script.specs.Form.{up_to_end}
use Rattle.em_script.proofs.Front.{with_front}
use Rattle.em_script.proofs.statements.each_expression.Given as goal

abbrev pub invariant-expressions : goal.invariant-expressions
invariant-expressions l = record {
  so_far : with_front l.expressions (up_to_end expression (length l.line.tokens) l.line) ≡ up_to_end expression (length l.initial.line.tokens) l.initial.line;
}

abbrev pub decreases-expressions : goal.decreases-expressions
decreases-expressions l = length l.line.tokens
