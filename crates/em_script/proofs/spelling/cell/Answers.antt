use Rattle.std.proofs.Common.{append-nil}
use Rattle.std.specs.Prelude.{codes}
use Rattle.em_script.specs.Expressions.{expression}
use Rattle.em_script.proofs.Answers.{on_ok}
use Rattle.em_script.proofs.Spacing.{joined_then}
use Rattle.em_script.proofs.spelling.cell.Goals as goal

pub returns : goal.returns
returns c =
    let value = expression.write c.args.value.now in
    rw (append-nil (expression.write c.args.value.now))
    (on_ok c.expression.result (λ more. joined_then c.args.text.now c.with_value.new.text c.expression.new.text (codes "cell") (expression.write c.args.cell.now) value c.in_ok-with_value.ensures more) c.expression.ensures)
