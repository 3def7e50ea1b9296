use Rattle.std.proofs.Common.{◌++◌, ap, ◌∙◌}
use Rattle.em_script.specs.Expressions.{expression}
use Rattle.em_script.specs.Lines.{spaced}
use Rattle.em_script.proofs.Spacing.{spaced_step}
use Rattle.em_script.proofs.spelling.expressions.Goals as goal

pub loop-each-preserved : goal.loop-each-preserved
loop-each-preserved c =
    let wrote = c.in_ok-expression.ensures ∙ ap (λ x. c.loop-each.text ++ spaced (expression.write x)) c.each-item.is in
    spaced_step expression.write c.args.expressions.now c.loop-each.each-index c.each-item.result c.args.text.now c.loop-each.text c.expression.new.text c.loop-each-test.true c.loop-each.invariant wrote
