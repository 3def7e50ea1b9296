use Rattle.std.proofs.Common.{◌≡◌, ◌<◌, length, false, sym}
use Rattle.std.proofs.lemmas.Result.{err_from_is_err_and}
use Rattle.em_script.specs.Form.{is_over}
use Rattle.em_script.specs.Expressions.{expression}
use Rattle.em_script.proofs.Symbols.{expression-takes}
use Rattle.em_script.proofs.Repeats.{up_to_end-more, up_to_end-none, up_to_end-done}
use Rattle.em_script.proofs.Follows.{stops-by}
use Rattle.em_script.proofs.statements.each_expression.Goals as goal

pub returns-in_err-expression : goal.returns-in_err-expression
returns-in_err-expression c =
    let p = err_from_is_err_and c.from_residual.result c.from_residual.ensures.1 in
    let on : is_over c.expressions.line ≡ false = sym c.expressions-test.ensures in
    rw (p.1, p.2) (stops-by c.in_err-expression.field-0.0 (expression.read c.expressions.line) _ c.in_err-expression.ensures (λ none. up_to_end-none expression c.expressions.expressions c.expressions.line _ on none c.expressions.invariant.so_far))

pub expressions-smaller : goal.expressions-smaller
expressions-smaller c =
    let less : length c.expression.new.line.tokens < length c.expressions.line.tokens = expression-takes c.expressions.line c.in_ok-expression.field-0 c.expression.new.line c.in_ok-expression.ensures in
    less

pub expressions-preserved : goal.expressions-preserved
expressions-preserved c =
    let on : is_over c.expressions.line ≡ false = sym c.expressions-test.ensures in
    record { so_far = rw c.in_ok-push.ensures.ok (up_to_end-more expression expression-takes c.expressions.expressions c.expressions.line c.in_ok-expression.field-0 c.expression.new.line _ on c.in_ok-expression.ensures c.expressions.invariant.so_far) }

pub returns : goal.returns
returns c = let t = c.expressions-test.false in let u = c.expressions-test.ensures in up_to_end-done expression c.expressions.expressions c.expressions.line _ (sym c.expressions-test.ensures) c.expressions.invariant.so_far
