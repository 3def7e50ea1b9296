use Rattle.std.proofs.Common.{◌++◌}
use Rattle.std.specs.List.{flat_map}
use Rattle.std.specs.Prelude.{codes}
use Rattle.em_script.specs.Expressions.{expression}
use Rattle.em_script.specs.Form.{pool_name, variable}
use Rattle.em_script.specs.Names.{writing}
use Rattle.em_script.proofs.Answers.{on_ok}
use Rattle.em_script.proofs.Spacing.{joined_begin, spaced_then}
use Rattle.em_script.proofs.spelling.alloc.Goals as goal

pub returns : goal.returns
returns c =
    let first = c.begin.new.self in
    let v = variable.write c.args.v in
    let pool = (pool_name (writing c.args.config.now)).write c.args.pool in
    let kind = expression.write c.args.kind.now in
    let words = flat_map expression.write c.args.words.now in
    let two = spaced_then first c.variable.new.self c.name.new.text v pool c.in_ok-variable.ensures c.in_ok-name.ensures in
    let three = spaced_then first c.name.new.text c.expression.new.text (v ++ pool) kind two c.in_ok-expression.ensures in
    on_ok c.expressions.result
    (λ more. joined_begin c.args.text.now first c.expressions.new.text (codes "alloc") (v ++ (pool ++ (kind ++ words))) c.in_ok-begin.ensures (spaced_then first c.expression.new.text c.expressions.new.text (v ++ (pool ++ kind)) words three more))
    c.expressions.ensures
