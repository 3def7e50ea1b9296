use Rattle.std.proofs.Common.{◌∷◌, []}
use Rattle.em_script.specs.Expressions.{expression}
use Rattle.em_script.specs.Names.{name_in, writing}
use Rattle.em_script.specs.Statements.{notes}
use Rattle.em_script.proofs.Answers.{on_ok}
use Rattle.em_script.proofs.Spacing.{joined_then}
use Rattle.em_script.proofs.spelling.valued.Goals as goal

pub returns : goal.returns
returns c =
    let old = c.args.text.now in
    let word = c.args.word.now in
    let name = name_in c.args.config.now c.args.named in
    let value = expression.write c.args.value.now in
    let two = joined_then old c.with_name.new.text c.expression.new.text word (name ∷ []) value c.in_ok-with_name.ensures c.in_ok-expression.ensures in
    on_ok c.notes.result (λ more. joined_then old c.expression.new.text c.notes.new.text word (name ∷ value) ((notes (writing c.args.config.now)).write c.args.list.now) two more) c.notes.ensures
