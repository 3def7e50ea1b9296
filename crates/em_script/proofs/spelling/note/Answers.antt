use Rattle.std.proofs.Common.{◌∷◌, []}
use Rattle.std.specs.Prelude.{codes}
use Rattle.em_script.specs.Expressions.{expression}
use Rattle.em_script.specs.Form.{queue_name}
use Rattle.em_script.specs.Names.{writing}
use Rattle.em_script.proofs.Answers.{on_ok}
use Rattle.em_script.proofs.Spacing.{spaced_then}
use Rattle.em_script.proofs.spelling.note.Goals as goal

pub returns : goal.returns
returns c =
    let old = c.args.text.now in
    let word = codes "note" ∷ [] in
    let value = expression.write c.args.each.now.0 in
    let queue = (queue_name (writing c.args.config.now)).write c.args.each.now.1 in
    let two = spaced_then old c.word.new.self c.expression.new.text word value c.in_ok-word.ensures c.in_ok-expression.ensures in
    on_ok c.name.result (λ more. spaced_then old c.expression.new.text c.name.new.text (codes "note" ∷ value) queue two more) c.name.ensures
