use Rattle.std.specs.Prelude.{codes}
use Rattle.em_script.specs.Expressions.{expression}
use Rattle.em_script.specs.Form.{queue_name}
use Rattle.em_script.specs.Names.{writing}
use Rattle.em_script.proofs.Answers.{on_ok}
use Rattle.em_script.proofs.Spacing.{joined_then}
use Rattle.em_script.proofs.spelling.send.Goals as goal

pub returns : goal.returns
returns c =
    let queue = (queue_name (writing c.args.config.now)).write c.args.queue in
    on_ok c.name.result (λ more. joined_then c.args.text.now c.with_value.new.text c.name.new.text (codes "send") (expression.write c.args.word.now) queue c.in_ok-with_value.ensures more) c.name.ensures
