use Rattle.std.proofs.Common.{◌++◌}
use Rattle.std.specs.Prelude.{codes}
use Rattle.em_script.specs.Expressions.{expression}
use Rattle.em_script.specs.Form.{egroup_name, queue_name}
use Rattle.em_script.specs.Names.{writing}
use Rattle.em_script.proofs.Answers.{on_ok}
use Rattle.em_script.proofs.Spacing.{joined_then, spaced_then}
use Rattle.em_script.proofs.spelling.send_in_group.Goals as goal

pub returns : goal.returns
returns c =
    let names = writing c.args.config.now in
    let queue = (queue_name names).write c.args.queue in
    let group = (egroup_name names).write c.args.group in
    on_ok c.name-2.result
    (λ more. joined_then c.args.text.now c.with_value.new.text c.name-2.new.text (codes "sendg") (expression.write c.args.word.now) (queue ++ group) c.in_ok-with_value.ensures
    (spaced_then c.with_value.new.text c.name.new.text c.name-2.new.text queue group c.in_ok-name.ensures more))
    c.name-2.ensures
