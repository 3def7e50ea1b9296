use Rattle.std.proofs.Common.{◌++◌, ap, ◌∙◌}
use Rattle.em_script.specs.Lines.{spaced}
use Rattle.em_script.specs.Names.{writing}
use Rattle.em_script.specs.Statements.{note}
use Rattle.em_script.proofs.Spacing.{spaced_step}
use Rattle.em_script.proofs.spelling.notes.Goals as goal

pub loop-each-preserved : goal.loop-each-preserved
loop-each-preserved c =
    let write = (note (writing c.args.config.now)).write in
    let wrote = c.in_ok-note.ensures ∙ ap (λ x. c.loop-each.text ++ spaced (write x)) c.each-item.is in
    spaced_step write c.args.list.now c.loop-each.each-index c.each-item.result c.args.text.now c.loop-each.text c.note.new.text c.loop-each-test.true c.loop-each.invariant wrote
