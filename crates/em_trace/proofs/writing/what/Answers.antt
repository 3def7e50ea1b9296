use Rattle.std.proofs.Common.{◌∷◌, ◌++◌, [], append-nil}
use Rattle.std.specs.Prelude.{codes}
use Rattle.em_trace.specs.Forms.{queue_form, event_form, stamped_form}
use Rattle.em_trace.proofs.Spacing.{spaced_then}
use Rattle.em_trace.proofs.writing.what.Goals as goal

pub returns-in-Start-clause-text : goal.returns-in-Start-clause-text
returns-in-Start-clause-text c =
    let old = c.args.line.now in
    let word = codes "start" ∷ [] in
    let queue = queue_form.write c.in-Start.id in
    let event = event_form.write c.in-Start.received in
    let stamp = stamped_form.write c.in-Start.stamp in
    let two = spaced_then old c.word-in-Start.new.self c.queue-in-Start.new.line word queue c.word-in-Start.ensures.text c.queue-in-Start.ensures.text in
    let three = spaced_then old c.queue-in-Start.new.line c.event.new.line (word ++ queue) event two c.event.ensures.text in
    let four = spaced_then old c.event.new.line c.stamped.new.line ((word ++ queue) ++ event) stamp three c.stamped.ensures.text in
    rw (c.in-Start.is, append-nil (stamped_form.write c.in-Start.stamp)) four
