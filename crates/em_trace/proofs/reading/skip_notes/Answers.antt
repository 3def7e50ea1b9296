use Rattle.std.proofs.Common.{◌∷◌, ◌++◌, []}
use Rattle.em_trace.specs.Forms.{note_form}
use Rattle.em_trace.proofs.Items.{items-more, items-none, items-done}
use Rattle.em_trace.proofs.reading.skip_notes.Goals as goal

pub returns-in_default : goal.returns-in_default
returns-in_default c = items-none note_form c.loop.invariant.0 c.args.count c.loop.counter c.loop.line _ c.loop-test.true c.in_default.ensures c.loop.invariant.1

pub loop-preserved : goal.loop-preserved
loop-preserved c = (c.loop.invariant.0 ++ c.in-Some.field-0 ∷ [], items-more note_form c.loop.invariant.0 c.args.count c.loop.counter c.loop.line c.in-Some.field-0 c.note.new.line _ c.loop-test.true c.in-Some.ensures c.loop.invariant.1)

pub returns : goal.returns
returns c = (c.loop.invariant.0, items-done note_form c.loop.invariant.0 c.args.count c.loop.counter c.loop.line _ c.loop-test.false c.loop.invariant.1)
