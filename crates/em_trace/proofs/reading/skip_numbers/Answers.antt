use Rattle.std.proofs.Common.{◌∷◌, ◌++◌, []}
use Rattle.em_trace.specs.Forms.{u64_form}
use Rattle.em_trace.proofs.Items.{items-more, items-none, items-done}
use Rattle.em_trace.proofs.reading.skip_numbers.Goals as goal

pub returns-in_default : goal.returns-in_default
returns-in_default c = items-none u64_form c.loop.invariant.0 c.args.count c.loop.counter c.loop.line _ c.loop-test.true c.in_default.ensures c.loop.invariant.1

pub loop-preserved : goal.loop-preserved
loop-preserved c = (c.loop.invariant.0 ++ c.in-Some.field-0 ∷ [], items-more u64_form c.loop.invariant.0 c.args.count c.loop.counter c.loop.line c.in-Some.field-0 c.u64_number.new.line _ c.loop-test.true c.in-Some.ensures c.loop.invariant.1)

pub returns : goal.returns
returns c = (c.loop.invariant.0, items-done u64_form c.loop.invariant.0 c.args.count c.loop.counter c.loop.line _ c.loop-test.false c.loop.invariant.1)
