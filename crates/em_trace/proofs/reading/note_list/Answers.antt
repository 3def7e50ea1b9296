use Rattle.std.proofs.Common.{◌∷◌, [], arith, length-append}
use Rattle.em_trace.specs.Forms.{note_form}
use Rattle.em_trace.proofs.Items.{items-more, items-none, items-done}
use Rattle.em_trace.proofs.reading.note_list.Goals as goal

pub returns-in_default : goal.returns-in_default
returns-in_default c = items-none note_form c.loop.notes c.args.count c.loop.counter c.loop.line _ c.loop-test.true c.in_default.ensures c.loop.invariant.so_far

pub loop-preserved : goal.loop-preserved
loop-preserved c = record {
  so_far = rw c.push.ensures (items-more note_form c.loop.notes c.args.count c.loop.counter c.loop.line c.in-Some.note c.note.new.line _ c.loop-test.true c.in-Some.ensures c.loop.invariant.so_far);
  as_many = rw c.push.ensures (omega (arith, length-append c.loop.notes (c.in-Some.note ∷ []), c.loop.invariant.as_many));
}

pub returns : goal.returns
returns c = items-done note_form c.loop.notes c.args.count c.loop.counter c.loop.line _ c.loop-test.false c.loop.invariant.so_far
