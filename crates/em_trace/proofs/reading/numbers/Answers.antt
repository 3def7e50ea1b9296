use Rattle.std.proofs.Common.{◌∷◌, [], arith, length-append}
use Rattle.em_trace.specs.Forms.{u64_form}
use Rattle.em_trace.proofs.Items.{items-more, items-none, items-done}
use Rattle.em_trace.proofs.reading.numbers.Goals as goal

pub returns-in_default : goal.returns-in_default
returns-in_default c = items-none u64_form c.loop.words c.args.count c.loop.counter c.loop.line _ c.loop-test.true c.in_default.ensures c.loop.invariant.so_far

pub loop-preserved : goal.loop-preserved
loop-preserved c = record {
  so_far = rw c.push.ensures (items-more u64_form c.loop.words c.args.count c.loop.counter c.loop.line c.in-Some.word c.u64_number.new.line _ c.loop-test.true c.in-Some.ensures c.loop.invariant.so_far);
  as_many = rw c.push.ensures (omega (arith, length-append c.loop.words (c.in-Some.word ∷ []), c.loop.invariant.as_many));
}

pub returns : goal.returns
returns c = items-done u64_form c.loop.words c.args.count c.loop.counter c.loop.line _ c.loop-test.false c.loop.invariant.so_far
