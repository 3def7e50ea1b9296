use Rattle.std.proofs.Common.{arith}
use Rattle.em_trace.specs.Forms.{u64_form}
use Rattle.em_trace.proofs.Spacing.{spaced_step}
use Rattle.em_trace.proofs.fields.numbers.Goals as goal

pub loop-number-preserved : goal.loop-number-preserved
loop-number-preserved c = record {
  text = spaced_step u64_form.write c.args.numbers.now c.loop-number.number-index 0 c.args.line.now c.loop-number.line c.number.new.self c.loop-number-test.true c.loop-number.invariant.text c.number.ensures.text;
  room = omega (arith, c.loop-number.invariant.room, c.number.ensures.length);
}
