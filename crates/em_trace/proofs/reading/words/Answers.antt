use Rattle.std.specs.Prelude.{codes}
use Rattle.em_trace.specs.Form.{is_at, skip}
use Rattle.em_trace.specs.Forms.{u64_form}
use Rattle.em_trace.proofs.Items.{counted-none-at, number-takes}
use Rattle.em_trace.proofs.reading.words.Goals as goal

pub returns-in_default : goal.returns-in_default
returns-in_default c = counted-none-at 16 u64_form (number-takes 18446744073709551615) c.word.result (is_at (codes "words") c.args.line.now) c.args.line.now c.word.new.self (skip c.args.line.now) c.if-not-word.false c.word.ensures.rest c.in_default.ensures
