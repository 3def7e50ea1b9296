use Rattle.std.specs.Prelude.{codes}
use Rattle.em_trace.specs.Form.{is_at, skip}
use Rattle.em_trace.specs.Forms.{note_form}
use Rattle.em_trace.proofs.Items.{counted-none-at, note-takes}
use Rattle.em_trace.proofs.reading.notes.Goals as goal

pub returns-in_default : goal.returns-in_default
returns-in_default c = counted-none-at 8 note_form note-takes c.word.result (is_at (codes "notes") c.args.line.now) c.args.line.now c.word.new.self (skip c.args.line.now) c.if-not-word.false c.word.ensures.rest c.in_default.ensures
