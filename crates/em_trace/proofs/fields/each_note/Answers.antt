use Rattle.std.proofs.Common.{arith}
use Rattle.em_trace.specs.Forms.{note_form}
use Rattle.em_trace.specs.Fitting.{NoteFits}
use Rattle.em_trace.proofs.Fits.{fits_more, fits_all}
use Rattle.em_trace.proofs.Spacing.{spaced_step}
use Rattle.em_trace.proofs.fields.each_note.Goals as goal

pub loop-each-preserved : goal.loop-each-preserved
loop-each-preserved c = record {
  text = spaced_step note_form.write c.args.notes.now c.loop-each.each-index _ c.args.line.now c.loop-each.line c.note.new.line c.loop-each-test.true c.loop-each.invariant.text c.note.ensures.text;
  room = omega (arith, c.loop-each.invariant.room, c.note.ensures.length);
  fits = fits_more NoteFits c.args.notes.now c.loop-each.each-index _ c.loop-each-test.true c.loop-each.invariant.fits c.note.ensures.fits;
}

pub returns-clause-fits : goal.returns-clause-fits
returns-clause-fits c = fits_all NoteFits c.args.notes.now c.loop-each.each-index c.loop-each-test.false c.loop-each.invariant.fits
