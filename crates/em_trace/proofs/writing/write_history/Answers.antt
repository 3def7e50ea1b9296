use Rattle.std.proofs.Common.{◌≡◌, get_or, Result, Ok, Err, sym, ap, subst, ◌∙◌, rules, arith}
use Rattle.std.specs.Prelude.{OnOk, OnErr}
use Rattle.std.specs.Io.KnownBytes.{append_known}
use Rattle.em_io.specs.Sink.{AppendsPrefix}
use Rattle.em_trace.specs.Fitting.{EntryFits, AreEntries}
use Rattle.em_trace.specs.Text.{line}
use Rattle.em_trace.proofs.Fits.{fits_more, fits_all}
use Rattle.em_trace.proofs.Appending.{text_before, text_before_more, text_first, text_part, text_whole, text_last_part, text_before_none}
use Rattle.em_io.proofs.Writing.{appends_then}
use Rattle.em_trace.proofs.writing.write_history.Goals as goal

on_ok : {A E : Type 0} (r : Result A E) (P Q : Type 0) → OnOk r P → (P → Q) → OnOk r Q
on_ok (Ok x) P Q h f = f h
on_ok (Err x) P Q h f = h

on_err : {A E : Type 0} (r : Result A E) (P Q : Type 0) → OnErr r P → (P → Q) → OnErr r Q
on_err (Ok x) P Q h f = h
on_err (Err x) P Q h f = f h

pub returns-in-Err-clause-part : goal.returns-in-Err-clause-part
returns-in-Err-clause-part g c = text_first c.args.log.now c.args.end (g.K.Sink.written c.args.sink.now) (g.K.Sink.written c.put.new.sink) c.in-Err.ensures.part

pub loop-place-init : goal.loop-place-init
loop-place-init g c = record {
  written = c.in_default.ensures.whole ∙ ap (λ t. append_known (g.K.Sink.written c.args.sink.now) t) (sym (text_before_none c.args.log.now));
  faults = search rules;
  fits = tt;
}

pub returns-in-Err-write_entry-clause-part : goal.returns-in-Err-write_entry-clause-part
returns-in-Err-write_entry-clause-part g c =
    let e = c.index-log-place.result in
    let a = g.K.Sink.written c.args.sink.now in
    let b = g.K.Sink.written c.loop-place.sink in
    let d = g.K.Sink.written c.write_entry.new.sink in
    text_part c.args.log.now c.args.end c.loop-place.place e a b d c.loop-place-test.true c.loop-place.invariant.written
    (subst (λ x. AppendsPrefix (g.K.Sink.written c.loop-place.sink) (g.K.Sink.written c.write_entry.new.sink) (line c.loop-place.place x)) c.index-log-place.is c.in-Err-write_entry.ensures.part)

pub loop-place-preserved : goal.loop-place-preserved
loop-place-preserved g c =
    let e = c.index-log-place.result in
    let wrote : g.K.Sink.written c.write_entry.new.sink ≡ append_known (g.K.Sink.written c.loop-place.sink) (line c.loop-place.place (get_or c.args.log.now c.loop-place.place c.index-log-place.result)) =
    subst (λ x. g.K.Sink.written c.write_entry.new.sink ≡ append_known (g.K.Sink.written c.loop-place.sink) (line c.loop-place.place x)) c.index-log-place.is c.in_default-write_entry.ensures.whole in
    record {
      written = appends_then (g.K.Sink.written c.args.sink.now) (g.K.Sink.written c.loop-place.sink) (g.K.Sink.written c.write_entry.new.sink) (text_before c.args.log.now c.loop-place.place) (line c.loop-place.place (get_or c.args.log.now c.loop-place.place e)) c.loop-place.invariant.written wrote
          ∙ ap (λ t. append_known (g.K.Sink.written c.args.sink.now) t) (sym (text_before_more c.args.log.now c.loop-place.place e c.loop-place-test.true));
      faults = search rules;
      fits = fits_more EntryFits c.args.log.now c.loop-place.place e c.loop-place-test.true c.loop-place.invariant.fits (subst EntryFits c.index-log-place.is c.write_entry.ensures.fits);
    }

pub returns-clause-whole : goal.returns-clause-whole
returns-clause-whole g c =
    on_ok c.put-2.result _ _ c.put-2.ensures.whole
    (λ (h : g.K.Sink.written c.put-2.new.sink ≡ append_known (g.K.Sink.written c.loop-place.sink) c.as_bytes.result.now). text_whole c.args.log.now c.args.end c.loop-place.place (g.K.Sink.written c.args.sink.now) (g.K.Sink.written c.loop-place.sink) (g.K.Sink.written c.put-2.new.sink) c.loop-place-test.false c.loop-place.invariant.written
    (h ∙ ap (λ t. append_known (g.K.Sink.written c.loop-place.sink) t) (c.as_bytes.ensures.value ∙ c.end_line.ensures)))

pub returns-clause-part : goal.returns-clause-part
returns-clause-part g c =
    on_err c.put-2.result _ _ c.put-2.ensures.part
    (λ (h : AppendsPrefix (g.K.Sink.written c.loop-place.sink) (g.K.Sink.written c.put-2.new.sink) c.as_bytes.result.now). text_last_part c.args.log.now c.args.end c.loop-place.place (g.K.Sink.written c.args.sink.now) (g.K.Sink.written c.loop-place.sink) (g.K.Sink.written c.put-2.new.sink) c.loop-place-test.false c.loop-place.invariant.written
    (subst (λ t. AppendsPrefix (g.K.Sink.written c.loop-place.sink) (g.K.Sink.written c.put-2.new.sink) t) (c.as_bytes.ensures.value ∙ c.end_line.ensures) h))

always : {A E : Type 0} (r : Result A E) (P : Type 0) → P → OnOk r P
always (Ok x) P h = h
always (Err x) P h = tt

pub returns-clause-fits : goal.returns-clause-fits
returns-clause-fits g c =
    let entries = c.args.log.now in
    always c.put-2.result (AreEntries entries) (omega arith, fits_all EntryFits entries c.loop-place.place c.loop-place-test.false c.loop-place.invariant.fits)
