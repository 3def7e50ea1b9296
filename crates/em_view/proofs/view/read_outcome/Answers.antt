use Rattle.std.proofs.Common.{ℕ, List, Err, refl, sym, ap, subst, arith}
use Rattle.std.proofs.lemmas.Result.{IfOk-weaker}
use Rattle.em_io.specs.Source.{Takes}
use Rattle.em_view.specs.Outcome.{ReadFailed, TooLong}
use Rattle.em_view.proofs.Answering.{due-of}
use Rattle.em_view.proofs.view.read_outcome.Goals as goal

pub returns-in-Ok : goal.returns-in-Ok
returns-in-Ok g c =
    let left = g.S.Source.left in
    let given = g.S.Source.given in
    IfOk-weaker c.outcome_of.result _ _ (λ o of. due-of _ c.as_slice.result.now o
    (record {
      takes = subst (λ (bs : List ℕ). Takes (left c.args.source.now) (left c.read_all.new.source) (given c.args.source.now) (given c.read_all.new.source) bs)
          (sym c.as_slice.ensures.value) c.in-Ok.ensures.bytes;
      at_end = c.in-Ok.ensures.end;
      within = omega (arith, c.as_slice.ensures.len, c.in-Ok.ensures.within);
      faults = c.in-Ok.ensures.sound (λ h. cc);
    }) of) c.outcome_of.ensures

pub returns-in-Err-Failed : goal.returns-in-Err-Failed
returns-in-Err-Failed g c =
    ReadFailed refl (c.in-Err-Failed.ensures.failed (ap (λ x. Err x) c.in-Err-Failed.field-0-is)) refl refl

pub returns-in-Err-TooLong : goal.returns-in-Err-TooLong
returns-in-Err-TooLong g c =
    TooLong refl
    (record {
      given = c.in-Err-TooLong.ensures.too_long (ap (λ x. Err x) c.in-Err-TooLong.field-0-is);
      left = c.in-Err-TooLong.ensures.too_long_left (ap (λ x. Err x) c.in-Err-TooLong.field-0-is);
      faults = c.in-Err-TooLong.ensures.sound (λ h. cc);
    }) refl refl
