use Rattle.std.proofs.Common.{ℕ, List, Err, refl, sym, ap, subst, arith}
use Rattle.std.proofs.lemmas.Result.{IfOk-weaker}
use Rattle.em_io.specs.Source.{Takes}
use Rattle.em_tool.specs.declared.commands.Command.TheVariants as commands
use Rattle.em_tool.specs.Outcome.{ReadFailed, TooLong}
use Rattle.em_tool.proofs.Answering.{due-of}
use Rattle.em_main.specs.Words.{in_turns}
use Rattle.em_main.proofs.InTurns.{is-in-turns}
use Rattle.em_main.proofs.calls.outcome.Goals as goal

pub returns-in-Ok : goal.returns-in-Ok
returns-in-Ok g c =
    let known = is-in-turns c.requires.known.0 c.args.limits c.requires.known.1 in
    let left = g.S.Source.left in
    let given = g.S.Source.given in
    IfOk-weaker c.outcome_of.result _ _ (λ o of. due-of _ _ (commands.Solo (in_turns c.args.limits)) c.as_slice.result.now o known
    (record {
      takes = subst (λ (bs : List ℕ). Takes (left c.args.source.now) (left c.read_all.new.source) (given c.args.source.now) (given c.read_all.new.source) bs)
          (sym c.as_slice.ensures.value) c.in-Ok.ensures.bytes;
      at_end = c.in-Ok.ensures.end;
      within = omega (arith, c.as_slice.ensures.len, c.in-Ok.ensures.within);
      faults = c.in-Ok.ensures.sound (λ h. cc);
    }) of) c.outcome_of.ensures

pub returns-in-Err-Failed : goal.returns-in-Err-Failed
returns-in-Err-Failed g c =
    let known = is-in-turns c.requires.known.0 c.args.limits c.requires.known.1 in
    ReadFailed (commands.Solo (in_turns c.args.limits)) known (c.in-Err-Failed.ensures.failed (ap (λ x. Err x) c.in-Err-Failed.field-0-is)) refl refl

pub returns-in-Err-TooLong : goal.returns-in-Err-TooLong
returns-in-Err-TooLong g c =
    let known = is-in-turns c.requires.known.0 c.args.limits c.requires.known.1 in
    TooLong (commands.Solo (in_turns c.args.limits)) known
    (record {
      given = c.in-Err-TooLong.ensures.too_long (ap (λ x. Err x) c.in-Err-TooLong.field-0-is);
      left = c.in-Err-TooLong.ensures.too_long_left (ap (λ x. Err x) c.in-Err-TooLong.field-0-is);
      faults = c.in-Err-TooLong.ensures.sound (λ h. cc);
    }) refl refl
