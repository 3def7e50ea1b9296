use Rattle.std.specs.Prelude.{OnOk, is_err}
use Rattle.std.proofs.Common.{Result, false, ◌≡◌, ◌+◌, ◌∷◌, [], cond, eqb, length, Ok, Err, refl, sym, ap, ◌∙◌, arith}
use Rattle.em_trace.specs.declared.judging.Line.TheVariants as lines
use Rattle.em_trace.specs.Line.{pieces}
use Rattle.em_trace.specs.Reading.{judge, found_from}
use Rattle.em_trace.proofs.Lines.{lines_begin, lines_end, lines_refused, lines_over, lines_entry}
use Rattle.em_trace.proofs.history.read_lines.Goals as goal
use Rattle.em_trace.proofs.history.read_lines.Goals.{then-is_empty, else-is_empty}

on_ok : {A E : Type 0} (r : Result A E) (P : Type 0) → OnOk r P → is_err r ≡ false → P
on_ok (Ok x) P h e = h
on_ok (Err x) P h e = absurd cc

pub lines-init : goal.lines-init
lines-init c = record { so_far = rw c.new-entries.ensures (lines_begin 2 0 (pieces 10 c.args.bytes.now)); within = omega arith; placed = omega arith }

pub returns-in_default : goal.returns-in_default
returns-in_default c =
    let line = c.split.result.0.now in
    let last : pieces 10 c.lines.rest.now ≡ line ∷ [] = rw c.in_default.is at c.split.ensures.pieces in
    let total = lines_end c.lines.entries c.lines.number c.lines.place c.lines.rest.now line (found_from 2 0 (pieces 10 c.args.bytes.now)) c.lines.invariant.so_far last in
    let rule : c.if-is_empty.refused ≡ cond (eqb (length line) 0) 5 2 =
    elim c.if-is_empty.branch [
      | then-is_empty w ↦ w.refused-is ∙ sym (rw (sym c.is_empty.ensures ∙ w.if-is_empty.true) refl)
      | else-is_empty w ↦ w.refused-is ∙ sym (rw (sym c.is_empty.ensures ∙ w.if-is_empty.false) refl)
    ] in
    rw (c.refused.ensures, rule) total

pub returns-in-Err : goal.returns-in-Err
returns-in-Err c =
    let line = c.split.result.0.now in
    let more : pieces 10 c.lines.rest.now ≡ line ∷ pieces 10 c.in-Some.after.now = rw c.in-Some.is at c.split.ensures.pieces in
    let judged : judge c.lines.place line ≡ Err c.in-Err.rule = sym c.judge.ensures ∙ c.in-Err.is in
    rw c.refused-in-Err.ensures (lines_refused c.lines.entries c.lines.number c.lines.place c.lines.rest.now line (found_from 2 0 (pieces 10 c.args.bytes.now)) c.lines.invariant.so_far c.in-Some.after.now c.in-Err.rule more judged)

pub returns-in-Ok-End : goal.returns-in-Ok-End
returns-in-Ok-End c =
    let line = c.split.result.0.now in
    let more : pieces 10 c.lines.rest.now ≡ line ∷ pieces 10 c.in-Some.after.now = rw c.in-Some.is at c.split.ensures.pieces in
    let judged : judge c.lines.place line ≡ Ok (lines.End c.in-Ok-End.end) = sym c.judge.ensures ∙ c.in-Ok-End.is ∙ ap (λ l. Ok l) c.in-Ok-End.field-0-is in
    let total = lines_over c.lines.entries c.lines.number c.lines.place c.lines.rest.now line (found_from 2 0 (pieces 10 c.args.bytes.now)) c.lines.invariant.so_far c.in-Some.after.now c.in-Ok-End.end more judged in
    rw total (rw c.fault_after-fault.ensures at c.ended.ensures)

pub lines-preserved : goal.lines-preserved
lines-preserved c =
    let line = c.split.result.0.now in
    let more : pieces 10 c.lines.rest.now ≡ line ∷ pieces 10 c.in-Some.after.now = rw c.in-Some.is at c.split.ensures.pieces in
    let judged : judge c.lines.place line ≡ Ok (lines.Entry c.in-Ok-Entry.entry) = sym c.judge.ensures ∙ c.in-Ok-Entry.is ∙ ap (λ l. Ok l) c.in-Ok-Entry.field-0-is in
    let next = lines_entry c.lines.entries c.lines.number c.lines.place c.lines.rest.now line (found_from 2 0 (pieces 10 c.args.bytes.now)) c.lines.invariant.so_far c.in-Some.after.now c.in-Ok-Entry.entry more judged in
    let pushed = on_ok c.push.result _ c.push.ensures.ok (sym c.is_err.ensures.value ∙ c.if-is_err.false) in
    let shorter : length c.lines.rest.now ≡ length line + 1 + length c.in-Some.after.now = rw c.in-Some.is at c.split.ensures.shorter in
    record { so_far = rw pushed next; within = omega (arith, c.lines.invariant.within); placed = omega arith }
