use Rattle.std.proofs.Common.{◌≡◌, ◌≤◌, ◌+◌, ◌∷◌, [], length, Result, Ok, Err, true, false, ℕ, List, eqb, refl, ap, sym, subst, ◌∙◌, arith, eqb-true}
use Rattle.std.specs.Prelude.{OnOk, is_err}
use Rattle.em_script.specs.Lines.{lines}
use Rattle.em_script.specs.State.{State, state_of, after}
use Rattle.em_script.specs.Reading.{Gives, found_from, script_of}
use Rattle.em_script.proofs.Judgments.{rule-says}
use Rattle.em_script.proofs.CoresRead.{says-cores}
use Rattle.em_script.proofs.Finding.{found-refused, found-skipped, found-says, lines-none}
use Rattle.em_script.proofs.reading.read_lines.Goals as goal
use Rattle.em_script.proofs.reading.read_lines.Goals.{in-Skipped, in-Says+else-is_err}

ok-then : {A E : Type 0} (r : Result A E) (P : Type 0) → OnOk r P → is_err r ≡ false → P
ok-then (Ok x) P h e = h
ok-then (Err x) P h e = absurd cc

empty-of : (xs : List ℕ) → eqb (length xs) 0 ≡ true → xs ≡ []
empty-of [] e = refl
empty-of (x ∷ xs) e = absurd (let z = eqb-true (length (x ∷ xs)) 0 e in omega arith)

pub take-requires : goal.take-requires
take-requires c = rule-says (state_of c.lines.draft) c.first_line.result.0.now c.in-Says.line (sym c.in-Ok-judge.ensures ∙ c.in-Says.is)

pub returns-in-Refused : goal.returns-in-Refused
returns-in-Refused c =
    let s = state_of c.lines.draft in
    let line = c.first_line.result.0.now in
    let more = lines c.first_line.result.1.now in
    let e = found-refused c.lines.number s line more c.in-Refused.rule (sym c.in-Ok-judge.ensures ∙ c.in-Refused.is) in
    let total : script_of c.args.bytes.now ≡ Err (c.lines.number, c.in-Refused.rule) = sym c.lines.invariant.so_far ∙ ap (found_from c.lines.number s) c.first_line.ensures.line ∙ e in
    rw (c.refused.ensures) total

pub lines-preserved : goal.lines-preserved
lines-preserved c =
    let n = c.lines.number in
    let s = state_of c.lines.draft in
    let line = c.first_line.result.0.now in
    let more = lines c.first_line.result.1.now in
    let total : found_from n s (line ∷ more) ≡ script_of c.args.bytes.now = sym (ap (found_from n s) c.first_line.ensures.line) ∙ c.lines.invariant.so_far in
    let shorter = c.first_line.ensures.shorter in
    let within : n + 1 + length c.first_line.result.1.now ≤ length c.args.bytes.now + 1 = omega (arith, c.lines.invariant.within, shorter) in
    elim c.match-judged.branch [
      | in-Skipped w ↦
          let skipped = sym c.in-Ok-judge.ensures ∙ w.in-Skipped.is in
          record {
            so_far = ap (λ d. found_from (n + 1) (state_of d) more) w.draft-is ∙ sym (found-skipped n s line more skipped) ∙ total;
            cores = rw w.draft-is c.lines.invariant.cores;
            within = within;
          }
      | in-Says+else-is_err w ↦
          let says = sym c.in-Ok-judge.ensures ∙ w.in-Says.is in
          let taken = ok-then w.take.result _ w.take.ensures (sym w.is_err.ensures.value ∙ w.if-is_err.false) in
          let next : state_of c.match-judged.draft ≡ after w.in-Says.line s = ap state_of w.draft-is ∙ taken in
          record {
            so_far = ap (λ t. found_from (n + 1) t more) next ∙ sym (found-says n s line more w.in-Says.line says) ∙ total;
            cores = subst (λ (t : State). t.graph.cores ≤ 8) (sym next) (says-cores s line w.in-Says.line says c.lines.invariant.cores);
            within = within;
          }
    ]

pub returns : goal.returns
returns c =
    let s = state_of c.lines.draft in
    let none : c.lines.rest.now ≡ [] = empty-of c.lines.rest.now (sym c.is_empty.ensures ∙ c.lines-test.false) in
    let total : found_from c.lines.number s [] ≡ script_of c.args.bytes.now = ap (found_from c.lines.number s) (sym (ap lines none ∙ lines-none)) ∙ c.lines.invariant.so_far in
    subst (λ f. Gives c.ended.result f) total c.ended.ensures
