-- When a line says something: it was read, and no rule failed.
use Rattle.std.proofs.Common.{◌≡◌, ℕ, ◌≤◌, Bool, true, false, cond, eqb, min, Option, Some, None, refl, ap, arith, eqb-true}
use Rattle.em_script.specs.declared.line.Line.{Line}
use Rattle.em_script.specs.declared.judging.Judged.TheVariants as judgments
use Rattle.em_script.specs.Lines.{Rest}
use Rattle.em_script.specs.State.{State}
use Rattle.em_script.specs.Judging.{rule_of, told, resolved}

told-by : (x line : Line) (rule : ℕ) (b : Bool) → eqb rule 12 ≡ b → cond b (judgments.Says x) (judgments.Refused rule) ≡ judgments.Says line → (x ≡ line) × (rule ≡ 12)
told-by x line rule true t e = (cc, eqb-true rule 12 t)
told-by x line rule false t e = absurd cc

pub record IsSaid (s : State) (read : Option (Line × Rest)) (line : Line) : Type 0 where
  pub rest : Rest
  pub read-is : read ≡ Some (line, rest)
  pub well : 12 ≤ rest.rule
  pub ruled : 12 ≤ rule_of s line

pub said : (s : State) (read : Option (Line × Rest)) (line : Line) → resolved s read ≡ judgments.Says line → IsSaid s read line
said s None line e = absurd cc
said s (Some x) line e =
    let rule = min x.1.rule (rule_of s x.0) in
    let t = told-by x.0 line rule (eqb rule 12) refl e in
    let low : min x.1.rule (rule_of s x.0) ≡ 12 = t.1 in
    let a : 12 ≤ x.1.rule = omega arith in
    let b : 12 ≤ rule_of s x.0 = omega arith in
    record { rest = x.1; read-is = ap (λ (l : Line). Some (l, x.1)) t.0; well = a; ruled = rw (← t.0) b }

pub says : (s : State) (line : Line) (rest : Rest) → rest.rule ≡ 12 → rule_of s line ≡ 12 → resolved s (Some (line, rest)) ≡ judgments.Says line
says s line rest r q = let low : min rest.rule (rule_of s line) ≡ 12 = omega arith in ap (told line) low
