-- What is known of a line that says something.
use Rattle.std.proofs.Common.{◌≡◌, ℕ, ◌≤◌, Bool, true, false, cond, eqb, List, Option, Some, None, min, refl, sym, ap, ◌∙◌, arith, eqb-true}
use Rattle.em_script.specs.declared.line.Line.{Line}
use Rattle.em_script.specs.declared.line.Line.TheVariants as lines
use Rattle.em_script.specs.declared.judging.Judged.{Judged}
use Rattle.em_script.specs.declared.judging.Judged.TheVariants as judgments
use Rattle.em_script.specs.Lines.{Rest, is_plain_line, tokens}
use Rattle.em_script.specs.State.{State}
use Rattle.em_script.specs.Judging.{unless, rule_of, told, resolved, is_skipped, judge, judge_tokens, read_by_phase}

-- a line as it is before anything of it is read
abbrev pub whole : List (List ℕ) → Rest
whole ts = record { tokens = ts; rule = 12 }

-- what a line says is read in its form, and no rule refuses it
pub record Said (s : State) (bytes : List ℕ) (line : Line) : Type 0 where
  pub plain : is_plain_line bytes ≡ true
  pub shown : is_skipped (tokens bytes) ≡ false
  pub rest : Rest
  pub read : read_by_phase s.phase s (whole (tokens bytes)) ≡ Some (line, rest)
  pub rule : min rest.rule (rule_of s line) ≡ 12

is-said : (x y : Line) → ◌≡◌ {A = Judged} (judgments.Says x) (judgments.Says y) → x ≡ y
is-said x y e = cc

told-at : (t : Bool) (line said : Line) (rule : ℕ) → cond t (judgments.Says line) (judgments.Refused rule) ≡ judgments.Says said → (t ≡ true) × (line ≡ said)
told-at true line said rule e = (refl, cc)
told-at false line said rule e = absurd cc

told-says : (line said : Line) (rule : ℕ) → told line rule ≡ judgments.Says said → (rule ≡ 12) × (line ≡ said)
told-says line said rule e = let t = told-at (eqb rule 12) line said rule e in (eqb-true rule 12 t.0, t.1)

resolved-says : (s : State) (r : Option (Line × Rest)) (line : Line) → resolved s r ≡ judgments.Says line → (rest : Rest) × (r ≡ Some (line, rest)) × (min rest.rule (rule_of s line) ≡ 12)
resolved-says s None line e = absurd cc
resolved-says s (Some x) line e =
    let t = told-says x.0 line (min x.1.rule (rule_of s x.0)) e in
    (x.1, ap (λ l. Some (l, x.1)) t.1, ap (λ l. min x.1.rule (rule_of s l)) (sym t.1) ∙ t.0)

tokens-says : (t : Bool) (s : State) (r : Option (Line × Rest)) (line : Line) → cond t judgments.Skipped (resolved s r) ≡ judgments.Says line → (t ≡ false) × (resolved s r ≡ judgments.Says line)
tokens-says true s r line e = absurd cc
tokens-says false s r line e = (refl, e)

plain-says : (t : Bool) (j : Judged) (line : Line) → cond t j (judgments.Refused 1) ≡ judgments.Says line → (t ≡ true) × (j ≡ judgments.Says line)
plain-says true j line e = (refl, e)
plain-says false j line e = absurd cc

pub judge-says : (s : State) (bytes : List ℕ) (line : Line) → judge s bytes ≡ judgments.Says line → Said s bytes line
unfolding judge
judge-says s bytes line e =
    let p = plain-says (is_plain_line bytes) (judge_tokens s (tokens bytes)) line e in
    let t = tokens-says (is_skipped (tokens bytes)) s (read_by_phase s.phase s (whole (tokens bytes))) line p.1 in
    let r = resolved-says s (read_by_phase s.phase s (whole (tokens bytes))) line t.1 in
    record { plain = p.0; shown = t.0; rest = r.0; read = r.1; rule = r.2 }

unless-most : (b : Bool) (rule : ℕ) → rule ≤ 12 → unless b rule ≤ 12
unless-most true rule h = omega arith
unless-most false rule h = h

done-most : (b l : Bool) → cond b (unless l 9) 11 ≤ 12
done-most true l = unless-most l 9 (omega arith)
done-most false l = omega arith

rule_of-most : (s : State) (line : Line) → rule_of s line ≤ 12
rule_of-most s (lines.Cores n) = omega arith
rule_of-most s (lines.Pool d) = unless-most _ 10 (omega arith)
rule_of-most s (lines.Group name mask) = unless-most _ 10 (omega arith)
rule_of-most s (lines.Eo name running) = unless-most _ 10 (omega arith)
rule_of-most s (lines.Agroup d) = unless-most _ 10 (omega arith)
rule_of-most s (lines.Queue d) = unless-most _ 10 (omega arith)
rule_of-most s (lines.Egroup name) = unless-most _ 10 (omega arith)
rule_of-most s (lines.Body p) = unless-most _ 8 (omega arith)
rule_of-most s lines.Done = done-most _ _
rule_of-most s (lines.Statement x) = unless-most _ 7 (omega arith)
rule_of-most s (lines.If e) = unless-most _ 10 (omega arith)
rule_of-most s (lines.Repeat n) = unless-most _ 10 (omega arith)
rule_of-most s lines.Else = omega arith
rule_of-most s lines.End = omega arith

-- no rule that the state decides refuses it
pub said-rule : (s : State) (bytes : List ℕ) (line : Line) → Said s bytes line → rule_of s line ≡ 12
said-rule s bytes line said = let most = rule_of-most s line in omega arith

pub rule-says : (s : State) (bytes : List ℕ) (line : Line) → judge s bytes ≡ judgments.Says line → rule_of s line ≡ 12
rule-says s bytes line e = said-rule s bytes line (judge-says s bytes line e)
