-- A line that fits its place is spelled in tokens that are read as this line.
use Rattle.std.proofs.Common.{◌≡◌, ℕ, ◌-◌, ◌^◌, ◌<◌, Bool, true, false, List, [], ◌∷◌, ◌++◌, Some, refl, ap, subst, ◌∙◌, arith}
use Rattle.std.specs.FinMap as map
use Rattle.std.specs.List.{AllByRecursion}
use Rattle.em_log.specs.declared.body.Stmt.{Stmt}
use Rattle.em_log.specs.declared.graph.Config.{Config}
use Rattle.em_script.specs.declared.line.Line.{Line}
use Rattle.em_script.specs.declared.line.Line.TheVariants as lines
use Rattle.em_script.specs.declared.line.Place.{Place}
use Rattle.em_script.specs.declared.line.Place.TheVariants as places
use Rattle.em_script.specs.declared.phase.Phase.TheVariants as phases
use Rattle.em_script.specs.Judging.{is_skipped, may_else, read_by_phase}
use Rattle.em_script.specs.Lines.{Rest}
use Rattle.em_script.specs.Names.{Naming, Table, name_in, no_meaning, no_name, reading, writing}
use Rattle.em_script.specs.Declarations.{may_stand, read_top_line}
use Rattle.em_script.specs.Spelling.{line_tokens}
use Rattle.em_script.specs.State.{State, after, after_all}
use Rattle.em_script.specs.Statements.{statement_tokens}
use Rattle.em_script.proofs.BothWays.{body_line-same, line-same, top_line-same}
use Rattle.em_script.proofs.DeclarationForms.{TopFits, first_word, top_line-again, top_line-plain}
use Rattle.em_script.proofs.Forms as forms
use Rattle.em_script.proofs.Forms.{IsPlain, well_rest}
use Rattle.em_script.proofs.NameForms.{IsNaming}
use Rattle.em_script.proofs.Saying.{AreSpelled, IsSpelled}
use Rattle.em_script.proofs.StatementForms.{BodyLineFits, StmtFits, body_line-again, body_line-plain}
use Rattle.em_script.proofs.TextsRead.{IsToken, IsVisible}

-- ---- tokens

visible-of : (bs : List ℕ) → AllByRecursion forms.IsVisible bs → AllByRecursion IsVisible bs
visible-of [] v = tt
visible-of (b ∷ bs) v = ((v.0.0, omega (arith, v.0.1)), visible-of bs v.1)

token-of : (t : List ℕ) → IsPlain t → IsToken t
token-of [] p = absurd (omega (arith, p.0))
token-of (b ∷ bs) p = visible-of (b ∷ bs) p.1

tokens-of : (ts : List (List ℕ)) → AllByRecursion IsPlain ts → AllByRecursion IsToken ts
tokens-of [] p = tt
tokens-of (t ∷ ts) p = (token-of t p.0, tokens-of ts p.1)

-- ---- no line begins as a comment

statement-some : (names : Naming) (x : Stmt) → StmtFits names x → is_skipped (statement_tokens names x) ≡ false
statement-some names (Stmt.Set v e) fits = refl
statement-some names (Stmt.CellWrite c e) fits = refl
statement-some names (Stmt.Say e) fits = refl
statement-some names (Stmt.Alloc v p e es) fits = refl
statement-some names (Stmt.Free e) fits = refl
statement-some names (Stmt.Keep e) fits = refl
statement-some names (Stmt.Send e q) fits = refl
statement-some names (Stmt.SendG e q n) fits = refl
statement-some names (Stmt.Claim v) fits = refl
statement-some names (Stmt.Dequeue v q) fits = refl
statement-some names (Stmt.Enable q) fits = refl
statement-some names (Stmt.Disable q) fits = refl
statement-some names Stmt.EndAtomic fits = refl
statement-some names Stmt.EndOrdered fits = refl
statement-some names Stmt.EndGroup fits = refl
statement-some names (Stmt.Apply n e ns) fits = refl
statement-some names (Stmt.Increment e) fits = refl
statement-some names (Stmt.Abort n) fits = refl
statement-some names (Stmt.Start x ns) fits = refl
statement-some names (Stmt.Stop x ns) fits = refl
statement-some names (Stmt.Modify n e ns) fits = refl
statement-some names Stmt.Fail fits = refl
statement-some names (Stmt.If' e _ a _ b h) fits = absurd fits
statement-some names (Stmt.Repeat' n _ b) fits = absurd fits

body-some : (names : Naming) (m : Bool) (line : Line) → BodyLineFits names m line → is_skipped (line_tokens names line) ≡ false
body-some names m (lines.Statement x) fits = statement-some names x fits
body-some names m (lines.If e) fits = refl
body-some names m (lines.Repeat n) fits = refl
body-some names m lines.End fits = refl
body-some names m lines.Else fits = refl
body-some names m (lines.Cores n) fits = absurd fits
body-some names m (lines.Pool d) fits = absurd fits
body-some names m (lines.Group n k) fits = absurd fits
body-some names m (lines.Eo n r) fits = absurd fits
body-some names m (lines.Agroup d) fits = absurd fits
body-some names m (lines.Queue d) fits = absurd fits
body-some names m (lines.Egroup n) fits = absurd fits
body-some names m (lines.Body p) fits = absurd fits
body-some names m lines.Done fits = absurd fits

top-some : (names : Naming) (cores : ℕ) (line : Line) → TopFits names cores line → is_skipped (line_tokens names line) ≡ false
top-some names cores (lines.Cores n) fits = refl
top-some names cores (lines.Pool d) fits = refl
top-some names cores (lines.Group n k) fits = refl
top-some names cores (lines.Eo n r) fits = refl
top-some names cores (lines.Agroup d) fits = refl
top-some names cores (lines.Queue d) fits = refl
top-some names cores (lines.Egroup n) fits = refl
top-some names cores (lines.Body places.Boot) fits = refl
top-some names cores (lines.Body places.Error) fits = refl
top-some names cores (lines.Body (places.Object eo p)) fits = refl
top-some names cores lines.Done fits = refl
top-some names cores (lines.Statement x) fits = absurd fits
top-some names cores (lines.If e) fits = absurd fits
top-some names cores (lines.Repeat n) fits = absurd fits
top-some names cores lines.Else fits = absurd fits
top-some names cores lines.End fits = absurd fits

-- ---- lines

-- the names of a graph, and what they stand for
abbrev pub both_ways : Config → Table → Naming
both_ways g t = record { find = map.get t; name = name_in g }

pub body-spelled : (g : Config) (s : State) (p : Place) (line : Line) → IsNaming (both_ways g s.table) → s.phase ≡ phases.Body p → BodyLineFits (both_ways g s.table) (may_else s.nest) line → IsSpelled g s line
body-spelled g s p line is at fits =
    let same : line_tokens (both_ways g s.table) line ≡ line_tokens (writing g) line = line-same (map.get s.table) no_meaning (name_in g) line in
    let read : read_by_phase s.phase s (well_rest (line_tokens (both_ways g s.table) line)) ≡ Some (line, well_rest []) =
    ap (λ h. read_by_phase h s (well_rest (line_tokens (both_ways g s.table) line))) at
    ∙ body_line-same (map.get s.table) no_name (name_in g) (may_else s.nest) (well_rest (line_tokens (both_ways g s.table) line))
    ∙ body_line-again (both_ways g s.table) is (may_else s.nest) line fits in
    record {
      plain = subst (λ ts. AllByRecursion IsToken ts) same (tokens-of (line_tokens (both_ways g s.table) line) (body_line-plain (both_ways g s.table) is (may_else s.nest) line fits));
      some = subst (λ ts. is_skipped ts ≡ false) same (body-some (both_ways g s.table) (may_else s.nest) line fits);
      read = subst (λ ts. read_by_phase s.phase s (well_rest ts) ≡ Some (line, well_rest [])) same read;
    }

pub top-spelled : (g : Config) (s : State) (line : Line) → IsNaming (both_ways g s.table) → 2 ^ s.graph.cores - 1 < 2 ^ 64 → ((r : Rest) → read_by_phase s.phase s r ≡ read_top_line (reading s.table) s.graph.cores s.phase r) → may_stand s.phase (first_word line) ≡ true → TopFits (both_ways g s.table) s.graph.cores line → IsSpelled g s line
top-spelled g s line is few at may fits =
    let same : line_tokens (both_ways g s.table) line ≡ line_tokens (writing g) line = line-same (map.get s.table) no_meaning (name_in g) line in
    let read : read_by_phase s.phase s (well_rest (line_tokens (both_ways g s.table) line)) ≡ Some (line, well_rest []) =
    at (well_rest (line_tokens (both_ways g s.table) line))
    ∙ top_line-same (map.get s.table) no_name (name_in g) s.graph.cores s.phase (well_rest (line_tokens (both_ways g s.table) line))
    ∙ top_line-again (both_ways g s.table) is s.graph.cores few s.phase line fits may in
    record {
      plain = subst (λ ts. AllByRecursion IsToken ts) same (tokens-of (line_tokens (both_ways g s.table) line) (top_line-plain (both_ways g s.table) is s.graph.cores few line fits));
      some = subst (λ ts. is_skipped ts ≡ false) same (top-some (both_ways g s.table) s.graph.cores line fits);
      read = subst (λ ts. read_by_phase s.phase s (well_rest ts) ≡ Some (line, well_rest [])) same read;
    }

pub AreSpelled-append : (g : Config) (xs ys : List Line) (s : State) → AreSpelled g xs s → AreSpelled g ys (after_all xs s) → AreSpelled g (xs ++ ys) s
AreSpelled-append g [] ys s a b = b
AreSpelled-append g (x ∷ xs) ys s a b = (a.0, AreSpelled-append g xs ys (after x s) a.1 b)
