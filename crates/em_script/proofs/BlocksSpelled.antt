-- The lines of the bodies of a graph are spelled so that each is read as it is.
use Rattle.std.proofs.Common.{◌≡◌, ℕ, zero, suc, ◌≤◌, Bool, true, false, ◌&&◌, ◌||◌, List, [], ◌∷◌, ◌++◌, leb-true, refl, sym, subst}
use mathlib.Core.Former.{Count}
use Rattle.std.specs.List.{list_all}
use Rattle.std.specs.Prelude.{nat_le}
use Rattle.em_log.specs.WellFormed.{Where, is_expression, is_statement, are_statements, is_empty_row, is_plain}
use Rattle.em_log.specs.declared.body.Expr.{Expr}
use Rattle.em_log.specs.declared.body.Stmt.{Stmt}
use Rattle.em_log.specs.declared.body.Stmt.TheBlock.{Row_of-Stmt, end_of-Stmt, more_of-Stmt, items-the_row-Stmt}
use Rattle.em_log.specs.declared.graph.Config.{Config}
use Rattle.em_script.specs.declared.draft.Opened.TheVariants as opened
use Rattle.em_script.specs.declared.line.Line.{Line}
use Rattle.em_script.specs.declared.line.Line.TheVariants as lines
use Rattle.em_script.specs.declared.line.Place.{Place}
use Rattle.em_script.specs.declared.phase.Phase.TheVariants as phases
use Rattle.em_script.specs.Judging.{may_else, where_of}
use Rattle.em_script.specs.Names.{Table}
use Rattle.em_script.specs.Spelling.{statement_lines, row_lines, block_lines, else_lines}
use Rattle.em_script.specs.State.{State, after_all, opened_by}
use Rattle.em_script.proofs.Ascii.{both}
use Rattle.em_script.proofs.BlocksRead.{extended, in_else, in_if, row_read, statement_read}
use Rattle.em_script.proofs.Fitting.{KnowsAll, expression-fits, is_block, plain-fits}
use Rattle.em_script.proofs.LineSpelled.{AreSpelled-append, body-spelled, both_ways}
use Rattle.em_script.proofs.NameForms.{IsNaming}
use Rattle.em_script.proofs.Saying.{AreSpelled, IsSpelled}
use Rattle.em_script.proofs.StatementForms.{BodyLineFits}

-- all that a graph declares has its name
pub record AreAllNamed (g : Config) (t : Table) : Type 0 where
  pub is : IsNaming (both_ways g t)
  pub all : KnowsAll (both_ways g t) g

pub line_spelled : (g : Config) (t : Table) (k : AreAllNamed g t) (p : Place) (line : Line) (s : State) → s.phase ≡ phases.Body p → s.table ≡ t → BodyLineFits (both_ways g t) (may_else s.nest) line → IsSpelled g s line
line_spelled g t k p line s at same fits =
    let back : t ≡ s.table = sym same in
    body-spelled g s p line (subst (λ t. IsNaming (both_ways g t)) back k.is) at (subst (λ t. BodyLineFits (both_ways g t) (may_else s.nest) line) back fits)

-- the lines of a block, in each state in this place with these names
abbrev pub AreSpelledAt : Config → Table → Place → List Line → Type 0
AreSpelledAt g t p ls = (s : State) → s.phase ≡ phases.Body p → s.table ≡ t → AreSpelled g ls s

abbrev items : {n : Count} → Row_of-Stmt n → List Stmt
items {n = n} row = items-the_row-Stmt n row

abbrev IsRead : List Line → List Stmt → Type 0
IsRead ls b = (r : State) → after_all ls r ≡ extended b r

-- lines, and then the end of their block
ended_spelled : (g : Config) (t : Table) (k : AreAllNamed g t) (p : Place) (ls : List Line) (b : List Stmt) (s : State) → IsRead ls b → AreSpelledAt g t p ls → s.phase ≡ phases.Body p → s.table ≡ t → AreSpelled g (ls ++ lines.End ∷ []) s
ended_spelled g t k p ls b s read spelled at same =
    let last : AreSpelled g (lines.End ∷ []) (extended b s) = (line_spelled g t k p lines.End (extended b s) at same tt, tt) in
    AreSpelled-append g ls (lines.End ∷ []) s (spelled s at same) (subst (AreSpelled g (lines.End ∷ [])) (sym (read s)) last)

else_spelled : (g : Config) (t : Table) (k : AreAllNamed g t) (p : Place) (e : Expr) (has_else : Bool) (second : List Line) (a b : List Stmt) (s : State) → IsRead second b → AreSpelledAt g t p second → s.phase ≡ phases.Body p → s.table ≡ t → AreSpelled g (else_lines has_else second ++ lines.End ∷ []) (extended a (in_if e s))
else_spelled g t k p e true second a b s read spelled at same =
    (line_spelled g t k p lines.Else (extended a (in_if e s)) at same refl, ended_spelled g t k p second b (in_else e a s) read spelled at same)
else_spelled g t k p e false second a b s read spelled at same = (line_spelled g t k p lines.End (extended a (in_if e s)) at same tt, tt)

if_spelled : (g : Config) (t : Table) (k : AreAllNamed g t) (p : Place) (e : Expr) (has_else : Bool) (first second : List Line) (a b : List Stmt) (s : State) → is_expression e ≡ true → IsRead first a → IsRead second b → AreSpelledAt g t p first → AreSpelledAt g t p second → s.phase ≡ phases.Body p → s.table ≡ t → AreSpelled g (lines.If e ∷ (first ++ (else_lines has_else second ++ lines.End ∷ []))) s
if_spelled g t k p e has_else first second a b s good read read_too spelled spelled_too at same =
    let rest = else_lines has_else second ++ lines.End ∷ [] in
    (line_spelled g t k p (lines.If e) s at same (expression-fits e good, tt), AreSpelled-append g first rest (in_if e s) (spelled (in_if e s) at same) (subst (AreSpelled g rest) (sym (read (in_if e s))) (else_spelled g t k p e has_else second a b s read_too spelled_too at same)))

repeat_spelled : (g : Config) (t : Table) (k : AreAllNamed g t) (p : Place) (n : ℕ) (block : List Line) (b : List Stmt) (s : State) → (1 ≤ n) × (n ≤ 256) → IsRead block b → AreSpelledAt g t p block → s.phase ≡ phases.Body p → s.table ≡ t → AreSpelled g (lines.Repeat n ∷ (block ++ lines.End ∷ [])) s
repeat_spelled g t k p n block b s good read spelled at same =
    (line_spelled g t k p (lines.Repeat n) s at same (good, tt), ended_spelled g t k p block b (opened_by (opened.Repeat n) s) read spelled at same)

then_spelled : (g : Config) (t : Table) (x : Stmt) (ls : List Line) (s : State) (p : Place) → after_all (statement_lines x) s ≡ extended (x ∷ []) s → AreSpelled g (statement_lines x) s → AreSpelledAt g t p ls → s.phase ≡ phases.Body p → s.table ≡ t → AreSpelled g (statement_lines x ++ ls) s
then_spelled g t x ls s p read spelled more at same = AreSpelled-append g (statement_lines x) ls s spelled (subst (AreSpelled g ls) (sym read) (more (extended (x ∷ []) s) at same))

-- the parts of an if are well formed
if_parts : {m n : Count} (g : Config) (w : Where) (d : ℕ) (e : Expr) (first : Row_of-Stmt m) (second : Row_of-Stmt n) (has_else : Bool) → (is_expression e && are_statements g w d first && are_statements g w d second && (has_else || is_empty_row second)) ≡ true → (is_expression e ≡ true) × (are_statements g w d first ≡ true) × (are_statements g w d second ≡ true)
if_parts g w d e first second has_else well =
    let last = both (is_expression e && are_statements g w d first && are_statements g w d second) (has_else || is_empty_row second) well in
    let blocks = both (is_expression e && are_statements g w d first) (are_statements g w d second) last.0 in
    let front = both (is_expression e) (are_statements g w d first) blocks.0 in
    (front.0, front.1, blocks.1)

repeat_parts : {n : Count} (g : Config) (w : Where) (d k : ℕ) (block : Row_of-Stmt n) → (nat_le 1 k && nat_le k 256 && are_statements g w d block) ≡ true → ((1 ≤ k) × (k ≤ 256)) × (are_statements g w d block ≡ true)
repeat_parts g w d k block well =
    let last = both (nat_le 1 k && nat_le k 256) (are_statements g w d block) well in
    let range = both (nat_le 1 k) (nat_le k 256) last.0 in
    ((leb-true 1 k range.0, leb-true k 256 range.1), last.1)

plain_spelled : (g : Config) (t : Table) (k : AreAllNamed g t) (p : Place) (x : Stmt) (s : State) → is_block x ≡ false → is_plain g (where_of p) x ≡ true → s.phase ≡ phases.Body p → s.table ≡ t → IsSpelled g s (lines.Statement x)
plain_spelled g t k p x s none well at same = line_spelled g t k p (lines.Statement x) s at same (plain-fits (both_ways g t) g k.all (where_of p) x none well)

mutual
  pub statement_spelled : (g : Config) (t : Table) (k : AreAllNamed g t) (p : Place) (d : ℕ) (x : Stmt) → is_statement g (where_of p) d x ≡ true → AreSpelledAt g t p (statement_lines x)
  statement_spelled g t k p zero (Stmt.If' e h first j second has_else) well s at same = absurd cc
  statement_spelled g t k p (suc d) (Stmt.If' e h first j second has_else) well s at same =
      let b = if_parts g (where_of p) d e first second has_else well in
      if_spelled g t k p e has_else (row_lines first) (row_lines second) (items first) (items second) s b.0 (row_read g (where_of p) d first b.1) (row_read g (where_of p) d second b.2) (row_spelled g t k p d first b.1) (row_spelled g t k p d second b.2) at same
  statement_spelled g t k p zero (Stmt.Repeat' n h block) well s at same = absurd cc
  statement_spelled g t k p (suc d) (Stmt.Repeat' n h block) well s at same =
      let b = repeat_parts g (where_of p) d n block well in
      repeat_spelled g t k p n (row_lines block) (items block) s b.0 (row_read g (where_of p) d block b.1) (row_spelled g t k p d block b.1) at same
  statement_spelled g t k p d _ well s at same = (plain_spelled g t k p _ s refl well at same, tt)

  row_spelled : {n : Count} (g : Config) (t : Table) (k : AreAllNamed g t) (p : Place) (d : ℕ) (row : Row_of-Stmt n) → are_statements g (where_of p) d row ≡ true → AreSpelledAt g t p (row_lines row)
  row_spelled g t k p d end_of-Stmt well s at same = tt
  row_spelled g t k p d (more_of-Stmt x xs) well s at same =
      let each = both (is_statement g (where_of p) d x) (are_statements g (where_of p) d xs) well in
      then_spelled g t x (row_lines xs) s p (statement_read g (where_of p) d x each.0 s) (statement_spelled g t k p d x each.0 s at same) (row_spelled g t k p d xs each.1) at same

pub block_spelled : (g : Config) (t : Table) (k : AreAllNamed g t) (p : Place) (d : ℕ) (block : List Stmt) → list_all (is_statement g (where_of p) d) block ≡ true → AreSpelledAt g t p (block_lines block)
block_spelled g t k p d [] well s at same = tt
block_spelled g t k p d (x ∷ xs) well s at same =
    let each = both (is_statement g (where_of p) d x) (list_all (is_statement g (where_of p) d) xs) well in
    then_spelled g t x (block_lines xs) s p (statement_read g (where_of p) d x each.0 s) (statement_spelled g t k p d x each.0 s at same) (block_spelled g t k p d xs each.1) at same
