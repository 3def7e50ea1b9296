-- The lines of a block, read: its statements follow those before them, and the blocks around it stay the same.
use Rattle.std.proofs.Common.{◌≡◌, ℕ, zero, suc, Bool, true, false, ◌&&◌, ◌||◌, List, [], ◌∷◌, ◌++◌, refl, sym, ap, ◌∙◌, append_assoc, append-nil}
use mathlib.Core.Former.{Count}
use Rattle.std.specs.Prelude.{nat_le}
use Rattle.em_log.specs.WellFormed.{Where, is_expression, is_statement, are_statements, is_empty_row}
use Rattle.em_log.specs.declared.body.Expr.{Expr}
use Rattle.em_log.specs.declared.body.Stmt.{Stmt}
use Rattle.em_log.specs.declared.body.Stmt.TheBlock.{Row_of-Stmt, end_of-Stmt, more_of-Stmt, items-the_row-Stmt, items_shown-the_row-Stmt-0}
use Rattle.em_log.specs.declared.body.Stmt.TheVariants as stmt
use Rattle.em_log.specs.declared.body.Stmt.TheVariants.{rolls-If, rolls-Repeat}
use Rattle.em_log.specs.declared.body.Stmt.TheViews.{out-Stmt, roll-Stmt, roll-out-Stmt}
use Rattle.em_log.specs.declared.graph.Config.{Config}
use Rattle.em_script.specs.declared.draft.Opened.TheVariants as opened
use Rattle.em_script.specs.declared.line.Line.{Line}
use Rattle.em_script.specs.declared.line.Line.TheVariants as lines
use Rattle.em_script.specs.Spelling.{statement_lines, row_lines, else_lines}
use Rattle.em_script.specs.State.{State, after, after_all, opened_by}
use Rattle.em_script.proofs.Ascii.{both}

pub after_all-append : (xs ys : List Line) (s : State) → after_all (xs ++ ys) s ≡ after_all ys (after_all xs s)
after_all-append [] ys s = refl
after_all-append (x ∷ xs) ys s = after_all-append xs ys (after x s)

-- the statements of a row
abbrev items : {n : Count} → Row_of-Stmt n → List Stmt
items {n = n} row = items-the_row-Stmt n row

-- a block with statements more
abbrev pub extended : List Stmt → State → State
extended b s = record s { block = s.block ++ b }

whole-If : (e : Expr) (p : _) (first : Row_of-Stmt _) (q : _) (second : Row_of-Stmt _) (has_else : Bool) → stmt.If e (items first) (items second) has_else ≡ Stmt.If' e p first q second has_else
unfolding out-Stmt roll-Stmt denote.Hole.Carrier.roll denote.Hole.Carrier.out
whole-If e p first q second has_else =
    (λ i. stmt.If e (sym (items_shown-the_row-Stmt-0 p first) i) (sym (items_shown-the_row-Stmt-0 q second) i) has_else) ∙ rolls-If e _ _ has_else ∙ roll-out-Stmt (Stmt.If' e p first q second has_else)

whole-Repeat : (n : ℕ) (p : _) (block : Row_of-Stmt _) → stmt.Repeat n (items block) ≡ Stmt.Repeat' n p block
unfolding out-Stmt roll-Stmt denote.Hole.Carrier.roll denote.Hole.Carrier.out
whole-Repeat n p block = (λ i. stmt.Repeat n (sym (items_shown-the_row-Stmt-0 p block) i)) ∙ rolls-Repeat n _ ∙ roll-out-Stmt (Stmt.Repeat' n p block)

empty-items : {n : Count} (row : Row_of-Stmt n) → is_empty_row row ≡ true → items row ≡ []
empty-items end_of-Stmt e = refl
empty-items (more_of-Stmt s ss) e = absurd cc

-- ---- an if, when its blocks have been read

abbrev pub in_if : Expr → State → State
in_if e s = opened_by (opened.If e) s

abbrev pub in_else : Expr → List Stmt → State → State
in_else e first s = opened_by (opened.Else e first) s

abbrev IsRead : List Line → List Stmt → Type 0
IsRead ls b = (s : State) → after_all ls s ≡ extended b s

else_read : (e : Expr) (first second : List Line) (a b : List Stmt) (s : State) → IsRead second b → after_all (lines.Else ∷ (second ++ lines.End ∷ [])) (extended a (in_if e s)) ≡ extended (stmt.If e a b true ∷ []) s
else_read e first second a b s r = after_all-append second (lines.End ∷ []) (in_else e a s) ∙ ap (after_all (lines.End ∷ [])) (r (in_else e a s))

if_read : (e : Expr) (first second : List Line) (a b : List Stmt) (has_else : Bool) (s : State) → IsRead first a → IsRead second b → (has_else ≡ false → b ≡ []) → after_all (lines.If e ∷ (first ++ (else_lines has_else second ++ lines.End ∷ []))) s ≡ extended (stmt.If e a b has_else ∷ []) s
if_read e first second a b true s r q none =
    after_all-append first (lines.Else ∷ (second ++ lines.End ∷ [])) (in_if e s) ∙ ap (after_all (lines.Else ∷ (second ++ lines.End ∷ []))) (r (in_if e s)) ∙ else_read e first second a b s q
if_read e first second a b false s r q none =
    after_all-append first (lines.End ∷ []) (in_if e s) ∙ ap (after_all (lines.End ∷ [])) (r (in_if e s)) ∙ ap (λ c. extended (stmt.If e a c false ∷ []) s) (sym (none refl))

repeat_read : (n : ℕ) (block : List Line) (b : List Stmt) (s : State) → IsRead block b → after_all (lines.Repeat n ∷ (block ++ lines.End ∷ [])) s ≡ extended (stmt.Repeat n b ∷ []) s
repeat_read n block b s r =
    let inner = opened_by (opened.Repeat n) s in
    after_all-append block (lines.End ∷ []) inner ∙ ap (after_all (lines.End ∷ [])) (r inner)

-- ---- each statement

without_else : {n : Count} (has_else : Bool) (second : Row_of-Stmt n) → (has_else || is_empty_row second) ≡ true → has_else ≡ false → items second ≡ []
without_else true second e f = absurd cc
without_else false second e f = empty-items second e

mutual
  pub statement_read : (g : Config) (w : Where) (d : ℕ) (x : Stmt) → is_statement g w d x ≡ true → IsRead (statement_lines x) (x ∷ [])
  statement_read g w zero (Stmt.If' e p first q second has_else) well s = absurd cc
  statement_read g w (suc d) (Stmt.If' e p first q second has_else) well s =
      let last = both (is_expression e && are_statements g w d first && are_statements g w d second) (has_else || is_empty_row second) well in
      let blocks = both (is_expression e && are_statements g w d first) (are_statements g w d second) last.0 in
      let front = both (is_expression e) (are_statements g w d first) blocks.0 in
      if_read e (row_lines first) (row_lines second) (items first) (items second) has_else s (row_read g w d first front.1) (row_read g w d second blocks.1) (without_else has_else second last.1) ∙ ap (λ x. extended (x ∷ []) s) (whole-If e p first q second has_else)
  statement_read g w zero (Stmt.Repeat' n p block) well s = absurd cc
  statement_read g w (suc d) (Stmt.Repeat' n p block) well s =
      let all = both (nat_le 1 n && nat_le n 256) (are_statements g w d block) well in
      repeat_read n (row_lines block) (items block) s (row_read g w d block all.1) ∙ ap (λ x. extended (x ∷ []) s) (whole-Repeat n p block)
  statement_read g w d _ well s = refl

  pub row_read : {n : Count} (g : Config) (w : Where) (d : ℕ) (row : Row_of-Stmt n) → are_statements g w d row ≡ true → IsRead (row_lines row) (items row)
  row_read g w d end_of-Stmt well s = ap (λ b. record s { block = b }) (sym (append-nil s.block))
  row_read g w d (more_of-Stmt x xs) well s =
      let each = both (is_statement g w d x) (are_statements g w d xs) well in
      after_all-append (statement_lines x) (row_lines xs) s ∙ ap (after_all (row_lines xs)) (statement_read g w d x each.0 s) ∙ row_read g w d xs each.1 (extended (x ∷ []) s) ∙ ap (λ b. record s { block = b }) (append_assoc s.block (x ∷ []) (items xs))
