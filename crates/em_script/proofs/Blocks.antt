-- The lines of blocks.
use Rattle.std.proofs.Common.{◌≡◌, ℕ, ◌∷◌, ◌++◌, [], List, Bool, true, false, refl, sym, ap, ◌∙◌, append-nil}
use Rattle.std.specs.List.{flat_map}
use Rattle.std.specs.Prelude.{codes}
use Rattle.em_log.specs.declared.graph.Config.{Config}
use Rattle.em_log.specs.declared.body.Expr.{Expr}
use Rattle.em_log.specs.declared.body.Stmt.{Stmt}
use Rattle.em_log.specs.declared.body.Stmt.TheVariants as stmt
use Rattle.em_log.specs.declared.body.Stmt.TheVariants.{rolls-If, rolls-Repeat}
use Rattle.em_log.specs.declared.body.Stmt.TheViews.{out-Stmt, roll-Stmt, roll-out-Stmt}
use Rattle.em_log.specs.declared.body.Stmt.TheBlock.{hidden-the_row-Stmt-0}
use Rattle.em_script.specs.declared.line.Line.{Line}
use Rattle.em_script.specs.declared.line.Line.TheVariants as lines
use Rattle.em_script.specs.Expressions.{expression}
use Rattle.em_script.specs.Lines.{joined, spelled}
use Rattle.em_script.specs.Spelling.{statement_lines, row_lines, block_lines, else_lines, text_of}
use Rattle.em_script.proofs.Printed.{line_ended, text_of_then}

-- a block as a row and as a list
row_lines-block : (block : List Stmt) → row_lines (hidden-the_row-Stmt-0 block) ≡ block_lines block
unfolding hidden-the_row-Stmt-0 denote.Hole.Carrier.hidden
row_lines-block [] = refl
row_lines-block (s ∷ ss) = ap (λ ls. statement_lines s ++ ls) (row_lines-block ss)

abbrev pub if_lines : Expr → List Stmt → List Stmt → Bool → List Line
if_lines e first second has_else = lines.If e ∷ (block_lines first ++ (else_lines has_else (block_lines second) ++ lines.End ∷ []))

pub statement_lines-If : (e : Expr) (first second : List Stmt) (has_else : Bool) → statement_lines (stmt.If e first second has_else) ≡ if_lines e first second has_else
statement_lines-If e first second has_else = λ i. lines.If e ∷ (row_lines-block first i ++ (else_lines has_else (row_lines-block second i) ++ lines.End ∷ []))

pub statement_lines-Repeat : (n : _) (block : List Stmt) → statement_lines (stmt.Repeat n block) ≡ lines.Repeat n ∷ (block_lines block ++ lines.End ∷ [])
statement_lines-Repeat n block = λ i. lines.Repeat n ∷ (row_lines-block block i ++ lines.End ∷ [])

pub block_lines-each : (block : List Stmt) → block_lines block ≡ flat_map statement_lines block
block_lines-each [] = refl
block_lines-each (s ∷ ss) = ap (λ ls. statement_lines s ++ ls) (block_lines-each ss)

-- ---- as text

pub if_ended : (g : Config) (old first second : List ℕ) (e : Expr) → first ≡ old ++ joined (codes "if" ∷ expression.write e) → second ≡ first ++ 10 ∷ [] → second ≡ old ++ text_of g (lines.If e ∷ [])
if_ended g old first second e a b = line_ended g old first second (lines.If e) (a ∙ ap (λ ts. old ++ joined (codes "if" ∷ ts)) (sym (append-nil (expression.write e)))) b

-- the lines of an else, if there is one
pub else_written : (g : Config) (old first second : List ℕ) (block : List Stmt) → first ≡ old ++ spelled ((codes "else" ∷ []) ∷ []) → second ≡ first ++ text_of g (block_lines block) → second ≡ old ++ text_of g (else_lines true (block_lines block))
else_written g old first second block a b = text_of_then g old first second (lines.Else ∷ []) (block_lines block) a b

pub else_not_written : (g : Config) (old first : List ℕ) (block : List Stmt) → first ≡ old → first ≡ old ++ text_of g (else_lines false (block_lines block))
else_not_written g old first block a = a ∙ sym (append-nil old)

-- ---- statements that are no blocks

pub statement_lines-plain : (s : Stmt) → ((e : Expr) (first second : List Stmt) (has_else : Bool) → s ≡ stmt.If e first second has_else → ⊥) → ((n : ℕ) (block : List Stmt) → s ≡ stmt.Repeat n block → ⊥) → statement_lines s ≡ lines.Statement s ∷ []
unfolding out-Stmt roll-Stmt denote.Hole.Carrier.roll denote.Hole.Carrier.out
statement_lines-plain (Stmt.If' e p first q second has_else) no_if no_repeat =
    let s = Stmt.If' e p first q second has_else in
    absurd (no_if e _ _ has_else (sym (rolls-If e _ _ has_else ∙ roll-out-Stmt s)))
statement_lines-plain (Stmt.Repeat' n p block) no_if no_repeat =
    let s = Stmt.Repeat' n p block in
    absurd (no_repeat n _ (sym (rolls-Repeat n _ ∙ roll-out-Stmt s)))
statement_lines-plain _ no_if no_repeat = refl
