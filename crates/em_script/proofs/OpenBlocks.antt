-- The lines of the body that stands open.
use Rattle.std.proofs.Common.{◌≡◌, ℕ, Bool, true, false, List, [], ◌∷◌, ◌++◌, refl, sym, ap, ◌∙◌, append_assoc, append-nil}
use Rattle.em_log.specs.declared.body.Expr.{Expr}
use Rattle.em_log.specs.declared.body.Stmt.{Stmt}
use Rattle.em_log.specs.declared.body.Stmt.TheVariants as stmt
use Rattle.em_log.specs.declared.body.Stmt.TheBlock.{items-the_row-Stmt, items_hidden-the_row-Stmt-0, hidden-the_row-Stmt-0, end_of-Stmt, more_of-Stmt, Row_of-Stmt}
use Rattle.em_script.specs.declared.draft.Frame.{Frame}
use Rattle.em_script.specs.declared.draft.Opened.{Opened}
use Rattle.em_script.specs.declared.draft.Opened.TheVariants as opened
use Rattle.em_script.specs.declared.line.Line.{Line}
use Rattle.em_script.specs.declared.line.Line.TheVariants as lines
use Rattle.em_script.specs.Spelling.{statement_lines, row_lines, block_lines, else_lines}
use Rattle.em_script.specs.State.{State, after, closed_block, else_of}
use Rattle.em_script.specs.Judging.{may_else}

-- ---- the lines of a block

row-items : (n : _) (row : Row_of-Stmt n) → row_lines row ≡ block_lines (items-the_row-Stmt n row)
row-items n end_of-Stmt = refl
row-items n (more_of-Stmt s ss) = ap (λ ls. statement_lines s ++ ls) (row-items _ ss)

row-block : (b : List Stmt) → row_lines (hidden-the_row-Stmt-0 b) ≡ block_lines b
row-block b = row-items _ (hidden-the_row-Stmt-0 b) ∙ ap block_lines (items_hidden-the_row-Stmt-0 b)

lines-if : (e : Expr) (a b : List Stmt) (has_else : Bool) → statement_lines (stmt.If e a b has_else) ≡ lines.If e ∷ (block_lines a ++ (else_lines has_else (block_lines b) ++ lines.End ∷ []))
lines-if e a b has_else = λ i. lines.If e ∷ (row-block a i ++ (else_lines has_else (row-block b i) ++ lines.End ∷ []))

lines-repeat : (n : ℕ) (b : List Stmt) → statement_lines (stmt.Repeat n b) ≡ lines.Repeat n ∷ (block_lines b ++ lines.End ∷ [])
lines-repeat n b = λ i. lines.Repeat n ∷ (row-block b i ++ lines.End ∷ [])

pub block_lines-append : (a b : List Stmt) → block_lines (a ++ b) ≡ block_lines a ++ block_lines b
block_lines-append [] b = refl
block_lines-append (s ∷ a) b = ap (λ ls. statement_lines s ++ ls) (block_lines-append a b) ∙ sym (append_assoc (statement_lines s) (block_lines a) (block_lines b))

-- ---- blocks that stand open

-- the lines that opened a block
abbrev pub opening : Opened → List Line
opening (opened.If e) = lines.If e ∷ []
opening (opened.Else e first) = lines.If e ∷ (block_lines first ++ lines.Else ∷ [])
opening (opened.Repeat n) = lines.Repeat n ∷ []

-- the lines around the innermost block, so far
abbrev pub around : List Frame → List Line
around [] = []
around (f ∷ fs) = around fs ++ (block_lines f.before ++ opening f.opened)

-- the lines of the open body, so far
abbrev pub open_lines : State → List Line
open_lines s = around s.nest ++ block_lines s.block

closing : (o : Opened) (b : List Stmt) → opening o ++ (block_lines b ++ lines.End ∷ []) ≡ statement_lines (closed_block o b)
closing (opened.If e) b = sym (lines-if e b [] false)
closing (opened.Else e first) b = ap (λ ls. lines.If e ∷ ls) (append_assoc (block_lines first) (lines.Else ∷ []) (block_lines b ++ lines.End ∷ [])) ∙ sym (lines-if e first b true)
closing (opened.Repeat n) b = sym (lines-repeat n b)

single : (s : Stmt) → block_lines (s ∷ []) ≡ statement_lines s
single s = append-nil (statement_lines s)

pub statement-open : (s : State) (x : Stmt) → statement_lines x ≡ lines.Statement x ∷ [] → open_lines (after (lines.Statement x) s) ≡ open_lines s ++ lines.Statement x ∷ []
statement-open s x e =
    ap (λ ls. around s.nest ++ ls) (block_lines-append s.block (x ∷ []) ∙ ap (λ ls. block_lines s.block ++ ls) (single x ∙ e))
    ∙ sym (append_assoc (around s.nest) (block_lines s.block) (lines.Statement x ∷ []))

opens : (fs : List Frame) (b : List Stmt) (ls : List Line) → (around fs ++ (block_lines b ++ ls)) ++ [] ≡ (around fs ++ block_lines b) ++ ls
opens fs b ls = append-nil (around fs ++ (block_lines b ++ ls)) ∙ sym (append_assoc (around fs) (block_lines b) ls)

pub if-open : (s : State) (e : Expr) → open_lines (after (lines.If e) s) ≡ open_lines s ++ lines.If e ∷ []
if-open s e = opens s.nest s.block (lines.If e ∷ [])

pub repeat-open : (s : State) (n : ℕ) → open_lines (after (lines.Repeat n) s) ≡ open_lines s ++ lines.Repeat n ∷ []
repeat-open s n = opens s.nest s.block (lines.Repeat n ∷ [])

-- an `else` in the innermost block, which is an `if`
else-at : (fs : List Frame) (before b : List Stmt) (o : Opened) → may_else (record { before = before; opened = o } ∷ fs) ≡ true
    → (around fs ++ (block_lines before ++ opening (else_of o b))) ++ [] ≡ ((around fs ++ (block_lines before ++ opening o)) ++ block_lines b) ++ lines.Else ∷ []
else-at fs before b (opened.If e) may =
    append-nil (around fs ++ (block_lines before ++ (lines.If e ∷ (block_lines b ++ lines.Else ∷ []))))
    ∙ sym (
    append_assoc (around fs ++ (block_lines before ++ lines.If e ∷ [])) (block_lines b) (lines.Else ∷ [])
    ∙ append_assoc (around fs) (block_lines before ++ lines.If e ∷ []) (block_lines b ++ lines.Else ∷ [])
    ∙ ap (λ ls. around fs ++ ls) (append_assoc (block_lines before) (lines.If e ∷ []) (block_lines b ++ lines.Else ∷ []))
    )
else-at fs before b (opened.Else e first) may = absurd cc
else-at fs before b (opened.Repeat n) may = absurd cc

pub else-open : (s : State) (nest : List Frame) → s.nest ≡ nest → may_else nest ≡ true → open_lines (after lines.Else s) ≡ open_lines s ++ lines.Else ∷ []
else-open s [] is may = absurd cc
else-open s (f ∷ fs) is may = rw is (else-at fs f.before s.block f.opened may)

end-at : (fs : List Frame) (before b : List Stmt) (o : Opened) → around fs ++ block_lines (before ++ closed_block o b ∷ []) ≡ ((around fs ++ (block_lines before ++ opening o)) ++ block_lines b) ++ lines.End ∷ []
end-at fs before b o =
    ap (λ ls. around fs ++ ls) (block_lines-append before (closed_block o b ∷ []) ∙ ap (λ ls. block_lines before ++ ls) (single (closed_block o b) ∙ sym (closing o b)))
    ∙ sym (
    append_assoc (around fs ++ (block_lines before ++ opening o)) (block_lines b) (lines.End ∷ [])
    ∙ append_assoc (around fs) (block_lines before ++ opening o) (block_lines b ++ lines.End ∷ [])
    ∙ ap (λ ls. around fs ++ ls) (append_assoc (block_lines before) (opening o) (block_lines b ++ lines.End ∷ []))
    )

-- an `end` of a block in the body
pub end-open : (s : State) (f : Frame) (fs : List Frame) → s.nest ≡ f ∷ fs → open_lines (after lines.End s) ≡ open_lines s ++ lines.End ∷ []
end-open s f fs is = rw is (end-at fs f.before s.block f.opened)
