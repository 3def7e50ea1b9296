-- A test of every statement of a block, and of the blocks that lie in it.
use Rattle.std.proofs.Common.{◌≡◌, ℕ, Bool, List, refl, ap, ◌∙◌}
use Rattle.std.specs.Prelude.{◌&&◌}
use Rattle.em_log.specs.declared.body.Expr.{Expr}
use Rattle.em_log.specs.declared.body.Stmt.{Stmt}
use Rattle.em_log.specs.declared.body.Stmt.TheVariants as stmt
use Rattle.em_log.specs.declared.body.Stmt.TheBlock.{items-the_row-Stmt, items_hidden-the_row-Stmt-0, hidden-the_row-Stmt-0, end_of-Stmt, more_of-Stmt, Row_of-Stmt}
use Rattle.em_body.specs.Everywhere.{everywhere, everywhere_in, everywhere_row}

everywhere-items : (n : _) (p : Stmt → Bool) (row : Row_of-Stmt n) → everywhere_row p row ≡ everywhere_in p (items-the_row-Stmt n row)
everywhere-items n p end_of-Stmt = refl
everywhere-items n p (more_of-Stmt s ss) = ap (λ b. everywhere p s && b) (everywhere-items _ p ss)

pub everywhere-block : (p : Stmt → Bool) (b : List Stmt) → everywhere_row p (hidden-the_row-Stmt-0 b) ≡ everywhere_in p b
everywhere-block p b = everywhere-items _ p (hidden-the_row-Stmt-0 b) ∙ ap (everywhere_in p) (items_hidden-the_row-Stmt-0 b)

pub everywhere-if : (p : Stmt → Bool) (e : Expr) (b c : List Stmt) (f : _)
    → everywhere p (stmt.If e b c f) ≡ (everywhere_in p b && everywhere_in p c)
everywhere-if p e b c f = rw (everywhere-block p b, everywhere-block p c) refl

pub everywhere-repeat : (p : Stmt → Bool) (n : ℕ) (b : List Stmt) → everywhere p (stmt.Repeat n b) ≡ everywhere_in p b
everywhere-repeat p n b = everywhere-block p b
