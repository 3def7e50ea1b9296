-- A test of each statement of a body that holds no blocks.
use mathlib.Core.Former.{Count}
use Rattle.std.specs.Prelude.{Bool, true, ◌&&◌, List}
use Rattle.std.specs.List.{list_all}
use Rattle.em_log.specs.declared.body.Stmt.{Stmt}
use Rattle.em_log.specs.declared.body.Stmt.TheBlock.{Row_of-Stmt, end_of-Stmt, more_of-Stmt}

-- whether each statement passes, those in blocks among them
abbrev mutual
  pub everywhere : (Stmt → Bool) → Stmt → Bool
  everywhere p (Stmt.If' e _ first _ second has_else) = everywhere_row p first && everywhere_row p second
  everywhere p (Stmt.Repeat' n _ block) = everywhere_row p block
  everywhere p s = p s

  pub everywhere_row : {n : Count} → (Stmt → Bool) → Row_of-Stmt n → Bool
  everywhere_row p end_of-Stmt = true
  everywhere_row p (more_of-Stmt s ss) = everywhere p s && everywhere_row p ss

abbrev pub everywhere_in : (Stmt → Bool) → List Stmt → Bool
everywhere_in p ss = list_all (everywhere p) ss
