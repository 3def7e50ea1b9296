-- Each statement that is tested fits in the graph of one statement.
use Rattle.std.proofs.Common.{[], ◌∷◌, true, refl}
use Rattle.std.specs.Prelude.{IsTrue}
use Rattle.em_log.specs.declared.body.Expr.TheVariants as expr
use Rattle.em_log.specs.declared.body.Stmt.TheVariants as stmt
use Rattle.em_body.specs.OneStatement.{fits_there}

pub fits_set : IsTrue (fits_there (stmt.Set 0 (expr.Number 5)))
unfolding fits_there Rattle.em_log.specs.declared.body.Expr.TheBlock.hidden-the_row-Expr-0 denote.Hole.Carrier.hidden Rattle.em_log.specs.declared.body.Stmt.TheBlock.hidden-the_row-Stmt-0
fits_set = refl

pub fits_say : IsTrue (fits_there (stmt.Say (expr.Number 3)))
unfolding fits_there Rattle.em_log.specs.declared.body.Expr.TheBlock.hidden-the_row-Expr-0 denote.Hole.Carrier.hidden Rattle.em_log.specs.declared.body.Stmt.TheBlock.hidden-the_row-Stmt-0
fits_say = refl

pub fits_keep : IsTrue (fits_there (stmt.Keep expr.Me))
unfolding fits_there Rattle.em_log.specs.declared.body.Expr.TheBlock.hidden-the_row-Expr-0 denote.Hole.Carrier.hidden Rattle.em_log.specs.declared.body.Stmt.TheBlock.hidden-the_row-Stmt-0
fits_keep = refl

pub fits_free : IsTrue (fits_there (stmt.Free expr.Me))
unfolding fits_there Rattle.em_log.specs.declared.body.Expr.TheBlock.hidden-the_row-Expr-0 denote.Hole.Carrier.hidden Rattle.em_log.specs.declared.body.Stmt.TheBlock.hidden-the_row-Stmt-0
fits_free = refl

pub fits_send : IsTrue (fits_there (stmt.Send expr.Me (record { 0 = 0 })))
unfolding fits_there Rattle.em_log.specs.declared.body.Expr.TheBlock.hidden-the_row-Expr-0 denote.Hole.Carrier.hidden Rattle.em_log.specs.declared.body.Stmt.TheBlock.hidden-the_row-Stmt-0
fits_send = refl

pub fits_send_in_group : IsTrue (fits_there (stmt.SendG expr.Me (record { 0 = 0 }) (record { 0 = 0 })))
unfolding fits_there Rattle.em_log.specs.declared.body.Expr.TheBlock.hidden-the_row-Expr-0 denote.Hole.Carrier.hidden Rattle.em_log.specs.declared.body.Stmt.TheBlock.hidden-the_row-Stmt-0
fits_send_in_group = refl

pub fits_enable : IsTrue (fits_there (stmt.Enable (record { 0 = 0 })))
unfolding fits_there Rattle.em_log.specs.declared.body.Expr.TheBlock.hidden-the_row-Expr-0 denote.Hole.Carrier.hidden Rattle.em_log.specs.declared.body.Stmt.TheBlock.hidden-the_row-Stmt-0
fits_enable = refl

pub fits_disable : IsTrue (fits_there (stmt.Disable (record { 0 = 0 })))
unfolding fits_there Rattle.em_log.specs.declared.body.Expr.TheBlock.hidden-the_row-Expr-0 denote.Hole.Carrier.hidden Rattle.em_log.specs.declared.body.Stmt.TheBlock.hidden-the_row-Stmt-0
fits_disable = refl

pub fits_claim : IsTrue (fits_there (stmt.Claim 0))
unfolding fits_there Rattle.em_log.specs.declared.body.Expr.TheBlock.hidden-the_row-Expr-0 denote.Hole.Carrier.hidden Rattle.em_log.specs.declared.body.Stmt.TheBlock.hidden-the_row-Stmt-0
fits_claim = refl

pub fits_dequeue : IsTrue (fits_there (stmt.Dequeue 0 (record { 0 = 0 })))
unfolding fits_there Rattle.em_log.specs.declared.body.Expr.TheBlock.hidden-the_row-Expr-0 denote.Hole.Carrier.hidden Rattle.em_log.specs.declared.body.Stmt.TheBlock.hidden-the_row-Stmt-0
fits_dequeue = refl

pub fits_alloc : IsTrue (fits_there (stmt.Alloc 0 (record { 0 = 0 }) (expr.Number 4294967297) (expr.Var 0 ∷ expr.Me ∷ [])))
unfolding fits_there Rattle.em_log.specs.declared.body.Expr.TheBlock.hidden-the_row-Expr-0 denote.Hole.Carrier.hidden Rattle.em_log.specs.declared.body.Stmt.TheBlock.hidden-the_row-Stmt-0
fits_alloc = refl

pub fits_write : IsTrue (fits_there (stmt.CellWrite (expr.Number 9) (expr.Number 77)))
unfolding fits_there Rattle.em_log.specs.declared.body.Expr.TheBlock.hidden-the_row-Expr-0 denote.Hole.Carrier.hidden Rattle.em_log.specs.declared.body.Stmt.TheBlock.hidden-the_row-Stmt-0
fits_write = refl

pub fits_end_atomic : IsTrue (fits_there (stmt.EndAtomic))
unfolding fits_there Rattle.em_log.specs.declared.body.Expr.TheBlock.hidden-the_row-Expr-0 denote.Hole.Carrier.hidden Rattle.em_log.specs.declared.body.Stmt.TheBlock.hidden-the_row-Stmt-0
fits_end_atomic = refl

pub fits_end_group : IsTrue (fits_there (stmt.EndGroup))
unfolding fits_there Rattle.em_log.specs.declared.body.Expr.TheBlock.hidden-the_row-Expr-0 denote.Hole.Carrier.hidden Rattle.em_log.specs.declared.body.Stmt.TheBlock.hidden-the_row-Stmt-0
fits_end_group = refl

pub fits_end_ordered : IsTrue (fits_there (stmt.EndOrdered))
unfolding fits_there Rattle.em_log.specs.declared.body.Expr.TheBlock.hidden-the_row-Expr-0 denote.Hole.Carrier.hidden Rattle.em_log.specs.declared.body.Stmt.TheBlock.hidden-the_row-Stmt-0
fits_end_ordered = refl

pub fits_apply : IsTrue (fits_there (stmt.Apply (record { 0 = 0 }) (expr.Number 3) ((expr.Var 0, (record { 0 = 0 })) ∷ [])))
unfolding fits_there Rattle.em_log.specs.declared.body.Expr.TheBlock.hidden-the_row-Expr-0 denote.Hole.Carrier.hidden Rattle.em_log.specs.declared.body.Stmt.TheBlock.hidden-the_row-Stmt-0
fits_apply = refl

pub fits_increment : IsTrue (fits_there (stmt.Increment (expr.Number 4)))
unfolding fits_there Rattle.em_log.specs.declared.body.Expr.TheBlock.hidden-the_row-Expr-0 denote.Hole.Carrier.hidden Rattle.em_log.specs.declared.body.Stmt.TheBlock.hidden-the_row-Stmt-0
fits_increment = refl

pub fits_abort : IsTrue (fits_there (stmt.Abort (record { 0 = 0 })))
unfolding fits_there Rattle.em_log.specs.declared.body.Expr.TheBlock.hidden-the_row-Expr-0 denote.Hole.Carrier.hidden Rattle.em_log.specs.declared.body.Stmt.TheBlock.hidden-the_row-Stmt-0
fits_abort = refl

pub fits_start : IsTrue (fits_there (stmt.Start (record { 0 = 0 }) ((expr.Var 0, (record { 0 = 0 })) ∷ [])))
unfolding fits_there Rattle.em_log.specs.declared.body.Expr.TheBlock.hidden-the_row-Expr-0 denote.Hole.Carrier.hidden Rattle.em_log.specs.declared.body.Stmt.TheBlock.hidden-the_row-Stmt-0
fits_start = refl

pub fits_stop : IsTrue (fits_there (stmt.Stop (record { 0 = 0 }) []))
unfolding fits_there Rattle.em_log.specs.declared.body.Expr.TheBlock.hidden-the_row-Expr-0 denote.Hole.Carrier.hidden Rattle.em_log.specs.declared.body.Stmt.TheBlock.hidden-the_row-Stmt-0
fits_stop = refl

pub fits_modify : IsTrue (fits_there (stmt.Modify (record { 0 = 0 }) (expr.Number 2) []))
unfolding fits_there Rattle.em_log.specs.declared.body.Expr.TheBlock.hidden-the_row-Expr-0 denote.Hole.Carrier.hidden Rattle.em_log.specs.declared.body.Stmt.TheBlock.hidden-the_row-Stmt-0
fits_modify = refl

pub fits_if : IsTrue (fits_there (stmt.If expr.Kind (stmt.Free expr.Me ∷ []) (stmt.EndGroup ∷ []) true))
unfolding fits_there Rattle.em_log.specs.declared.body.Expr.TheBlock.hidden-the_row-Expr-0 denote.Hole.Carrier.hidden Rattle.em_log.specs.declared.body.Stmt.TheBlock.hidden-the_row-Stmt-0
fits_if = refl

pub fits_repeat : IsTrue (fits_there (stmt.Repeat 3 (stmt.Increment (expr.Var 0) ∷ [])))
unfolding fits_there Rattle.em_log.specs.declared.body.Expr.TheBlock.hidden-the_row-Expr-0 denote.Hole.Carrier.hidden Rattle.em_log.specs.declared.body.Stmt.TheBlock.hidden-the_row-Stmt-0
fits_repeat = refl

pub ruleset fitting = (fits_set, fits_say, fits_keep, fits_free, fits_send, fits_send_in_group, fits_enable, fits_disable, fits_claim, fits_dequeue, fits_alloc, fits_write, fits_end_atomic, fits_end_group, fits_end_ordered, fits_apply, fits_increment, fits_abort, fits_start, fits_stop, fits_modify, fits_if, fits_repeat)
