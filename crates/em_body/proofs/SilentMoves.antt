-- A silent move carries out one statement, which asks nothing.
use Rattle.std.proofs.Common.{◌≡◌, ℕ, List, Some, false, refl, ap, ◌∙◌}
use Rattle.std.specs.Prelude.{is_none}
use Rattle.em_log.specs.declared.body.Expr.{Expr}
use Rattle.em_log.specs.declared.body.Stmt.{Stmt}
use Rattle.em_log.specs.declared.body.Stmt.TheVariants as stmt
use Rattle.em_log.specs.declared.work.Move.{Move}
use Rattle.em_log.specs.Expressions.{Env}
use Rattle.em_body.specs.Standings.{Made, Standing, Does, Sets, Branches, Repeats, Writes, Asks, Steps, Ends, Goes, Moves, settled, first_of, does_ask}

if-silent : (t : Expr) (first second : List Stmt) (h : _) (v : Env) → does_ask (stmt.If t first second h) v ≡ false
unfolding Rattle.em_log.specs.declared.body.Stmt.TheBlock.hidden-the_row-Stmt-0 denote.Hole.Carrier.hidden
if-silent t first second h v = refl

repeat-silent : (n : ℕ) (block : List Stmt) (v : Env) → does_ask (stmt.Repeat n block) v ≡ false
unfolding Rattle.em_log.specs.declared.body.Stmt.TheBlock.hidden-the_row-Stmt-0 denote.Hole.Carrier.hidden
repeat-silent n block v = refl

does-silent : (s : Stmt) (was : Standing) (m : Move) (now : Standing) → m ≡ Move.Silent → Does s was m now → does_ask s was.env ≡ false
does-silent s was m now silent (Sets i e is same new) = ap (λ q. does_ask q was.env) is
does-silent s was m now silent (Branches t first second has_else is same new) =
    ap (λ q. does_ask q was.env) is ∙ if-silent t first second has_else was.env
does-silent s was m now silent (Repeats n block is same new) = ap (λ q. does_ask q was.env) is ∙ repeat-silent n block was.env
does-silent s was m now silent (Writes c e cells is some same new) = ap (λ q. does_ask q was.env) is ∙ ap is_none some
does-silent s was m now silent (Asks does same new) = absurd (cc (silent, same))

steps-silent : (s : Standing) (m : Move) (t : Standing) → m ≡ Move.Silent → Steps s m t
    → (q : Stmt) × ((first_of s.left ≡ Some q) × (does_ask q s.env ≡ false))
steps-silent s m t silent (Ends none empty is same) = absurd (cc (silent, is))
steps-silent s m t silent (Goes q none first does) = (q, (first, does-silent q _ m t silent does))

pub silent : (f : Made) (s t : Standing) → Moves f s Move.Silent t
    → (q : Stmt) × ((first_of (settled s).left ≡ Some q) × (does_ask q (settled s).env ≡ false))
silent f s t moves = steps-silent (settled s) Move.Silent t refl moves
