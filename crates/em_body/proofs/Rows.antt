-- What the definitions say of a statement's blocks, which they read as rows, said of lists.
use Rattle.std.proofs.Common.{◌≡◌, ℕ, suc, ◌+◌, ◌*◌, max, ◌&&◌, ◌||◌, Bool, false, List, [], ◌∷◌, refl, ap, ◌∙◌}
use Rattle.std.proofs.Math.Path.{fun_ext}
use Rattle.std.specs.Prelude.{nat_le}
use Rattle.std.specs.List.{list_all}
use Rattle.em_log.specs.declared.body.Expr.{Expr}
use Rattle.em_log.specs.declared.body.Stmt.{Stmt}
use Rattle.em_log.specs.declared.body.Stmt.TheBlock.{hidden-the_row-Stmt-0}
use Rattle.em_log.specs.declared.body.Stmt.TheVariants as stmt
use Rattle.em_log.specs.declared.graph.Config.{Config}
use Rattle.em_log.specs.declared.entry.What.{What}
use Rattle.em_log.specs.Expressions.{Env, value}
use Rattle.em_log.specs.Bodies.{Handler, branch, turns, and_then, follow, follow_row, follow_all}
use Rattle.em_log.specs.Weights.{weight, weight_row, weight_of, steps, steps_row, steps_of}
use Rattle.em_log.specs.WellFormed.{Where, is_statement, are_statements, is_expression, is_empty_row}
use Rattle.em_body.specs.Everywhere.{everywhere, everywhere_row, everywhere_in}

row-statements : (g : Config) (w : Where) (d : ℕ) (ss : List Stmt) → are_statements g w d (hidden-the_row-Stmt-0 ss) ≡ list_all (is_statement g w d) ss
unfolding Rattle.em_log.specs.declared.body.Stmt.TheBlock.hidden-the_row-Stmt-0 denote.Hole.Carrier.hidden
row-statements g w d [] = refl
row-statements g w d (s ∷ ss) = ap (λ b. is_statement g w d s && b) (row-statements g w d ss)

row-follow : (h : Handler) (ss : List Stmt) (v : Env) (ws : List What) → follow_row h (hidden-the_row-Stmt-0 ss) v ws ≡ follow_all h ss v ws
unfolding Rattle.em_log.specs.declared.body.Stmt.TheBlock.hidden-the_row-Stmt-0 denote.Hole.Carrier.hidden
row-follow h [] v ws = refl
row-follow h (s ∷ ss) v ws = ap (λ b. and_then (follow h s v ws) b) (fun_ext (λ u. fun_ext (λ xs. row-follow h ss u xs)))

row-weight : (e : ℕ) (ss : List Stmt) → weight_row e (hidden-the_row-Stmt-0 ss) ≡ weight_of e ss
unfolding Rattle.em_log.specs.declared.body.Stmt.TheBlock.hidden-the_row-Stmt-0 denote.Hole.Carrier.hidden
row-weight e [] = refl
row-weight e (s ∷ ss) = ap (λ n. weight e s + n) (row-weight e ss)

row-steps : (e : ℕ) (ss : List Stmt) → steps_row e (hidden-the_row-Stmt-0 ss) ≡ steps_of e ss
unfolding Rattle.em_log.specs.declared.body.Stmt.TheBlock.hidden-the_row-Stmt-0 denote.Hole.Carrier.hidden
row-steps e [] = refl
row-steps e (s ∷ ss) = ap (λ n. steps e s + n) (row-steps e ss)

row-everywhere : (p : Stmt → Bool) (ss : List Stmt) → everywhere_row p (hidden-the_row-Stmt-0 ss) ≡ everywhere_in p ss
unfolding Rattle.em_log.specs.declared.body.Stmt.TheBlock.hidden-the_row-Stmt-0 denote.Hole.Carrier.hidden
row-everywhere p [] = refl
row-everywhere p (s ∷ ss) = ap (λ b. everywhere p s && b) (row-everywhere p ss)

-- the same at the statements that hold blocks

pub if-statement : (g : Config) (w : Where) (d : ℕ) (t : Expr) (first second : List Stmt) (h : Bool)
    → is_statement g w (suc d) (stmt.If t first second h)
    ≡ (is_expression t && list_all (is_statement g w d) first && list_all (is_statement g w d) second && (h || is_empty_row (hidden-the_row-Stmt-0 second)))
unfolding Rattle.em_log.specs.declared.body.Stmt.TheBlock.hidden-the_row-Stmt-0 denote.Hole.Carrier.hidden
if-statement g w d t first second h =
    ap (λ b. is_expression t && b && are_statements g w d (hidden-the_row-Stmt-0 second) && (h || is_empty_row (hidden-the_row-Stmt-0 second)))
    (row-statements g w d first)
    ∙ ap (λ b. is_expression t && list_all (is_statement g w d) first && b && (h || is_empty_row (hidden-the_row-Stmt-0 second)))
    (row-statements g w d second)

pub if-nests : (g : Config) (w : Where) (t : Expr) (first second : List Stmt) (h : Bool) → is_statement g w 0 (stmt.If t first second h) ≡ false
unfolding Rattle.em_log.specs.declared.body.Stmt.TheBlock.hidden-the_row-Stmt-0 denote.Hole.Carrier.hidden
if-nests g w t first second h = refl

pub repeat-statement : (g : Config) (w : Where) (d n : ℕ) (block : List Stmt)
    → is_statement g w (suc d) (stmt.Repeat n block) ≡ (nat_le 1 n && nat_le n 256 && list_all (is_statement g w d) block)
unfolding Rattle.em_log.specs.declared.body.Stmt.TheBlock.hidden-the_row-Stmt-0 denote.Hole.Carrier.hidden
repeat-statement g w d n block = ap (λ b. nat_le 1 n && nat_le n 256 && b) (row-statements g w d block)

pub repeat-nests : (g : Config) (w : Where) (n : ℕ) (block : List Stmt) → is_statement g w 0 (stmt.Repeat n block) ≡ false
unfolding Rattle.em_log.specs.declared.body.Stmt.TheBlock.hidden-the_row-Stmt-0 denote.Hole.Carrier.hidden
repeat-nests g w n block = refl

pub if-follow : (h : Handler) (t : Expr) (first second : List Stmt) (b : Bool) (v : Env) (ws : List What)
    → follow h (stmt.If t first second b) v ws ≡ branch (value t v) (follow_all h first) (follow_all h second) v ws
unfolding Rattle.em_log.specs.declared.body.Stmt.TheBlock.hidden-the_row-Stmt-0 denote.Hole.Carrier.hidden
if-follow h t first second b v ws =
    ap (λ f. branch (value t v) f (follow_row h (hidden-the_row-Stmt-0 second)) v ws) (fun_ext (λ u. fun_ext (λ xs. row-follow h first u xs)))
    ∙ ap (λ f. branch (value t v) (follow_all h first) f v ws) (fun_ext (λ u. fun_ext (λ xs. row-follow h second u xs)))

pub repeat-follow : (h : Handler) (n : ℕ) (block : List Stmt) (v : Env) (ws : List What)
    → follow h (stmt.Repeat n block) v ws ≡ turns n (follow_all h block) v ws
unfolding Rattle.em_log.specs.declared.body.Stmt.TheBlock.hidden-the_row-Stmt-0 denote.Hole.Carrier.hidden
repeat-follow h n block v ws = ap (λ f. turns n f v ws) (fun_ext (λ u. fun_ext (λ xs. row-follow h block u xs)))

pub if-weight : (e : ℕ) (t : Expr) (first second : List Stmt) (b : Bool) → weight e (stmt.If t first second b) ≡ max (weight_of e first) (weight_of e second)
unfolding Rattle.em_log.specs.declared.body.Stmt.TheBlock.hidden-the_row-Stmt-0 denote.Hole.Carrier.hidden
if-weight e t first second b =
    ap (λ n. max n (weight_row e (hidden-the_row-Stmt-0 second))) (row-weight e first) ∙ ap (λ n. max (weight_of e first) n) (row-weight e second)

pub repeat-weight : (e n : ℕ) (block : List Stmt) → weight e (stmt.Repeat n block) ≡ n * weight_of e block
unfolding Rattle.em_log.specs.declared.body.Stmt.TheBlock.hidden-the_row-Stmt-0 denote.Hole.Carrier.hidden
repeat-weight e n block = ap (λ m. n * m) (row-weight e block)

pub if-steps : (e : ℕ) (t : Expr) (first second : List Stmt) (b : Bool) → steps e (stmt.If t first second b) ≡ 1 + max (steps_of e first) (steps_of e second)
unfolding Rattle.em_log.specs.declared.body.Stmt.TheBlock.hidden-the_row-Stmt-0 denote.Hole.Carrier.hidden
if-steps e t first second b =
    ap (λ n. 1 + max n (steps_row e (hidden-the_row-Stmt-0 second))) (row-steps e first) ∙ ap (λ n. 1 + max (steps_of e first) n) (row-steps e second)

pub repeat-steps : (e n : ℕ) (block : List Stmt) → steps e (stmt.Repeat n block) ≡ 1 + n * steps_of e block
unfolding Rattle.em_log.specs.declared.body.Stmt.TheBlock.hidden-the_row-Stmt-0 denote.Hole.Carrier.hidden
repeat-steps e n block = ap (λ m. 1 + n * m) (row-steps e block)

pub if-everywhere : (p : Stmt → Bool) (t : Expr) (first second : List Stmt) (b : Bool)
    → everywhere p (stmt.If t first second b) ≡ (everywhere_in p first && everywhere_in p second)
unfolding Rattle.em_log.specs.declared.body.Stmt.TheBlock.hidden-the_row-Stmt-0 denote.Hole.Carrier.hidden
if-everywhere p t first second b =
    ap (λ x. x && everywhere_row p (hidden-the_row-Stmt-0 second)) (row-everywhere p first)
    ∙ ap (λ x. everywhere_in p first && x) (row-everywhere p second)

pub repeat-everywhere : (p : Stmt → Bool) (n : ℕ) (block : List Stmt) → everywhere p (stmt.Repeat n block) ≡ everywhere_in p block
unfolding Rattle.em_log.specs.declared.body.Stmt.TheBlock.hidden-the_row-Stmt-0 denote.Hole.Carrier.hidden
repeat-everywhere p n block = row-everywhere p block
