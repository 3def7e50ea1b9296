-- The value of an expression, by its form.
use Rattle.std.proofs.Common.{◌≡◌, ℕ, ◌+◌, ◌-◌, ◌*◌, ◌/◌, ◌%◌, ◌^◌, ◌==◌, nat_lt, slice_index, bit_and, bit_or, refl, ap, sym, ◌∙◌}
use Rattle.std.specs.Prelude.{bit_xor}
use Rattle.em_log.specs.declared.body.Expr.{Expr}
use Rattle.em_log.specs.declared.body.Expr.TheVariants as expr
use Rattle.em_log.specs.Expressions.{Env, value, wrapped, truth, cell_at}

pub value-word : (e : Expr) (v : Env) → value (expr.Word e) v ≡ slice_index v.event.words (value e v)
unfolding Rattle.em_log.specs.declared.body.Expr.TheBlock.hidden-the_row-Expr-0 denote.Hole.Carrier.hidden
value-word e v = refl

pub value-cell : (e : Expr) (v : Env) → value (expr.Cell e) v ≡ cell_at v.cells (value e v)
unfolding Rattle.em_log.specs.declared.body.Expr.TheBlock.hidden-the_row-Expr-0 denote.Hole.Carrier.hidden
value-cell e v = refl

pub value-add : (a b : Expr) (v : Env) → value (expr.Add a b) v ≡ wrapped (value a v + value b v)
unfolding Rattle.em_log.specs.declared.body.Expr.TheBlock.hidden-the_row-Expr-0 denote.Hole.Carrier.hidden
value-add a b v = refl

pub value-sub : (a b : Expr) (v : Env) → value (expr.Sub a b) v ≡ wrapped (value a v + (2 ^ 64 - value b v))
unfolding Rattle.em_log.specs.declared.body.Expr.TheBlock.hidden-the_row-Expr-0 denote.Hole.Carrier.hidden
value-sub a b v = refl

pub value-mul : (a b : Expr) (v : Env) → value (expr.Mul a b) v ≡ wrapped (value a v * value b v)
unfolding Rattle.em_log.specs.declared.body.Expr.TheBlock.hidden-the_row-Expr-0 denote.Hole.Carrier.hidden
value-mul a b v = refl

pub value-and : (a b : Expr) (v : Env) → value (expr.And a b) v ≡ bit_and (value a v) (value b v)
unfolding Rattle.em_log.specs.declared.body.Expr.TheBlock.hidden-the_row-Expr-0 denote.Hole.Carrier.hidden
value-and a b v = refl

pub value-or : (a b : Expr) (v : Env) → value (expr.Or a b) v ≡ bit_or (value a v) (value b v)
unfolding Rattle.em_log.specs.declared.body.Expr.TheBlock.hidden-the_row-Expr-0 denote.Hole.Carrier.hidden
value-or a b v = refl

pub value-xor : (a b : Expr) (v : Env) → value (expr.Xor a b) v ≡ bit_xor (value a v) (value b v)
unfolding Rattle.em_log.specs.declared.body.Expr.TheBlock.hidden-the_row-Expr-0 denote.Hole.Carrier.hidden
value-xor a b v = refl

pub value-shr : (a b : Expr) (v : Env) → value (expr.Shr a b) v ≡ value a v / 2 ^ (value b v % 64)
unfolding Rattle.em_log.specs.declared.body.Expr.TheBlock.hidden-the_row-Expr-0 denote.Hole.Carrier.hidden
value-shr a b v = refl

pub value-lt : (a b : Expr) (v : Env) → value (expr.Lt a b) v ≡ truth (nat_lt (value a v) (value b v))
unfolding Rattle.em_log.specs.declared.body.Expr.TheBlock.hidden-the_row-Expr-0 denote.Hole.Carrier.hidden
value-lt a b v = refl

pub value-eq : (a b : Expr) (v : Env) → value (expr.Eq a b) v ≡ truth (value a v == value b v)
unfolding Rattle.em_log.specs.declared.body.Expr.TheBlock.hidden-the_row-Expr-0 denote.Hole.Carrier.hidden
value-eq a b v = refl

pub ruleset values_by_form = (value-word, value-cell, value-add, value-sub, value-mul, value-and, value-or, value-xor, value-shr, value-lt, value-eq)

-- a form of two parts, at parts that were read one after the other
pub at-two : (form : Expr → Expr → Expr) (op : ℕ → ℕ → ℕ) → ((a b : Expr) (v : Env) → value (form a b) v ≡ op (value a v) (value b v))
    → (e a b a' b' : Expr) (v : Env) (x y : ℕ) → e ≡ form a b → a' ≡ a → b' ≡ b → x ≡ value a' v → y ≡ value b' v → op x y ≡ value e v
at-two form op law e a b a' b' v x y is left right first second =
    let x' : x ≡ value a v = first ∙ ap (λ z. value z v) left in
    let y' : y ≡ value b v = second ∙ ap (λ z. value z v) right in
    ap (λ m. op m y) x' ∙ (ap (λ m. op (value a v) m) y' ∙ (sym (law a b v) ∙ ap (λ z. value z v) (sym is)))

-- a form of one part, at a part that was read and then used
pub at-one : (form : Expr → Expr) (v : Env) (op : ℕ → ℕ) → ((a : Expr) → value (form a) v ≡ op (value a v))
    → (e a a' : Expr) (x n : ℕ) → e ≡ form a → a' ≡ a → x ≡ value a' v → n ≡ op x → n ≡ value e v
at-one form v op law e a a' x n is part first used =
    used ∙ (ap op (first ∙ ap (λ z. value z v) part) ∙ (sym (law a) ∙ ap (λ z. value z v) (sym is)))
