-- Expressions as tokens.
use Rattle.std.proofs.Common.{◌≡◌, suc, ◌+◌, ◌≤◌, ◌∷◌, ◌++◌, refl, ap, arith}
use Rattle.std.specs.Prelude.{codes}
use Rattle.std.proofs.lemmas.List.{map-append}
use Rattle.em_log.specs.WellFormed.{tokens}
use Rattle.em_log.specs.declared.body.Expr.{Expr}
use Rattle.em_log.specs.declared.body.Expr.TheBlock.{end_of-Expr, more_of-Expr, hidden-the_row-Expr-0, shape-the_row-Expr-0}
use Rattle.em_log.specs.declared.body.Expr.TheVariants as expr
use Rattle.em_script.specs.Expressions.{expression, symbols_of, word_of}

pub some_tokens : (e : Expr) → 1 ≤ tokens e
some_tokens (Expr.Word' _ (more_of-Expr e end_of-Expr)) = omega arith
some_tokens (Expr.Cell' _ (more_of-Expr e end_of-Expr)) = omega arith
some_tokens (Expr.Add' _ (more_of-Expr a end_of-Expr) _ (more_of-Expr b end_of-Expr)) = omega arith
some_tokens (Expr.Sub' _ (more_of-Expr a end_of-Expr) _ (more_of-Expr b end_of-Expr)) = omega arith
some_tokens (Expr.Mul' _ (more_of-Expr a end_of-Expr) _ (more_of-Expr b end_of-Expr)) = omega arith
some_tokens (Expr.And' _ (more_of-Expr a end_of-Expr) _ (more_of-Expr b end_of-Expr)) = omega arith
some_tokens (Expr.Or' _ (more_of-Expr a end_of-Expr) _ (more_of-Expr b end_of-Expr)) = omega arith
some_tokens (Expr.Xor' _ (more_of-Expr a end_of-Expr) _ (more_of-Expr b end_of-Expr)) = omega arith
some_tokens (Expr.Shr' _ (more_of-Expr a end_of-Expr) _ (more_of-Expr b end_of-Expr)) = omega arith
some_tokens (Expr.Lt' _ (more_of-Expr a end_of-Expr) _ (more_of-Expr b end_of-Expr)) = omega arith
some_tokens (Expr.Eq' _ (more_of-Expr a end_of-Expr) _ (more_of-Expr b end_of-Expr)) = omega arith
some_tokens _ = omega arith

-- ---- one operand

pub words-Word : (e : Expr) → expression.write (expr.Word e) ≡ codes "word" ∷ expression.write e
unfolding hidden-the_row-Expr-0 shape-the_row-Expr-0 denote.Hole.Carrier.hidden
words-Word e = refl

pub tokens-Word : (e : Expr) → tokens (expr.Word e) ≡ suc (tokens e)
unfolding hidden-the_row-Expr-0 shape-the_row-Expr-0 denote.Hole.Carrier.hidden
tokens-Word e = refl

pub words-Cell : (e : Expr) → expression.write (expr.Cell e) ≡ codes "cell" ∷ expression.write e
unfolding hidden-the_row-Expr-0 shape-the_row-Expr-0 denote.Hole.Carrier.hidden
words-Cell e = refl

pub tokens-Cell : (e : Expr) → tokens (expr.Cell e) ≡ suc (tokens e)
unfolding hidden-the_row-Expr-0 shape-the_row-Expr-0 denote.Hole.Carrier.hidden
tokens-Cell e = refl

-- ---- two operands

pub words-Add : (a b : Expr) → expression.write (expr.Add a b) ≡ codes "add" ∷ (expression.write a ++ expression.write b)
unfolding hidden-the_row-Expr-0 shape-the_row-Expr-0 denote.Hole.Carrier.hidden
words-Add a b = ap (λ ts. codes "add" ∷ ts) (map-append word_of (symbols_of a) (symbols_of b))

pub tokens-Add : (a b : Expr) → tokens (expr.Add a b) ≡ suc (tokens a + tokens b)
unfolding hidden-the_row-Expr-0 shape-the_row-Expr-0 denote.Hole.Carrier.hidden
tokens-Add a b = refl

pub words-Sub : (a b : Expr) → expression.write (expr.Sub a b) ≡ codes "sub" ∷ (expression.write a ++ expression.write b)
unfolding hidden-the_row-Expr-0 shape-the_row-Expr-0 denote.Hole.Carrier.hidden
words-Sub a b = ap (λ ts. codes "sub" ∷ ts) (map-append word_of (symbols_of a) (symbols_of b))

pub tokens-Sub : (a b : Expr) → tokens (expr.Sub a b) ≡ suc (tokens a + tokens b)
unfolding hidden-the_row-Expr-0 shape-the_row-Expr-0 denote.Hole.Carrier.hidden
tokens-Sub a b = refl

pub words-Mul : (a b : Expr) → expression.write (expr.Mul a b) ≡ codes "mul" ∷ (expression.write a ++ expression.write b)
unfolding hidden-the_row-Expr-0 shape-the_row-Expr-0 denote.Hole.Carrier.hidden
words-Mul a b = ap (λ ts. codes "mul" ∷ ts) (map-append word_of (symbols_of a) (symbols_of b))

pub tokens-Mul : (a b : Expr) → tokens (expr.Mul a b) ≡ suc (tokens a + tokens b)
unfolding hidden-the_row-Expr-0 shape-the_row-Expr-0 denote.Hole.Carrier.hidden
tokens-Mul a b = refl

pub words-And : (a b : Expr) → expression.write (expr.And a b) ≡ codes "and" ∷ (expression.write a ++ expression.write b)
unfolding hidden-the_row-Expr-0 shape-the_row-Expr-0 denote.Hole.Carrier.hidden
words-And a b = ap (λ ts. codes "and" ∷ ts) (map-append word_of (symbols_of a) (symbols_of b))

pub tokens-And : (a b : Expr) → tokens (expr.And a b) ≡ suc (tokens a + tokens b)
unfolding hidden-the_row-Expr-0 shape-the_row-Expr-0 denote.Hole.Carrier.hidden
tokens-And a b = refl

pub words-Or : (a b : Expr) → expression.write (expr.Or a b) ≡ codes "or" ∷ (expression.write a ++ expression.write b)
unfolding hidden-the_row-Expr-0 shape-the_row-Expr-0 denote.Hole.Carrier.hidden
words-Or a b = ap (λ ts. codes "or" ∷ ts) (map-append word_of (symbols_of a) (symbols_of b))

pub tokens-Or : (a b : Expr) → tokens (expr.Or a b) ≡ suc (tokens a + tokens b)
unfolding hidden-the_row-Expr-0 shape-the_row-Expr-0 denote.Hole.Carrier.hidden
tokens-Or a b = refl

pub words-Xor : (a b : Expr) → expression.write (expr.Xor a b) ≡ codes "xor" ∷ (expression.write a ++ expression.write b)
unfolding hidden-the_row-Expr-0 shape-the_row-Expr-0 denote.Hole.Carrier.hidden
words-Xor a b = ap (λ ts. codes "xor" ∷ ts) (map-append word_of (symbols_of a) (symbols_of b))

pub tokens-Xor : (a b : Expr) → tokens (expr.Xor a b) ≡ suc (tokens a + tokens b)
unfolding hidden-the_row-Expr-0 shape-the_row-Expr-0 denote.Hole.Carrier.hidden
tokens-Xor a b = refl

pub words-Shr : (a b : Expr) → expression.write (expr.Shr a b) ≡ codes "shr" ∷ (expression.write a ++ expression.write b)
unfolding hidden-the_row-Expr-0 shape-the_row-Expr-0 denote.Hole.Carrier.hidden
words-Shr a b = ap (λ ts. codes "shr" ∷ ts) (map-append word_of (symbols_of a) (symbols_of b))

pub tokens-Shr : (a b : Expr) → tokens (expr.Shr a b) ≡ suc (tokens a + tokens b)
unfolding hidden-the_row-Expr-0 shape-the_row-Expr-0 denote.Hole.Carrier.hidden
tokens-Shr a b = refl

pub words-Lt : (a b : Expr) → expression.write (expr.Lt a b) ≡ codes "lt" ∷ (expression.write a ++ expression.write b)
unfolding hidden-the_row-Expr-0 shape-the_row-Expr-0 denote.Hole.Carrier.hidden
words-Lt a b = ap (λ ts. codes "lt" ∷ ts) (map-append word_of (symbols_of a) (symbols_of b))

pub tokens-Lt : (a b : Expr) → tokens (expr.Lt a b) ≡ suc (tokens a + tokens b)
unfolding hidden-the_row-Expr-0 shape-the_row-Expr-0 denote.Hole.Carrier.hidden
tokens-Lt a b = refl

pub words-Eq : (a b : Expr) → expression.write (expr.Eq a b) ≡ codes "eq" ∷ (expression.write a ++ expression.write b)
unfolding hidden-the_row-Expr-0 shape-the_row-Expr-0 denote.Hole.Carrier.hidden
words-Eq a b = ap (λ ts. codes "eq" ∷ ts) (map-append word_of (symbols_of a) (symbols_of b))

pub tokens-Eq : (a b : Expr) → tokens (expr.Eq a b) ≡ suc (tokens a + tokens b)
unfolding hidden-the_row-Expr-0 shape-the_row-Expr-0 denote.Hole.Carrier.hidden
tokens-Eq a b = refl
