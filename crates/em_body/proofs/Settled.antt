-- What stays where an error body gives way to the body that it has served, and what stays at a statement.
use Rattle.std.proofs.Common.{◌≡◌, ℕ, List, [], ◌∷◌, Option, Some, None, refl, ap}
use Rattle.em_log.specs.declared.body.Stmt.{Stmt}
use Rattle.em_log.specs.declared.work.Move.{Move}
use Rattle.em_log.specs.Bodies.{set_in}
use Rattle.em_log.specs.Expressions.{Env}
use Rattle.em_body.specs.Standings.{Left, Outer, Standing, Does, Sets, Branches, Repeats, Writes, Asks, Steps, Ends, Goes, after_first, settled_by, settled}

-- a body that no error body has been begun for stands as it does
pub settled-none : (ls : List Left) (s : Standing) → settled_by ls None s ≡ s
settled-none [] s = refl
settled-none (l ∷ ls) s = refl

by-asking : (ls : List Left) (o : Option Outer) (s : Standing) → (settled_by ls o s).asking ≡ s.asking
by-asking [] (Some o) s = refl
by-asking [] None s = refl
by-asking (l ∷ ls) o s = refl

pub settled-asking : (s : Standing) → (settled s).asking ≡ s.asking
settled-asking s = by-asking s.left s.outer s

by-error : (ls : List Left) (o : Option Outer) (s : Standing) → (settled_by ls o s).error ≡ s.error
by-error [] (Some o) s = refl
by-error [] None s = refl
by-error (l ∷ ls) o s = refl

pub settled-error : (s : Standing) → (settled s).error ≡ s.error
settled-error s = by-error s.left s.outer s

-- the cells come back

pub set-cells : (i : Option ℕ) (n : ℕ) (v : Env) → (set_in i n v).cells ≡ v.cells
set-cells None n v = refl
set-cells (Some i) n v = refl

by-cells : (ls : List Left) (o : Option Outer) (s : Standing) → (settled_by ls o s).env.cells ≡ s.env.cells
by-cells [] (Some o) s = set-cells o.variable 0 _
by-cells [] None s = refl
by-cells (l ∷ ls) o s = refl

pub settled-cells : (s : Standing) → (settled s).env.cells ≡ s.env.cells
settled-cells s = by-cells s.left s.outer s

-- a statement leaves the error body and the body that it serves

pub does-error : (q : Stmt) (was : Standing) (m : Move) (now : Standing) → Does q was m now → now.error ≡ was.error
does-error q was m now (Sets i e is silent new) = ap (λ t. t.error) new
does-error q was m now (Branches t first second has_else is silent new) = ap (λ t. t.error) new
does-error q was m now (Repeats n block is silent new) = ap (λ t. t.error) new
does-error q was m now (Writes c e cells is some silent new) = ap (λ t. t.error) new
does-error q was m now (Asks does is new) = ap (λ t. t.error) new

pub does-outer : (q : Stmt) (was : Standing) (m : Move) (now : Standing) → Does q was m now → now.outer ≡ was.outer
does-outer q was m now (Sets i e is silent new) = ap (λ t. t.outer) new
does-outer q was m now (Branches t first second has_else is silent new) = ap (λ t. t.outer) new
does-outer q was m now (Repeats n block is silent new) = ap (λ t. t.outer) new
does-outer q was m now (Writes c e cells is some silent new) = ap (λ t. t.outer) new
does-outer q was m now (Asks does is new) = ap (λ t. t.outer) new

-- a step stays in its body
pub steps-error : (was : Standing) (m : Move) (now : Standing) → Steps was m now → now.error ≡ was.error
steps-error was m now (Ends none empty is same) = ap (λ t. t.error) same
steps-error was m now (Goes q none first does) = does-error q (record was { left = after_first was.left }) m now does

pub steps-outer : (was : Standing) (m : Move) (now : Standing) → Steps was m now → now.outer ≡ was.outer
steps-outer was m now (Ends none empty is same) = ap (λ t. t.outer) same
steps-outer was m now (Goes q none first does) = does-outer q (record was { left = after_first was.left }) m now does

pub steps-unasked : (was : Standing) (m : Move) (now : Standing) → Steps was m now → was.asking ≡ None
steps-unasked was m now (Ends none empty is same) = none
steps-unasked was m now (Goes q none first does) = none
