-- The weights and steps of blocks, counted up to a bound.
use mathlib.Core.Former.{Count}
use Rattle.std.proofs.Common.{◌≡◌, ℕ, zero, suc, ◌<◌, List, [], ◌∷◌, ◌++◌, length, take, get_or, refl, ◌+◌, ◌*◌, max, min, ap, sym, ◌∙◌, arith, Bool, Option, leb, true, false}
use Rattle.std.specs.Prelude.{◌&&◌}
use Rattle.std.specs.Option.{option_map_or}
use Rattle.std.proofs.lemmas.Bool.Decides.{nat_tests}
use Rattle.std.proofs.lemmas.List.{take_more}
use Rattle.em_log.specs.declared.body.Expr.{Expr}
use Rattle.em_log.specs.declared.body.Stmt.{Stmt}
use Rattle.em_log.specs.declared.body.Stmt.TheVariants as stmt
use Rattle.em_log.specs.declared.body.Stmt.TheBlock.{items-the_row-Stmt, items_hidden-the_row-Stmt-0, hidden-the_row-Stmt-0, end_of-Stmt, more_of-Stmt, Row_of-Stmt}
use Rattle.em_log.specs.Weights.{cost_of, served_cost, served_step, weight, weight_of, weight_row, steps, steps_of, steps_row}

-- ---- numbers up to a bound

pub min-sum : (a b k : ℕ) → min (min a k + min b k) k ≡ min (a + b) k
min-sum a b k = omega arith

pub min-max : (a b k : ℕ) → max (min a k) (min b k) ≡ min (max a b) k
min-max a b k = omega arith

pub min-more : (a k : ℕ) → min (1 + min a k) k ≡ min (1 + a) k
min-more a k = omega arith

pub min-product : (n a k : ℕ) → min (n * min a k) k ≡ min (n * a) k
min-product zero a k = omega arith
min-product (suc n) a k = grind arith

-- ---- weights

weight_items : (n : _) (error : ℕ) (row : Row_of-Stmt n) → weight_row error row ≡ weight_of error (items-the_row-Stmt n row)
weight_items n error end_of-Stmt = refl
weight_items n error (more_of-Stmt s ss) = ap (λ m. weight error s + m) (weight_items _ error ss)

pub weight_block : (error : ℕ) (b : List Stmt) → weight_row error (hidden-the_row-Stmt-0 b) ≡ weight_of error b
weight_block error b = weight_items _ error (hidden-the_row-Stmt-0 b) ∙ ap (weight_of error) (items_hidden-the_row-Stmt-0 b)

pub weight-if : (error : ℕ) (e : Expr) (b c : List Stmt) (f : _) → weight error (stmt.If e b c f) ≡ max (weight_of error b) (weight_of error c)
weight-if error e b c f = rw (weight_block error b, weight_block error c) refl

pub weight-repeat : (error n : ℕ) (b : List Stmt) → weight error (stmt.Repeat n b) ≡ n * weight_of error b
weight-repeat error n b = ap (λ m. n * m) (weight_block error b)

pub weight_of-append : (error : ℕ) (b c : List Stmt) → weight_of error (b ++ c) ≡ weight_of error b + weight_of error c
weight_of-append error [] c = omega arith
weight_of-append error (s ∷ b) c = let e = weight_of-append error b c in omega arith

pub weight_of-more : (error : ℕ) (b : List Stmt) (i : ℕ) (s : Stmt) → i < length b → s ≡ get_or b i s
    → weight_of error (take (i + 1) b) ≡ weight_of error (take i b) + weight error s
weight_of-more error b i s lt is =
    ap (weight_of error) (take_more b i s lt) ∙ weight_of-append error (take i b) (get_or b i s ∷ [])
    ∙ let e : weight error (get_or b i s) ≡ weight error s = ap (weight error) (sym is) in omega arith

-- ---- steps

steps_items : (n : _) (error : ℕ) (row : Row_of-Stmt n) → steps_row error row ≡ steps_of error (items-the_row-Stmt n row)
steps_items n error end_of-Stmt = refl
steps_items n error (more_of-Stmt s ss) = ap (λ m. steps error s + m) (steps_items _ error ss)

pub steps_block : (error : ℕ) (b : List Stmt) → steps_row error (hidden-the_row-Stmt-0 b) ≡ steps_of error b
steps_block error b = steps_items _ error (hidden-the_row-Stmt-0 b) ∙ ap (steps_of error) (items_hidden-the_row-Stmt-0 b)

pub steps-if : (error : ℕ) (e : Expr) (b c : List Stmt) (f : _) → steps error (stmt.If e b c f) ≡ 1 + max (steps_of error b) (steps_of error c)
steps-if error e b c f = rw (steps_block error b, steps_block error c) refl

pub steps-repeat : (error n : ℕ) (b : List Stmt) → steps error (stmt.Repeat n b) ≡ 1 + n * steps_of error b
steps-repeat error n b = ap (λ m. 1 + n * m) (steps_block error b)

pub steps_of-append : (error : ℕ) (b c : List Stmt) → steps_of error (b ++ c) ≡ steps_of error b + steps_of error c
steps_of-append error [] c = omega arith
steps_of-append error (s ∷ b) c = let e = steps_of-append error b c in omega arith

pub steps_of-more : (error : ℕ) (b : List Stmt) (i : ℕ) (s : Stmt) → i < length b → s ≡ get_or b i s
    → steps_of error (take (i + 1) b) ≡ steps_of error (take i b) + steps error s
steps_of-more error b i s lt is =
    ap (steps_of error) (take_more b i s lt) ∙ steps_of-append error (take i b) (get_or b i s ∷ [])
    ∙ let e : steps error (get_or b i s) ≡ steps error s = ap (steps error) (sym is) in omega arith

-- ---- what serves a fault is counted up to the bound

served_cost-min : (e k n : ℕ) → min (served_cost (min e k) n) k ≡ min (served_cost e n) k
served_cost-min e k zero = refl
served_cost-min e k (suc n) = omega arith

served_step-min : (e k n : ℕ) → min (served_step (min e k) n) k ≡ min (served_step e n) k
served_step-min e k zero = refl
served_step-min e k (suc n) = omega arith

sum-min : (a b c d k : ℕ) → min a k ≡ min b k → min c k ≡ min d k → min (a + c) k ≡ min (b + d) k
sum-min a b c d k p q = omega arith

max-min : (a b c d k : ℕ) → min a k ≡ min b k → min c k ≡ min d k → min (max a c) k ≡ min (max b d) k
max-min a b c d k p q = omega arith

product-min : (n a b k : ℕ) → min a k ≡ min b k → min (n * a) k ≡ min (n * b) k
product-min n a b k p = sym (min-product n a k) ∙ ap (λ m. min (n * m) k) p ∙ min-product n b k

more-min : (a b k : ℕ) → min a k ≡ min b k → min (1 + a) k ≡ min (1 + b) k
more-min a b k p = omega arith

mutual
  weight-min : (error k : ℕ) (s : Stmt) → min (weight (min error k) s) k ≡ min (weight error s) k
  weight-min error k (Stmt.If' t p first r second has_else) = max-min (weight_row (min error k) first) (weight_row error first) (weight_row (min error k) second) (weight_row error second) k (weight_row-min _ error k first) (weight_row-min _ error k second)
  weight-min error k (Stmt.Repeat' n p block) = product-min n (weight_row (min error k) block) (weight_row error block) k (weight_row-min _ error k block)
  weight-min error k (Stmt.Set v e) = served_cost-min error k (cost_of (Stmt.Set v e))
  weight-min error k (Stmt.CellWrite c e) = served_cost-min error k (cost_of (Stmt.CellWrite c e))
  weight-min error k (Stmt.Say e) = served_cost-min error k (cost_of (Stmt.Say e))
  weight-min error k (Stmt.Alloc v p e es) = served_cost-min error k (cost_of (Stmt.Alloc v p e es))
  weight-min error k (Stmt.Free e) = served_cost-min error k (cost_of (Stmt.Free e))
  weight-min error k (Stmt.Keep e) = served_cost-min error k (cost_of (Stmt.Keep e))
  weight-min error k (Stmt.Send e q) = served_cost-min error k (cost_of (Stmt.Send e q))
  weight-min error k (Stmt.SendG e q n) = served_cost-min error k (cost_of (Stmt.SendG e q n))
  weight-min error k (Stmt.Claim v) = served_cost-min error k (cost_of (Stmt.Claim v))
  weight-min error k (Stmt.Dequeue v q) = served_cost-min error k (cost_of (Stmt.Dequeue v q))
  weight-min error k (Stmt.Enable q) = served_cost-min error k (cost_of (Stmt.Enable q))
  weight-min error k (Stmt.Disable q) = served_cost-min error k (cost_of (Stmt.Disable q))
  weight-min error k Stmt.EndAtomic = served_cost-min error k (cost_of Stmt.EndAtomic)
  weight-min error k Stmt.EndOrdered = served_cost-min error k (cost_of Stmt.EndOrdered)
  weight-min error k Stmt.EndGroup = served_cost-min error k (cost_of Stmt.EndGroup)
  weight-min error k (Stmt.Apply n e ns) = served_cost-min error k (cost_of (Stmt.Apply n e ns))
  weight-min error k (Stmt.Increment e) = served_cost-min error k (cost_of (Stmt.Increment e))
  weight-min error k (Stmt.Abort n) = served_cost-min error k (cost_of (Stmt.Abort n))
  weight-min error k (Stmt.Start x ns) = served_cost-min error k (cost_of (Stmt.Start x ns))
  weight-min error k (Stmt.Stop x ns) = served_cost-min error k (cost_of (Stmt.Stop x ns))
  weight-min error k (Stmt.Modify n e ns) = served_cost-min error k (cost_of (Stmt.Modify n e ns))
  weight-min error k Stmt.Fail = served_cost-min error k (cost_of Stmt.Fail)

  weight_row-min : (m : Count) (error k : ℕ) (row : Row_of-Stmt m) → min (weight_row (min error k) row) k ≡ min (weight_row error row) k
  weight_row-min m error k end_of-Stmt = refl
  weight_row-min m error k (more_of-Stmt s ss) = sum-min (weight (min error k) s) (weight error s) (weight_row (min error k) ss) (weight_row error ss) k (weight-min error k s) (weight_row-min _ error k ss)

pub weight_of-min : (error k : ℕ) (b : List Stmt) → min (weight_of (min error k) b) k ≡ min (weight_of error b) k
weight_of-min error k [] = refl
weight_of-min error k (s ∷ b) = sum-min (weight (min error k) s) (weight error s) (weight_of (min error k) b) (weight_of error b) k (weight-min error k s) (weight_of-min error k b)

mutual
  steps-min : (error k : ℕ) (s : Stmt) → min (steps (min error k) s) k ≡ min (steps error s) k
  steps-min error k (Stmt.If' t p first r second has_else) = more-min (max (steps_row (min error k) first) (steps_row (min error k) second)) (max (steps_row error first) (steps_row error second)) k (max-min (steps_row (min error k) first) (steps_row error first) (steps_row (min error k) second) (steps_row error second) k (steps_row-min _ error k first) (steps_row-min _ error k second))
  steps-min error k (Stmt.Repeat' n p block) = more-min (n * steps_row (min error k) block) (n * steps_row error block) k (product-min n (steps_row (min error k) block) (steps_row error block) k (steps_row-min _ error k block))
  steps-min error k (Stmt.Set v e) = served_step-min error k (cost_of (Stmt.Set v e))
  steps-min error k (Stmt.CellWrite c e) = served_step-min error k (cost_of (Stmt.CellWrite c e))
  steps-min error k (Stmt.Say e) = served_step-min error k (cost_of (Stmt.Say e))
  steps-min error k (Stmt.Alloc v p e es) = served_step-min error k (cost_of (Stmt.Alloc v p e es))
  steps-min error k (Stmt.Free e) = served_step-min error k (cost_of (Stmt.Free e))
  steps-min error k (Stmt.Keep e) = served_step-min error k (cost_of (Stmt.Keep e))
  steps-min error k (Stmt.Send e q) = served_step-min error k (cost_of (Stmt.Send e q))
  steps-min error k (Stmt.SendG e q n) = served_step-min error k (cost_of (Stmt.SendG e q n))
  steps-min error k (Stmt.Claim v) = served_step-min error k (cost_of (Stmt.Claim v))
  steps-min error k (Stmt.Dequeue v q) = served_step-min error k (cost_of (Stmt.Dequeue v q))
  steps-min error k (Stmt.Enable q) = served_step-min error k (cost_of (Stmt.Enable q))
  steps-min error k (Stmt.Disable q) = served_step-min error k (cost_of (Stmt.Disable q))
  steps-min error k Stmt.EndAtomic = served_step-min error k (cost_of Stmt.EndAtomic)
  steps-min error k Stmt.EndOrdered = served_step-min error k (cost_of Stmt.EndOrdered)
  steps-min error k Stmt.EndGroup = served_step-min error k (cost_of Stmt.EndGroup)
  steps-min error k (Stmt.Apply n e ns) = served_step-min error k (cost_of (Stmt.Apply n e ns))
  steps-min error k (Stmt.Increment e) = served_step-min error k (cost_of (Stmt.Increment e))
  steps-min error k (Stmt.Abort n) = served_step-min error k (cost_of (Stmt.Abort n))
  steps-min error k (Stmt.Start x ns) = served_step-min error k (cost_of (Stmt.Start x ns))
  steps-min error k (Stmt.Stop x ns) = served_step-min error k (cost_of (Stmt.Stop x ns))
  steps-min error k (Stmt.Modify n e ns) = served_step-min error k (cost_of (Stmt.Modify n e ns))
  steps-min error k Stmt.Fail = served_step-min error k (cost_of Stmt.Fail)

  steps_row-min : (m : Count) (error k : ℕ) (row : Row_of-Stmt m) → min (steps_row (min error k) row) k ≡ min (steps_row error row) k
  steps_row-min m error k end_of-Stmt = refl
  steps_row-min m error k (more_of-Stmt s ss) = sum-min (steps (min error k) s) (steps error s) (steps_row (min error k) ss) (steps_row error ss) k (steps-min error k s) (steps_row-min _ error k ss)

pub steps_of-min : (error k : ℕ) (b : List Stmt) → min (steps_of (min error k) b) k ≡ min (steps_of error b) k
steps_of-min error k [] = refl
steps_of-min error k (s ∷ b) = sum-min (steps (min error k) s) (steps error s) (steps_of (min error k) b) (steps_of error b) k (steps-min error k s) (steps_of-min error k b)

-- ---- the tests

within-weight : (a : ℕ) → leb (min a 257) 256 ≡ leb a 256
within-weight a = grind (arith, nat_tests)

within-steps : (a : ℕ) → leb (min a 65537) 65536 ≡ leb a 65536
within-steps a = grind (arith, nat_tests)

-- the weight of an error body, and its steps
abbrev pub error_weight : Option (List Stmt) → ℕ
error_weight error = option_map_or (weight_of 0) error 0

abbrev pub error_steps : Option (List Stmt) → ℕ
error_steps error = option_map_or (steps_of 0) error 0

pub light-weight : (error : Option (List Stmt)) (b : List Stmt) (heavy w : ℕ) → heavy ≡ min (error_weight error) 257 → w ≡ min (weight_of heavy b) 257
    → leb w 256 ≡ leb (weight_of (error_weight error) b) 256
light-weight error b heavy w h e =
    ap (λ m. leb m 256) (e ∙ ap (λ m. min (weight_of m b) 257) h ∙ weight_of-min (error_weight error) 257 b)
    ∙ within-weight (weight_of (error_weight error) b)

pub light-steps : (error : Option (List Stmt)) (b : List Stmt) (long w : ℕ) → long ≡ min (error_steps error) 65537 → w ≡ min (steps_of long b) 65537
    → leb w 65536 ≡ leb (steps_of (error_steps error) b) 65536
light-steps error b long w h e =
    ap (λ m. leb m 65536) (e ∙ ap (λ m. min (steps_of m b) 65537) h ∙ steps_of-min (error_steps error) 65537 b)
    ∙ within-steps (steps_of (error_steps error) b)

-- the second test decides where the first holds

pub light-both : (w l : Bool) → w ≡ true → l ≡ (w && l)
light-both w l e = rw e refl

pub light-first : (w l : Bool) → w ≡ false → w ≡ (w && l)
light-first w l e = rw e refl
