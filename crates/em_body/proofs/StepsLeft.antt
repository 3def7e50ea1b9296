-- The steps that are left are bounded, and each move but the end leaves fewer.
use Rattle.std.proofs.Common.{◌≡◌, ℕ, suc, ◌+◌, ◌*◌, ◌≤◌, List, [], ◌∷◌, Option, Some, None, refl, ap, ◌∙◌, arith}
use Rattle.std.proofs.lemmas.List.Sums.{sum_by-cons}
use Rattle.em_log.specs.declared.ask.Context.{Context}
use Rattle.em_log.specs.declared.body.Stmt.{Stmt}
use Rattle.em_log.specs.declared.work.Move.{Move}
use Rattle.em_log.specs.Weights.{steps, steps_of}
use Rattle.em_log.specs.WellFormed.{IsWellFormed}
use Rattle.em_log.specs.Works.{Exchange}
use Rattle.em_body.specs.Standings.{Made, Left, Outer, Standing, Moves}
use Rattle.em_body.specs.Followed.{IsReached, steps_in, steps_of_error, steps_ahead, steps_left}
use Rattle.em_body.proofs.Bounds.{is-light, moves-error, reached-error, reached-steps}
use Rattle.em_body.proofs.Measures.{total, left_sum, steps_of-sum, no_step, does-steps}
use Rattle.em_body.proofs.SumsAhead.{sum_ahead, ahead_sum, moves-sum}

-- the steps that are left, by their blocks

left-steps : (e : ℕ) (ls : List Left) → steps_in e ls ≡ left_sum (steps e) ls
left-steps e [] = refl
left-steps e (l ∷ ls) =
    sum_by-cons (λ x. steps_of e x.rest + x.again * steps_of e x.block) l ls
    ∙ ap (λ n. n + l.again * steps_of e l.block + steps_in e ls) (steps_of-sum e l.rest)
    ∙ ap (λ n. total (steps e) l.rest + l.again * n + steps_in e ls) (steps_of-sum e l.block)
    ∙ ap (λ n. total (steps e) l.rest + l.again * total (steps e) l.block + n) (left-steps e ls)

-- an unanswered ask is no step by itself
by-ahead : (o : Option Outer) (asking : Option Stmt) (s : Standing)
    → steps_ahead o (record s { asking = asking }) ≡ sum_ahead steps no_step (steps_of_error s.error) o (record s { asking = asking })
by-ahead None None s = let h = left-steps (steps_of_error s.error) s.left in omega arith
by-ahead None (Some q) s = let h = left-steps (steps_of_error s.error) s.left in omega arith
by-ahead (Some o) None s =
    let h = left-steps 0 s.left in let k = left-steps (steps_of_error s.error) o.left in omega arith
by-ahead (Some o) (Some q) s =
    let h = left-steps 0 s.left in let k = left-steps (steps_of_error s.error) o.left in omega arith

ahead-steps : (s : Standing) → steps_left s ≡ ahead_sum steps no_step (steps_of_error s.error) s
ahead-steps s = by-ahead s.outer s.asking s

pub steps-bounded : (f : Made) → IsWellFormed f.graph → (c : Context) (es : List Exchange) (s : Standing) → IsReached f c es s → steps_left s ≤ 65536
steps-bounded f well c es s r =
    let few = (is-light f well c).few in
    let here = reached-steps f c es s r in
    let error = ap (λ o. ahead_sum steps no_step (steps_of_error o) s) (reached-error f c es s r) in
    let left = ahead-steps s in
    omega arith

pub steps-fall : (f : Made) (s : Standing) (m : Move) (t : Standing) → Moves f s m t → ((m ≡ Move.End) → ⊥) → suc (steps_left t) ≤ steps_left s
steps-fall f s m t moves no_end =
    let falls = moves-sum steps no_step 1 does-steps (steps_of_error s.error) f s m t no_end moves in
    let before = ahead-steps s in
    let after = ahead-steps t ∙ ap (λ o. ahead_sum steps no_step (steps_of_error o) t) (moves-error f s m t moves) in
    omega arith
