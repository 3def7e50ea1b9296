-- How much a context of a well-formed graph does at most.
use Rattle.std.proofs.Common.{◌≡◌, ℕ, ◌+◌, ◌≤◌, ◌&&◌, List, Option, Some, None, refl, sym, ap, ◌∙◌, subst, arith}
use Rattle.std.proofs.lemmas.Bool.{and_parts, leb-true}
use Rattle.std.proofs.lemmas.List.Sums.{sum_by-cons}
use Rattle.std.specs.Prelude.{nat_le}
use Rattle.std.specs.Option.{option_map, option_map_or}
use Rattle.std.specs.List.{sum_by, list_all}
use Rattle.em_log.specs.declared.ask.Answer.{Answer}
use Rattle.em_log.specs.declared.ask.Context.{Context}
use Rattle.em_log.specs.declared.body.Stmt.{Stmt}
use Rattle.em_log.specs.declared.work.Move.{Move}
use Rattle.em_log.specs.Allowance.{cost_of_ask}
use Rattle.em_log.specs.Bodies.{ask_of}
use Rattle.em_log.specs.Weights.{weight, weight_of, steps, steps_of}
use Rattle.em_log.specs.WellFormed.{IsWellFormed, is_statement}
use Rattle.em_log.specs.Works.{Exchange, Reached}
use Rattle.em_body.specs.Standings.{Made, Outer, Standing, Does, Moves, settled, refused, left_by, unanswered, body_of, error_body_of}
use Rattle.em_body.specs.Followed.{IsReached, carried_out, cost_of_all}
use Rattle.em_body.proofs.Bodies.{place_of, body-served}
use Rattle.em_body.proofs.Measures.{total, left_sum, in_body, weight_of-sum, steps_of-sum, no_step, does-weight, does-steps}
use Rattle.em_body.proofs.Settled.{settled-error, steps-error}
use Rattle.em_body.proofs.SumsAhead.{sum_ahead, ahead_sum, begun-sum, left-sum, moves-sum}

-- the error body of a context stays

left-error : (o : Option Stmt) (x : Answer) (s : Standing) → (left_by o x s).error ≡ s.error
left-error None x s = refl
left-error (Some q) (Answer.Refused f) s = by_error s.error s.outer
  where
    by_error : (error : Option (List Stmt)) (outer : Option Outer) → (refused error outer q f s).error ≡ s.error
    by_error (Some body) None = refl
    by_error (Some body) (Some o) = refl
    by_error None outer = refl
left-error (Some q) x s = refl

pub moves-error : (f : Made) (was : Standing) (m : Move) (now : Standing) → Moves f was m now → now.error ≡ was.error
moves-error f was m now moves = steps-error (settled was) m now moves ∙ settled-error was

pub reached-error : (f : Made) (c : Context) (es : List Exchange) (s : Standing) → IsReached f c es s → s.error ≡ error_body_of f.graph c
reached-error f c es s (Reached.Begun _ _ none begins) = ap (λ t. t.error) begins
reached-error f c es s (Reached.Silent _ was _ before moves) = moves-error f was Move.Silent s moves ∙ reached-error f c es was before
reached-error f c es s (Reached.Asked _ was _ a before moves) = moves-error f was (Move.Ask a) s moves ∙ reached-error f c es was before
reached-error f c es s (Reached.Answered _ past was _ a x before some fits leaves is) =
    ap (λ t. t.error) leaves ∙ left-error was.asking x was ∙ reached-error f c past was before

-- the cost so far, and what is ahead

abbrev weighs : Made → Context → ℕ
weighs f c = option_map_or (weight_of 0) (error_body_of f.graph c) 0

abbrev pub steps-of : Made → Context → ℕ
steps-of f c = option_map_or (steps_of 0) (error_body_of f.graph c) 0

-- an error body counted so
counted : (n : List Stmt → ℕ) (m : Stmt → ℕ) → ((ss : List Stmt) → n ss ≡ total m ss) → (error known : Option (List Stmt)) → error ≡ known
    → option_map_or n known 0 ≡ option_map_or (total m) error 0
counted n m same None known is = ap (λ o. option_map_or n o 0) (sym is)
counted n m same (Some body) known is = ap (λ o. option_map_or n o 0) (sym is) ∙ same body

abbrev cost_so_far : List Exchange → ℕ
cost_so_far es = sum_by (λ x. cost_of_ask x.ask) es

weighs-less : (e : ℕ) (q : Stmt) (was : Standing) (m : Move) (now : Standing) → was.asking ≡ None → Does q was m now
    → 0 + in_body weight cost_of_ask e now ≤ weight e q + left_sum (weight e) was.left
weighs-less e q was m now none does = let h = does-weight e q was m now none does in omega arith

reached-cost : (f : Made) (c : Context) (es : List Exchange) (s : Standing) → IsReached f c es s
    → cost_so_far es + ahead_sum weight cost_of_ask (weighs f c) s ≤ total (weight (weighs f c)) (body_of f.graph c)
reached-cost f c es s (Reached.Begun _ _ none begins) =
    let k : cost_so_far es ≡ 0 = ap cost_so_far none in
    let l = ap (ahead_sum weight cost_of_ask (weighs f c)) begins ∙ begun-sum weight cost_of_ask (weighs f c) f c in
    omega arith
reached-cost f c es s (Reached.Silent _ was _ before moves) =
    let h = reached-cost f c es was before in
    let k = moves-sum weight cost_of_ask 0 weighs-less (weighs f c) f was Move.Silent s (λ is. cc is) moves in omega arith
reached-cost f c es s (Reached.Asked _ was _ a before moves) =
    let h = reached-cost f c es was before in
    let k = moves-sum weight cost_of_ask 0 weighs-less (weighs f c) f was (Move.Ask a) s (λ is. cc is) moves in omega arith
reached-cost f c es s (Reached.Answered _ past was _ a x before some fits leaves is) =
    let h = reached-cost f c past was before in
    let e = counted (weight_of 0) (weight 0) (weight_of-sum 0) was.error (error_body_of f.graph c) (reached-error f c past was before) in
    let k = left-sum weight cost_of_ask (weighs f c) was.asking was a x e refl some in
    let l = ap (ahead_sum weight cost_of_ask (weighs f c)) leaves in
    let n : cost_so_far es ≡ cost_of_ask a + cost_so_far past =
    ap cost_so_far is ∙ sum_by-cons (λ y. cost_of_ask y.ask) (record { ask = a; answer = x }) past in
    omega arith

pub reached-steps : (f : Made) (c : Context) (es : List Exchange) (s : Standing) (r : IsReached f c es s)
    → carried_out r + ahead_sum steps no_step (steps-of f c) s ≤ total (steps (steps-of f c)) (body_of f.graph c)
reached-steps f c es s (Reached.Begun _ _ none begins) =
    let l = ap (ahead_sum steps no_step (steps-of f c)) begins ∙ begun-sum steps no_step (steps-of f c) f c in omega arith
reached-steps f c es s (Reached.Silent _ was _ before moves) =
    let h = reached-steps f c es was before in
    let k = moves-sum steps no_step 1 does-steps (steps-of f c) f was Move.Silent s (λ is. cc is) moves in omega arith
reached-steps f c es s (Reached.Asked _ was _ a before moves) =
    let h = reached-steps f c es was before in
    let k = moves-sum steps no_step 1 does-steps (steps-of f c) f was (Move.Ask a) s (λ is. cc is) moves in omega arith
reached-steps f c es s (Reached.Answered _ past was _ a x before some fits leaves is) =
    let h = reached-steps f c past was before in
    let e = counted (steps_of 0) (steps 0) (steps_of-sum 0) was.error (error_body_of f.graph c) (reached-error f c past was before) in
    let k = left-sum steps no_step (steps-of f c) was.asking was a x e refl some in
    let l = ap (ahead_sum steps no_step (steps-of f c)) leaves in
    omega arith

-- the weight and the steps of a context's body, with those of the error body that serves it
pub record IsLight (f : Made) (c : Context) : Type 0 where
  pub light : total (weight (weighs f c)) (body_of f.graph c) ≤ 256
  pub few : total (steps (steps-of f c)) (body_of f.graph c) ≤ 65536

pub is-light : (f : Made) → IsWellFormed f.graph → (c : Context) → IsLight f c
is-light f well c =
    let body : List Stmt = body_of f.graph c in
    let w : ℕ = weighs f c in
    let t : ℕ = steps-of f c in
    let statements = list_all (is_statement f.graph (place_of c) 16) body in
    let whole = and_parts (statements && nat_le (weight_of w body) 256) (nat_le (steps_of t body) 65536) (body-served f.graph well c) in
    let light = leb-true (weight_of w body) 256 (and_parts statements (nat_le (weight_of w body) 256) whole.0).1 in
    let few = leb-true (steps_of t body) 65536 whole.1 in
    record {
      light = subst (λ n. n ≤ 256) (weight_of-sum w body) light;
      few = subst (λ n. n ≤ 65536) (steps_of-sum t body) few;
    }

-- the ask that is not answered yet is ahead
cost-ahead : (e : ℕ) (s : Standing) → option_map_or cost_of_ask (unanswered s) 0 ≤ ahead_sum weight cost_of_ask e s
cost-ahead e s = by_outer s.outer s.asking
  where
    by_outer : (o : Option Outer) (asking : Option Stmt) → option_map_or cost_of_ask (option_map (λ q. ask_of q s.env) asking) 0
        ≤ sum_ahead weight cost_of_ask e o (record s { asking = asking })
    by_outer None None = omega arith
    by_outer None (Some q) = omega arith
    by_outer (Some o) None = omega arith
    by_outer (Some o) (Some q) = omega arith

pub bounded : (f : Made) → IsWellFormed f.graph → (c : Context) (es : List Exchange) (s : Standing) (r : IsReached f c es s)
    → (cost_of_all es s ≤ 256) × (carried_out r ≤ 65536)
bounded f well c es s r =
    let h = is-light f well c in
    let k = reached-cost f c es s r in
    let n = reached-steps f c es s r in
    let a = cost-ahead (weighs f c) s in
    let low = h.light in
    let few = h.few in
    (omega arith, omega arith)
