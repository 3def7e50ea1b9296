-- What is counted of all that is ahead of a body falls as it goes on.
use Rattle.std.proofs.Common.{◌≡◌, ℕ, ◌+◌, ◌≤◌, List, [], ◌∷◌, Option, Some, None, refl, sym, ap, ◌∙◌, subst, arith}
use Rattle.std.specs.Option.{option_map, option_map_or}
use Rattle.em_log.specs.declared.ask.Answer.{Answer}
use Rattle.em_log.specs.declared.ask.Ask.{Ask}
use Rattle.em_log.specs.declared.ask.Context.{Context}
use Rattle.em_log.specs.declared.body.Stmt.{Stmt}
use Rattle.em_log.specs.declared.fault.Fault.{Fault}
use Rattle.em_log.specs.declared.work.Move.{Move}
use Rattle.em_log.specs.Bodies.{ask_of}
use Rattle.em_log.specs.Expressions.{Env}
use Rattle.em_body.specs.Standings.{Made, Left, Outer, Standing, Does, Steps, Ends, Goes, Moves, after_first, settled_by, settled, refused, replied, left_by, body_of, begun}
use Rattle.em_body.proofs.Measures.{total, left_sum, entered-sum, first-sum, unasked-pending, in_body}
use Rattle.em_body.proofs.Settled.{settled-asking, steps-outer, steps-unasked}

-- statements counted so, where an error body that counts e serves them, and asks counted so
module _ (m : ℕ → Stmt → ℕ) (asked : Ask → ℕ) where
  -- an error body is in front of the body that it serves; no error body serves it
  abbrev pub sum_ahead : ℕ → Option Outer → Standing → ℕ
  sum_ahead e None s = in_body m asked e s
  sum_ahead e (Some o) s = in_body m asked 0 s + left_sum (m e) o.left

  abbrev pub ahead_sum : ℕ → Standing → ℕ
  ahead_sum e s = sum_ahead e s.outer s

  pub begun-sum : (e : ℕ) (f : Made) (c : Context) → ahead_sum e (begun f c) ≡ total (m e) (body_of f.graph c)
  begun-sum e f c = let h = entered-sum (m e) (body_of f.graph c) 1 [] in omega arith

  -- where an error body gives way

  by-sum : (e : ℕ) (ls : List Left) (o : Option Outer) (asking : Option Stmt) (s : Standing) → asking ≡ None
      → ahead_sum e (settled_by ls o (record s { left = ls; asking = asking; outer = o })) ≡ sum_ahead e o (record s { left = ls; asking = asking; outer = o })
  by-sum e [] (Some o) None s none = omega arith
  by-sum e [] None None s none = refl
  by-sum e (l ∷ ls) o None s none = refl
  by-sum e ls o (Some q) s none = absurd (cc none)

  settled-sum : (e : ℕ) (s : Standing) → s.asking ≡ None → ahead_sum e (settled s) ≡ ahead_sum e s
  settled-sum e s none = by-sum e s.left s.outer s.asking s none

  -- answers: the ask is no longer ahead, and where an error body serves its fault, that body is

  abbrev pub count : Option (List Stmt) → ℕ
  count error = option_map_or (total (m 0)) error 0

  -- the state at this statement's ask
  abbrev at : Env → List Left → Option (List Stmt) → Option Outer → Stmt → Standing
  at v ls error o q = record { env = v; left = ls; asking = Some q; error = error; outer = o }

  refused-sum : (e : ℕ) (v : Env) (ls : List Left) (error : Option (List Stmt)) (o : Option Outer) (q : Stmt) (f : Fault) → e ≡ count error
      → asked (ask_of q v) + ahead_sum e (refused error o q f (at v ls error o q)) ≤ ahead_sum e (at v ls error o q)
  refused-sum e v ls (Some body) None q f is = let h = entered-sum (m 0) body 1 [] in omega (arith, is)
  refused-sum e v ls (Some body) (Some o) q f is = omega arith
  refused-sum e v ls None (Some o) q f is = omega arith
  refused-sum e v ls None None q f is = omega arith

  replied-sum : (e : ℕ) (v : Env) (ls : List Left) (error : Option (List Stmt)) (o : Option Outer) (q : Stmt) (x : Answer) → e ≡ count error
      → asked (ask_of q v) + ahead_sum e (replied q x (at v ls error o q)) ≤ ahead_sum e (at v ls error o q)
  replied-sum e v ls error o q (Answer.Refused f) is = refused-sum e v ls error o q f is
  replied-sum e v ls error None q x is = omega arith
  replied-sum e v ls error (Some o) q x is = omega arith

  pub left-sum : (e : ℕ) (asking : Option Stmt) (was : Standing) (a : Ask) (x : Answer) → e ≡ count was.error → was.asking ≡ asking
      → option_map (λ q. ask_of q was.env) asking ≡ Some a → asked a + ahead_sum e (left_by asking x was) ≤ ahead_sum e was
  left-sum e None was a x is asks some = absurd (cc some)
  left-sum e (Some q) was a x is asks some =
      let here : at was.env was.left was.error was.outer q ≡ was = ap (λ o. record was { asking = o }) (sym asks) in
      let same : ask_of q was.env ≡ a = cc some in
      subst (λ b. asked b + ahead_sum e (replied q x was) ≤ ahead_sum e was) same
      (subst (λ t. asked (ask_of q t.env) + ahead_sum e (replied q x t) ≤ ahead_sum e t) here
      (replied-sum e was.env was.left was.error was.outer q x is))

  -- moves: a statement is counted k more than what it leaves
  module _ (k : ℕ) (does-sum : (e : ℕ) (q : Stmt) (was : Standing) (move : Move) (now : Standing) → was.asking ≡ None → Does q was move now
      → k + in_body m asked e now ≤ m e q + left_sum (m e) was.left) where
    body-sum : (e : ℕ) (was : Standing) (move : Move) (now : Standing) → ((move ≡ Move.End) → ⊥) → Steps was move now
        → k + in_body m asked e now ≤ in_body m asked e was
    body-sum e was move now no_end (Ends none empty is same) = absurd (no_end is)
    body-sum e was move now no_end (Goes q none first does) =
        let a = first-sum (m e) was.left q first in
        let b = does-sum e q (record was { left = after_first was.left }) move now none does in
        let c = unasked-pending asked e was none in
        omega arith

    by-outer : (e : ℕ) (o : Option Outer) (was : Standing) (move : Move) (now : Standing) → ((move ≡ Move.End) → ⊥) → Steps was move now
        → k + sum_ahead e o now ≤ sum_ahead e o was
    by-outer e None was move now no_end steps = body-sum e was move now no_end steps
    by-outer e (Some o) was move now no_end steps = let h = body-sum 0 was move now no_end steps in omega arith

    pub moves-sum : (e : ℕ) (f : Made) (was : Standing) (move : Move) (now : Standing) → ((move ≡ Move.End) → ⊥) → Moves f was move now
        → k + ahead_sum e now ≤ ahead_sum e was
    moves-sum e f was move now no_end moves =
        let here = by-outer e (settled was).outer (settled was) move now no_end moves in
        let outer : ahead_sum e now ≡ sum_ahead e (settled was).outer now = ap (λ o. sum_ahead e o now) (steps-outer (settled was) move now moves) in
        let before = settled-sum e was (sym (settled-asking was) ∙ steps-unasked (settled was) move now moves) in
        omega arith
