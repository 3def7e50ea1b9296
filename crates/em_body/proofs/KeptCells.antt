-- What is true of a context's cells stays true of them.
use Rattle.std.proofs.Common.{◌≡◌, ℕ, ◌%◌, List, Option, Some, None, refl, sym, ap, subst}
use Rattle.std.specs.Prelude.{slice_set}
use Rattle.em_log.specs.declared.ask.Answer.{Answer}
use Rattle.em_log.specs.declared.ask.Context.{Context}
use Rattle.em_log.specs.declared.body.Stmt.{Stmt}
use Rattle.em_log.specs.declared.entry.Event.{Event}
use Rattle.em_log.specs.declared.fault.Fault.{Fault}
use Rattle.em_log.specs.declared.work.Move.{Move}
use Rattle.em_log.specs.Bodies.{event_env, variable}
use Rattle.em_log.specs.Expressions.{Env, value}
use Rattle.em_log.specs.Works.{Exchange, Reached}
use Rattle.em_body.specs.Followed.{IsReached}
use Rattle.em_body.specs.Standings.{Made, Outer, Standing, Does, Sets, Branches, Repeats, Writes, Asks, Steps, Ends, Goes, Moves, after_first, settled, minted, done, answered, refused, left_by, opening}
use Rattle.em_body.proofs.Settled.{set-cells, settled-cells}

-- answers

event-cells : (i : Option ℕ) (e : Event) (v : Env) → (event_env i (Some e) v).cells ≡ v.cells
event-cells i e v = set-cells i e.handle.0 (record v { event = record { kind = e.kind; words = e.words } })

minted-cells : (s : Stmt) (e : Event) (v : Env) → (minted s e v).cells ≡ v.cells
minted-cells (Stmt.Alloc i p a ws) e v = refl
minted-cells s e v = event-cells (variable s) e v

-- what holds of no cells, and of cells of which one is written
module _ (P : Option (List ℕ) → Type 0) (none : P None) (write : (cells : List ℕ) (i n : ℕ) → P (Some cells) → P (Some (slice_set cells i n))) where
  -- moves

  does-kept : (s : Stmt) (was : Standing) (m : Move) (now : Standing) → P was.env.cells → Does s was m now → P now.env.cells
  does-kept s was m now h (Sets i e is silent new) = subst P (sym (ap (λ t. t.env.cells) new)) h
  does-kept s was m now h (Branches t first second has_else is silent new) = subst P (sym (ap (λ t. t.env.cells) new)) h
  does-kept s was m now h (Repeats n block is silent new) = subst P (sym (ap (λ t. t.env.cells) new)) h
  does-kept s was m now h (Writes c e cells is some silent new) =
      let had : P (Some cells) = subst P some h in
      subst P (sym (ap (λ t. t.env.cells) new)) (write cells (value c was.env % 8) (value e was.env) had)
  does-kept s was m now h (Asks does is new) = subst P (sym (ap (λ t. t.env.cells) new)) h

  steps-kept : (was : Standing) (m : Move) (now : Standing) → P was.env.cells → Steps was m now → P now.env.cells
  steps-kept was m now h (Ends none empty is same) = subst P (sym (ap (λ t. t.env.cells) same)) h
  steps-kept was m now h (Goes s none first does) = does-kept s (record was { left = after_first was.left }) m now h does

  moves-kept : (f : Made) (was : Standing) (m : Move) (now : Standing) → P was.env.cells → Moves f was m now → P now.env.cells
  moves-kept f was m now h moves = steps-kept (settled was) m now (subst P (sym (settled-cells was)) h) moves

  done-kept : (s : Stmt) (v : Env) → P v.cells → P (done s v).cells
  done-kept Stmt.EndAtomic v h = none
  done-kept s v h = h

  answered-kept : (s : Stmt) (x : Answer) (v : Env) → P v.cells → P (answered s x v).cells
  answered-kept s (Answer.Refused f) v h = subst P (sym (set-cells (variable s) 0 (record v { ok = 0 }))) h
  answered-kept s (Answer.Minted e) v h = subst P (sym (minted-cells s e v)) h
  answered-kept s Answer.Nothing v h = subst P (sym (set-cells (variable s) 0 v)) h
  answered-kept s Answer.Done v h = done-kept s v h
  answered-kept s x v h = h

  -- an error body begins with the cells
  refused-kept : (error : Option (List Stmt)) (outer : Option Outer) (q : Stmt) (f : Fault) (s : Standing) → P s.env.cells
      → P (refused error outer q f s).env.cells
  refused-kept (Some body) None q f s h = h
  refused-kept (Some body) (Some o) q f s h = answered-kept q (Answer.Refused f) s.env h
  refused-kept None outer q f s h = answered-kept q (Answer.Refused f) s.env h

  left-kept : (o : Option Stmt) (x : Answer) (s : Standing) → P s.env.cells → P (left_by o x s).env.cells
  left-kept None x s h = h
  left-kept (Some q) (Answer.Refused f) s h = refused-kept s.error s.outer q f s h
  left-kept (Some q) x s h = answered-kept q x s.env h

  -- each state that a context reaches
  pub reached-kept : (f : Made) (c : Context) (es : List Exchange) (s : Standing) → P (opening f.core c).cells → IsReached f c es s → P s.env.cells
  reached-kept f c es s h (Reached.Begun _ _ empty begins) = subst P (sym (ap (λ t. t.env.cells) begins)) h
  reached-kept f c es s h (Reached.Silent _ was _ before moves) = moves-kept f was Move.Silent s (reached-kept f c es was h before) moves
  reached-kept f c es s h (Reached.Asked _ was _ a before moves) = moves-kept f was (Move.Ask a) s (reached-kept f c es was h before) moves
  reached-kept f c es s h (Reached.Answered _ past was _ a x before some fits leaves is) =
      subst P (sym (ap (λ t. t.env.cells) leaves)) (left-kept was.asking x was (reached-kept f c past was h before))

-- where a context comes with no cells there are none
pub reached-without : (f : Made) (c : Context) (es : List Exchange) (s : Standing) → (opening f.core c).cells ≡ None → IsReached f c es s
    → s.env.cells ≡ None
reached-without f c es s h r = reached-kept (λ cells. cells ≡ None) refl (λ cells i n some. absurd cc) f c es s h r
