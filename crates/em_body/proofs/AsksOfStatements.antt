-- What all statements of a context's body and of its error body pass is passed by each statement that asks.
use Rattle.std.proofs.Common.{◌≡◌, ◌⊎◌, inl, inr, true, Bool, List, [], ◌∷◌, Option, Some, None, IsTrue, refl, sym, ◌∙◌, subst}
use Rattle.std.specs.Option.{option_map, option_map_or}
use Rattle.em_log.specs.declared.ask.Answer.{Answer}
use Rattle.em_log.specs.declared.ask.Ask.{Ask}
use Rattle.em_log.specs.declared.ask.Context.{Context}
use Rattle.em_log.specs.declared.body.Stmt.{Stmt}
use Rattle.em_log.specs.declared.fault.Fault.{Fault}
use Rattle.em_log.specs.declared.work.Move.{Move}
use Rattle.em_log.specs.Bodies.{ask_of}
use Rattle.em_log.specs.Expressions.{Env}
use Rattle.em_log.specs.Works.{Exchange, Reached}
use Rattle.em_body.specs.AskLaws.{IsAskOf}
use Rattle.em_body.specs.Everywhere.{everywhere_in}
use Rattle.em_body.specs.Followed.{IsReached}
use Rattle.em_body.specs.Standings.{Made, Left, Outer, Standing, Steps, Ends, Goes, Moves, after_first, settled_by, settled, refused, left_by, unanswered, body_of, error_body_of}
use Rattle.em_body.proofs.PassingBlocks.{Pass, AllPass, AskingPasses, entered-pass, first-pass, does-pass, unasked-passes, does-asking}
use Rattle.em_body.proofs.Settled.{settled-asking, does-error, does-outer, steps-unasked}

-- the statements of the body pass the test p, and those of the error body the test e
module _ (p e : Stmt → Bool) where
  -- the test of the statements in front
  abbrev front : Option Outer → Stmt → Bool
  front None = p
  front (Some o) = e

  abbrev ErrorPasses : Option (List Stmt) → Type 0
  ErrorPasses error = IsTrue (option_map_or (everywhere_in e) error true)

  abbrev OuterPasses : Option Outer → Type 0
  OuterPasses None = Unit {0}
  OuterPasses (Some o) = AllPass p o.left

  record Passes (s : Standing) : Type 0 where
    left : AllPass (front s.outer) s.left
    asking : AskingPasses (front s.outer) s.env s.asking
    error : ErrorPasses s.error
    outer : OuterPasses s.outer

  -- moves

  by-pass : (ls : List Left) (o : Option Outer) (s : Standing) → s.asking ≡ None → OuterPasses o → Passes s → Passes (settled_by ls o s)
  by-pass [] (Some o) s none under passes =
      record { left = under; asking = unasked-passes p _ s.asking none; error = passes.error; outer = tt }
  by-pass [] None s none under passes = passes
  by-pass (l ∷ ls) o s none under passes = passes

  steps-pass : (was : Standing) (m : Move) (now : Standing) → Passes was → Steps was m now → Passes now
  steps-pass was m now passes (Ends none empty is same) = subst Passes (sym same) passes
  steps-pass was m now passes (Goes q none first does) =
      let at : Standing = record was { left = after_first was.left } in
      let next = first-pass (front was.outer) was.left q passes.left first in
      let error = does-error q at m now does in
      let outer = does-outer q at m now does in
      record {
        left = subst (λ o. AllPass (front o) now.left) (sym outer) (does-pass (front was.outer) q at m now next.0 next.1 does);
        asking = subst (λ o. AskingPasses (front o) now.env now.asking) (sym outer) (does-asking (front was.outer) q at m now next.0 none does);
        error = subst ErrorPasses (sym error) passes.error;
        outer = subst OuterPasses (sym outer) passes.outer;
      }

  moves-pass : (f : Made) (was : Standing) (m : Move) (now : Standing) → Passes was → Moves f was m now → Passes now
  moves-pass f was m now passes moves =
      let none : was.asking ≡ None = sym (settled-asking was) ∙ steps-unasked (settled was) m now moves in
      steps-pass (settled was) m now (by-pass was.left was.outer was none passes.outer passes) moves

  -- answers

  refused-pass : (error : Option (List Stmt)) (outer : Option Outer) (q : Stmt) (f : Fault) (s : Standing) → ErrorPasses error → s.outer ≡ outer
      → Passes s → Passes (refused error outer q f s)
  refused-pass (Some body) None q f s fits is passes =
      record {
        left = entered-pass e body 1 [] fits tt;
        asking = tt;
        error = passes.error;
        outer = subst (λ o. AllPass (front o) s.left) is passes.left;
      }
  refused-pass (Some body) (Some o) q f s fits is passes = record { left = passes.left; asking = tt; error = passes.error; outer = passes.outer }
  refused-pass None outer q f s fits is passes = record { left = passes.left; asking = tt; error = passes.error; outer = passes.outer }

  left-pass : (o : Option Stmt) (x : Answer) (s : Standing) → Passes s → Passes (left_by o x s)
  left-pass None x s passes = record { left = passes.left; asking = tt; error = passes.error; outer = passes.outer }
  left-pass (Some q) (Answer.Refused f) s passes = refused-pass s.error s.outer q f s passes.error refl passes
  left-pass (Some q) x s passes = record { left = passes.left; asking = tt; error = passes.error; outer = passes.outer }

  -- each state that a context reaches

  reached-pass : (f : Made) (c : Context) (es : List Exchange) (s : Standing) → Pass p (body_of f.graph c) → ErrorPasses (error_body_of f.graph c)
      → IsReached f c es s → Passes s
  reached-pass f c es s all errors (Reached.Begun _ _ none begins) =
      subst Passes (sym begins) (record { left = entered-pass p (body_of f.graph c) 1 [] all tt; asking = tt; error = errors; outer = tt })
  reached-pass f c es s all errors (Reached.Silent _ was _ before moves) =
      moves-pass f was Move.Silent s (reached-pass f c es was all errors before) moves
  reached-pass f c es s all errors (Reached.Asked _ was _ a before moves) =
      moves-pass f was (Move.Ask a) s (reached-pass f c es was all errors before) moves
  reached-pass f c es s all errors (Reached.Answered _ past was _ a x before some fits leaves is) =
      subst Passes (sym leaves) (left-pass was.asking x was (reached-pass f c past was all errors before))

ask-passes : (p : Stmt → Bool) (v : Env) (o : Option Stmt) (a : Ask) → AskingPasses p v o → option_map (λ q. ask_of q v) o ≡ Some a → IsAskOf p a v
ask-passes p v None a passes is = absurd (cc is)
ask-passes p v (Some s) a passes is =
    let same : a ≡ ask_of s v = cc is in
    record { statement = s; passes = passes.passes; asks = passes.asks; is = same }

-- each ask is that of a statement of the body, or of one of the error body
pub asks-of-both : (p e : Stmt → Bool) (f : Made) (c : Context) (es : List Exchange) (s : Standing) → IsReached f c es s
    → IsTrue (everywhere_in p (body_of f.graph c)) → IsTrue (option_map_or (everywhere_in e) (error_body_of f.graph c) true) → (a : Ask)
    → unanswered s ≡ Some a → IsAskOf p a s.env ⊎ IsAskOf e a s.env
asks-of-both p e f c es s reached all errors a some =
    let passes = reached-pass p e f c es s all errors reached in
    by_body s.outer passes.asking
  where
    by_body : (o : Option Outer) → AskingPasses (front p e o) s.env s.asking → IsAskOf p a s.env ⊎ IsAskOf e a s.env
    by_body None passes = inl (ask-passes p s.env s.asking a passes some)
    by_body (Some o) passes = inr (ask-passes e s.env s.asking a passes some)

pub asks-are : (p : Stmt → Bool) (f : Made) (c : Context) (es : List Exchange) (s : Standing) → IsReached f c es s
    → IsTrue (everywhere_in p (body_of f.graph c)) → IsTrue (option_map_or (everywhere_in p) (error_body_of f.graph c) true) → (a : Ask)
    → unanswered s ≡ Some a → IsAskOf p a s.env
asks-are p f c es s reached all errors a some = by_body (asks-of-both p p f c es s reached all errors a some)
  where
    by_body : IsAskOf p a s.env ⊎ IsAskOf p a s.env → IsAskOf p a s.env
    by_body (inl is) = is
    by_body (inr is) = is
