-- Which ask each move of a body leaves unanswered.
use Rattle.std.proofs.Common.{◌≡◌, List, Option, Some, None, IsTrue, refl, sym, ap, ◌∙◌, subst}
use Rattle.std.specs.Option.{option_map}
use Rattle.em_log.specs.declared.ask.Answer.{Answer}
use Rattle.em_log.specs.declared.ask.Context.{Context}
use Rattle.em_log.specs.declared.body.Stmt.{Stmt}
use Rattle.em_log.specs.declared.fault.Fault.{Fault}
use Rattle.em_log.specs.declared.work.Move.{Move}
use Rattle.em_log.specs.Bodies.{ask_of}
use Rattle.em_log.specs.Expressions.{Env}
use Rattle.em_log.specs.Works.{asked, asks_no_end}
use Rattle.em_body.specs.Standings.{Made, Outer, Standing, Does, Sets, Branches, Repeats, Writes, Asks, Steps, Ends, Goes, Moves, settled, refused, left_by, Begins, Leaves, unanswered}

pub begins-unasked : (f : Made) (c : Context) (s : Standing) → Begins f c s → unanswered s ≡ None
begins-unasked f c s is = ap unanswered is

refused-unasked : (error : Option (List Stmt)) (outer : Option Outer) (q : Stmt) (f : Fault) (s : Standing) → unanswered (refused error outer q f s) ≡ None
refused-unasked (Some body) None q f s = refl
refused-unasked (Some body) (Some o) q f s = refl
refused-unasked None outer q f s = refl

left-unasked : (o : Option Stmt) (x : Answer) (s : Standing) → unanswered (left_by o x s) ≡ None
left-unasked None x s = refl
left-unasked (Some q) (Answer.Refused f) s = refused-unasked s.error s.outer q f s
left-unasked (Some q) x s = refl

pub leaves-unasked : (f : Made) (s : Standing) (x : Answer) (t : Standing) → Leaves f s x t → unanswered t ≡ None
leaves-unasked f s x t is = ap unanswered is ∙ left-unasked s.asking x s

-- a move that changes the environment and the blocks alone
silent-asked : (was now : Standing) (m : Move) (v : Env) → was.asking ≡ None → m ≡ Move.Silent
    → unanswered now ≡ option_map (λ q. ask_of q v) was.asking → unanswered now ≡ asked m
silent-asked was now m v none silent is = is ∙ ap (λ o. option_map (λ q. ask_of q v) o) none ∙ sym (ap asked silent)

does-asked : (s : Stmt) (was : Standing) (m : Move) (now : Standing) → was.asking ≡ None → Does s was m now → unanswered now ≡ asked m
does-asked s was m now none (Sets i e is silent new) = silent-asked was now m _ none silent (ap unanswered new)
does-asked s was m now none (Branches t first second has_else is silent new) = silent-asked was now m _ none silent (ap unanswered new)
does-asked s was m now none (Repeats n block is silent new) = silent-asked was now m _ none silent (ap unanswered new)
does-asked s was m now none (Writes c e cells is some silent new) = silent-asked was now m _ none silent (ap unanswered new)
does-asked s was m now none (Asks does is new) = ap unanswered new ∙ sym (ap asked is)

steps-asked : (s : Standing) (m : Move) (t : Standing) → Steps s m t → unanswered t ≡ asked m
steps-asked s m t (Ends none empty is same) =
    ap unanswered same ∙ ap (λ o. option_map (λ q. ask_of q s.env) o) none ∙ sym (ap asked is)
steps-asked s m t (Goes q none first does) = does-asked q _ m t none does

pub moves-asked : (f : Made) (s : Standing) (m : Move) (t : Standing) → Moves f s m t → unanswered t ≡ asked m
moves-asked f s m t moves = steps-asked (settled s) m t moves

ask-no_end : (s : Stmt) (v : Env) → IsTrue (asks_no_end (Move.Ask (ask_of s v)))
ask-no_end (Stmt.Say e) v = refl
ask-no_end s v = refl

does-no_end : (s : Stmt) (was : Standing) (m : Move) (now : Standing) → Does s was m now → IsTrue (asks_no_end m)
does-no_end s was m now (Sets i e is silent new) = subst (λ n. IsTrue (asks_no_end n)) (sym silent) refl
does-no_end s was m now (Branches t first second has_else is silent new) = subst (λ n. IsTrue (asks_no_end n)) (sym silent) refl
does-no_end s was m now (Repeats n block is silent new) = subst (λ n. IsTrue (asks_no_end n)) (sym silent) refl
does-no_end s was m now (Writes c e cells is some silent new) = subst (λ n. IsTrue (asks_no_end n)) (sym silent) refl
does-no_end s was m now (Asks does is new) = subst (λ n. IsTrue (asks_no_end n)) (sym is) (ask-no_end s was.env)

steps-no_end : (s : Standing) (m : Move) (t : Standing) → Steps s m t → IsTrue (asks_no_end m)
steps-no_end s m t (Ends none empty is same) = subst (λ n. IsTrue (asks_no_end n)) (sym is) refl
steps-no_end s m t (Goes q none first does) = does-no_end q _ m t does

pub moves-no_end : (f : Made) (s : Standing) (m : Move) (t : Standing) → Moves f s m t → IsTrue (asks_no_end m)
moves-no_end f s m t moves = steps-no_end (settled s) m t moves
