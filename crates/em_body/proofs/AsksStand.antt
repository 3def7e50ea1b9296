-- Each ask of a context of a well-formed graph may stand in it.
use Rattle.std.proofs.Common.{◌≡◌, ◌⊎◌, inl, inr, true, List, Option, Some, None, IsTrue, refl, sym, subst}
use Rattle.std.specs.Option.{option_map_or}
use Rattle.em_log.specs.declared.ask.Ask.{Ask}
use Rattle.em_log.specs.declared.ask.Context.{Context}
use Rattle.em_log.specs.declared.body.Stmt.{Stmt}
use Rattle.em_log.specs.declared.graph.Config.{Config}
use Rattle.em_log.specs.Declarations.{declarations_of}
use Rattle.em_log.specs.Expressions.{Env}
use Rattle.em_log.specs.Lawful.{is_declared, is_placed}
use Rattle.em_log.specs.WellFormed.{Where, IsWellFormed, is_plain, is_error_body}
use Rattle.em_log.specs.Works.{Exchange}
use Rattle.em_body.specs.AskLaws.{IsAskOf, MayStand}
use Rattle.em_body.specs.Everywhere.{everywhere_in}
use Rattle.em_body.specs.Followed.{IsReached}
use Rattle.em_body.specs.Standings.{Made, Standing, unanswered, body_of, error_body_of, entry_of}
use Rattle.em_body.proofs.AsksOfStatements.{asks-of-both}
use Rattle.em_body.proofs.Bodies.{place_of, served-statements, body-statements}
use Rattle.em_body.proofs.ErrorBodies.{IsPlaceIn, MayServe, own-place, error-serves}
use Rattle.em_body.proofs.PlainStatements.{all-plain, ask-declared, ask-placed}

-- an ask of a statement that may stand in a place of the context
stands-there : (g : Config) (w : Where) (c : Context) → IsPlaceIn w c → (a : Ask) (v : Env) → IsAskOf (is_plain g w) a v → MayStand g c v a
stands-there g w c in_context a v by =
    record {
      declared = subst (λ b. IsTrue (is_declared (declarations_of g) b)) (sym by.is) (ask-declared g w by.statement v by.passes by.asks);
      placed = λ atomic held. subst (λ b. IsTrue (is_placed (Some (entry_of c)) atomic b)) (sym by.is)
          (ask-placed g w c in_context by.statement v by.passes by.asks atomic held);
    }

error-plain : (g : Config) (w : Where) (error : Option (List Stmt)) → IsTrue (is_error_body g w error)
    → IsTrue (option_map_or (everywhere_in (is_plain g w)) error true)
error-plain g w None fits = refl
error-plain g w (Some body) fits = all-plain g w 16 body (served-statements g w None body fits)

pub asks-stand : (f : Made) → IsWellFormed f.graph → (c : Context) → (es : List Exchange) (s : Standing) → IsReached f c es s
    → (a : Ask) → unanswered s ≡ Some a → MayStand f.graph c s.env a
asks-stand f well c es s reached a some =
    by_body (asks-of-both (is_plain f.graph (place_of c)) (is_plain f.graph error.place) f c es s reached
    (all-plain f.graph (place_of c) 16 (body_of f.graph c) (body-statements f.graph well c))
    (error-plain f.graph error.place (error_body_of f.graph c) error.fits) a some)
  where
    error : MayServe f.graph c (error_body_of f.graph c)
    error = error-serves f.graph well c

    by_body : IsAskOf (is_plain f.graph (place_of c)) a s.env ⊎ IsAskOf (is_plain f.graph error.place) a s.env → MayStand f.graph c s.env a
    by_body (inl by) = stands-there f.graph (place_of c) c (own-place c) a s.env by
    by_body (inr by) = stands-there f.graph error.place c error.in_context a s.env by
