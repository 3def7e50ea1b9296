-- The error body that serves a context of a well-formed graph.
use Rattle.std.proofs.Common.{◌≡◌, ℕ, List, Option, Some, None, refl, IsTrue}
use Rattle.std.specs.Prelude.{not, slice_get}
use Rattle.std.specs.Option.{option_and_then, option_or}
use Rattle.em_log.specs.declared.ask.Context.{Context}
use Rattle.em_log.specs.declared.body.Stmt.{Stmt}
use Rattle.em_log.specs.declared.graph.Config.{Config}
use Rattle.em_log.specs.declared.graph.EoDecl.{EoDecl}
use Rattle.em_log.specs.Contexts.{is_boot}
use Rattle.em_log.specs.Lawful.{is_boot_or_receive, is_global_start}
use Rattle.em_log.specs.WellFormed.{Where, GlobalError, OtherOfObject, is_error_body, are_bodies, may_begin, may_fail, is_of_object, IsWellFormed}
use Rattle.em_body.specs.Runs.{IsErrorBody}
use Rattle.em_body.specs.Standings.{entry_of, error_body_of}
use Rattle.em_body.proofs.Bodies.{place_of, all-get, object-served, served-statements}

-- what may stand in this place may stand in this context
pub record IsPlaceIn (w : Where) (c : Context) : Type 0 where
  pub of_object : IsTrue (is_of_object w) → IsTrue (not (is_boot (Some (entry_of c))))
  pub begins : IsTrue (may_begin w) → IsTrue (is_boot_or_receive (Some (entry_of c)))
  pub fails : IsTrue (may_fail w) → IsTrue (is_global_start (Some (entry_of c)))

pub own-place : (c : Context) → IsPlaceIn (place_of c) c
own-place Context.Boot = record { of_object = λ h. absurd (cc h); begins = λ h. refl; fails = λ h. absurd (cc h) }
own-place (Context.Receive r) = record { of_object = λ h. refl; begins = λ h. refl; fails = λ h. absurd (cc h) }
own-place (Context.GlobalStart op x) = record { of_object = λ h. refl; begins = λ h. absurd (cc h); fails = λ h. refl }
own-place (Context.LocalStart op x) = record { of_object = λ h. refl; begins = λ h. absurd (cc h); fails = λ h. absurd (cc h) }
own-place (Context.LocalStop op x) = record { of_object = λ h. refl; begins = λ h. absurd (cc h); fails = λ h. absurd (cc h) }
own-place (Context.GlobalStop op x) = record { of_object = λ h. refl; begins = λ h. absurd (cc h); fails = λ h. absurd (cc h) }

global-place : (c : Context) → IsPlaceIn GlobalError c
global-place c = record { of_object = λ h. absurd (cc h); begins = λ h. absurd (cc h); fails = λ h. absurd (cc h) }

object-place : (c : Context) → IsTrue (not (is_boot (Some (entry_of c)))) → IsPlaceIn OtherOfObject c
object-place c of = record { of_object = λ h. of; begins = λ h. absurd (cc h); fails = λ h. absurd (cc h) }

-- an error body that may serve this context: it stands in a place whose statements may stand there
pub record MayServe (g : Config) (c : Context) (error : Option (List Stmt)) : Type 0 where
  pub place : Where
  pub in_context : IsPlaceIn place c
  pub fits : IsTrue (is_error_body g place error)

global-serves : (g : Config) → IsWellFormed g → (c : Context) → MayServe g c g.error
global-serves g well c = record { place = GlobalError; in_context = global-place c; fits = well.error }

own-serves : (g : Config) → IsWellFormed g → (c : Context) → IsTrue (not (is_boot (Some (entry_of c)))) → (own : Option (List Stmt))
    → IsTrue (is_error_body g OtherOfObject own) → MayServe g c (option_or own g.error)
own-serves g well c of None fits = global-serves g well c
own-serves g well c of (Some body) fits = record { place = OtherOfObject; in_context = object-place c of; fits = fits }

declared-serves : (g : Config) → IsWellFormed g → (i : ℕ) (c : Context) → IsTrue (not (is_boot (Some (entry_of c)))) → (o : Option EoDecl)
    → slice_get g.eos i ≡ o → MayServe g c (option_or (option_and_then (λ d. d.error) o) g.error)
declared-serves g well i c of None is = global-serves g well c
declared-serves g well i c of (Some d) is =
    own-serves g well c of d.error (object-served g d (all-get (are_bodies g) g.eos i d well.eos is)).own

pub error-serves : (g : Config) → IsWellFormed g → (c : Context) → MayServe g c (error_body_of g c)
error-serves g well Context.Boot = global-serves g well Context.Boot
error-serves g well (Context.Receive r) = declared-serves g well r.eo.0 (Context.Receive r) refl _ refl
error-serves g well (Context.GlobalStart op x) = declared-serves g well x.0 (Context.GlobalStart op x) refl _ refl
error-serves g well (Context.LocalStart op x) = declared-serves g well x.0 (Context.LocalStart op x) refl _ refl
error-serves g well (Context.LocalStop op x) = declared-serves g well x.0 (Context.LocalStop op x) refl _ refl
error-serves g well (Context.GlobalStop op x) = declared-serves g well x.0 (Context.GlobalStop op x) refl _ refl

-- its statements
statements : (g : Config) (w : Where) (error : Option (List Stmt)) → IsTrue (is_error_body g w error) → IsErrorBody g error
statements g w None fits = tt
statements g w (Some body) fits = (w, served-statements g w None body fits)

pub error-statements : (g : Config) → IsWellFormed g → (c : Context) → IsErrorBody g (error_body_of g c)
error-statements g well c = let e = error-serves g well c in statements g e.place (error_body_of g c) e.fits
