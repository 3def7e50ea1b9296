-- The error body that serves a context of a runnable graph runs.
use Rattle.std.proofs.Common.{ℕ, zero, suc, List, [], ◌∷◌, Option, Some, None, refl, IsTrue, slice_get}
use Rattle.std.proofs.lemmas.Bool.{and_parts}
use Rattle.std.specs.List.{list_all}
use Rattle.std.specs.Option.{option_or, option_and_then}
use Rattle.em_log.specs.declared.ask.Context.{Context}
use Rattle.em_log.specs.declared.body.Stmt.{Stmt}
use Rattle.em_log.specs.declared.graph.Config.{Config}
use Rattle.em_log.specs.declared.graph.EoDecl.{EoDecl}
use Rattle.em_body.specs.Standings.{error_body_of, object_of}
use Rattle.em_drive.specs.Runnable.{is_runnable, is_runnable_error}
use Rattle.em_drive.proofs.RunnableParts.{runnable-parts, runnable-objects}

got-error : (ds : List EoDecl) (n : ℕ) → IsTrue (list_all (λ d. is_runnable_error d.error) ds)
    → IsTrue (is_runnable_error (option_and_then (λ (d : EoDecl). d.error) (slice_get ds n)))
got-error [] n all = refl
got-error (d ∷ ds) zero all = (and_parts (is_runnable_error d.error) (list_all (λ (e : EoDecl). is_runnable_error e.error) ds) all).0
got-error (d ∷ ds) (suc n) all =
    got-error ds n (and_parts (is_runnable_error d.error) (list_all (λ (e : EoDecl). is_runnable_error e.error) ds) all).1

object-error : (ds : List EoDecl) (o : Option ℕ) → IsTrue (list_all (λ d. is_runnable_error d.error) ds)
    → IsTrue (is_runnable_error (option_and_then (λ (d : EoDecl). d.error) (option_and_then (slice_get ds) o)))
object-error ds None all = refl
object-error ds (Some n) all = got-error ds n all

else-error : (own global : Option (List Stmt)) → IsTrue (is_runnable_error own) → IsTrue (is_runnable_error global)
    → IsTrue (is_runnable_error (option_or own global))
else-error None global own all = all
else-error (Some body) global own all = own

pub runnable-error : (g : Config) → IsTrue (is_runnable g) → (context : Context) → IsTrue (is_runnable_error (error_body_of g context))
runnable-error g h context =
    else-error (option_and_then (λ (d : EoDecl). d.error) (option_and_then (slice_get g.eos) (object_of context))) g.error
    (object-error g.eos (object_of context) (runnable-objects g h)) (runnable-parts g h).error
