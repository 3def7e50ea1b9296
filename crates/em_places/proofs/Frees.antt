-- The free events by the steps of the pools are those of the history.
use Rattle.std.proofs.Common.{◌≡◌, ℕ, Bool, true, false, ◌&&◌, List, Option, Some, None, refl, sym, ◌∙◌, ap, if◌then◌else◌}
use Rattle.em_log.specs.declared.declarations.Declarations.{Declarations}
use Rattle.em_log.specs.declared.entry.What.{What}
use Rattle.em_log.specs.declared.ids.Limits.{Limits}
use Rattle.em_log.specs.declared.ids.Note.{Note}
use Rattle.em_log.specs.History.{Past}
use Rattle.em_log.specs.Declarations.{kind_of, is_output}
use Rattle.em_log.specs.Handles.{spending}
use Rattle.em_log.specs.Operations.{done}
use Rattle.em_log.specs.Places as log
use Rattle.em_log.specs.Lawful.{AllAllowed}
use Rattle.em_moments.proofs.Asked.{and-true}
use Rattle.em_pool.specs.declared.place.Place.{Place}
use Rattle.em_pool.specs.Places as pool
use Rattle.em_laws.specs.Minted.{HasSmallIndices}
use Rattle.em_parts.specs.PoolSteps.{pool_steps}
use Rattle.em_pool.specs.Spots.{spot}
use Rattle.em_places.specs.Parked.{completed_free, noted_free, free_after}
use Rattle.em_places.proofs.Parked.{free-is-free}
use Rattle.em_places.proofs.FreeIndices.{FreeAt, Never, Again, free-at}

out-free : (k : Declarations) (past : Past) (h q : ℕ) (p : log.Place) → (log.has_entered k past h q && is_output (kind_of k q)) ≡ true
    → log.is_free (if log.has_entered k past h q then log.entered_place k past h q else p) ≡ true
out-free k past h q p free =
    let b = and-true (log.has_entered k past h q) (is_output (kind_of k q)) free in
    let out : log.is_free (log.entered_place k past h q) ≡ true = rw b.1 refl in
    rw b.0 out

completed-is : (k : Declarations) (past : Past) (h : ℕ) (o : Option ℕ) → completed_free k past h o ≡ true → log.is_free (log.completed_place k past h o) ≡ true
completed-is k past h None free = absurd cc
completed-is k past h (Some q) free = out-free k past h q log.Lost free

noted-is : (k : Declarations) (past : Past) (h : ℕ) (notes : List Note) (o : Option Bool) → noted_free k past h notes o ≡ true → log.is_free (log.noted_place k past h notes o) ≡ true
noted-is k past h notes None free = absurd cc
noted-is k past h notes (Some true) free = completed-is k past h (log.note_queue h notes) free
noted-is k past h notes (Some false) free = refl

after-is : (k : Declarations) (past : Past) (h : ℕ) (before : Past) (d : ℕ) (w : What) → free_after k past h w ≡ true → log.is_free (log.place_after k past h before d w) ≡ true
after-is k past h before d (What.Free f) free = refl
after-is k past h before d (What.Send f q t s) free = out-free k past h q.0 (log.Delayed q.0) free
after-is k past h before d (What.Begin op job notes) free = noted-is k past h notes (done past op.0) free
after-is k past h before d (What.Apply g a n notes) free = noted-is k past h notes (log.application_end past g.0 a) free
after-is k past h before d w free = absurd cc

free-at-free : (k : Declarations) (past : Past) (i : ℕ) → FreeAt k past i → log.is_free (log.place k past i) ≡ true
free-at-free k past i (Never none) = ap (λ o. log.is_free (log.place_by k past o)) none
free-at-free k past i (Again h m s last minted spent free) =
    ap (λ o. log.is_free (log.place_by k past o)) last
    ∙ (ap (λ o. log.is_free (log.place_of k past h o (spending past h))) minted
    ∙ (ap (λ o. log.is_free (log.place_of k past h (Some m) o)) spent ∙ after-is k past h s.before s.core s.what free))

spot-free : (p : Place) → pool.is_free p ≡ true → p ≡ Place.Free
spot-free Place.Free is = refl
spot-free p is = absurd cc

-- an event is free by the steps exactly where it is free by the history
pub frees-alike : (k : Declarations) (l : Limits) (past : Past) → HasSmallIndices k → AllAllowed k l past → (i : ℕ) → pool.is_free (spot (pool_steps k past) i) ≡ log.is_free (log.place k past i)
frees-alike k l past small all i = by_spot (pool.is_free (spot (pool_steps k past) i)) refl (log.is_free (log.place k past i)) refl
  where
    by_spot : (a : Bool) → pool.is_free (spot (pool_steps k past) i) ≡ a → (b : Bool) → log.is_free (log.place k past i) ≡ b → pool.is_free (spot (pool_steps k past) i) ≡ log.is_free (log.place k past i)
    by_spot true a b e =
        let is = spot-free (spot (pool_steps k past) i) a in a ∙ sym (free-at-free k past i (free-at k l past i small all is))
    by_spot false a true e =
        let is = free-is-free k l past small all i e in
        let on : pool.is_free (spot (pool_steps k past) i) ≡ true = ap pool.is_free is in absurd (cc (on, a))
    by_spot false a false e = a ∙ sym e
