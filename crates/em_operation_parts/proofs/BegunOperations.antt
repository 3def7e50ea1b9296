-- The operations of a history, in the order of their numbers.
use Rattle.std.proofs.Common.{◌≡◌, ◌⊎◌, inl, inr, ℕ, ◌+◌, ◌<◌, ◌≤◌, ◌==◌, true, List, [], ◌∷◌, ◌++◌, length, Some, if◌then◌else◌, refl, sym, ◌∙◌, ap, arith}
use Rattle.std.specs.List.{slice_get}
use Rattle.std.proofs.lemmas.Bool.{cases_lt}
use Rattle.std.proofs.lemmas.List.{length-append}
use Rattle.std.proofs.lemmas.Option.{slice_get_past, slice_get-get_or}
use Rattle.std.proofs.Math.ListN.{get_or-append}
use Rattle.std.proofs.Math.Seq.{get_or-append_seam}
use Rattle.em_log.specs.declared.declarations.Declarations.{Declarations}
use Rattle.em_log.specs.declared.entry.What.{What}
use Rattle.em_log.specs.declared.ids.Limits.{Limits}
use Rattle.em_log.specs.declared.ids.Note.{Note}
use Rattle.em_log.specs.declared.ids.OpId.{OpId}
use Rattle.em_log.specs.History.{Past, entry_by}
use Rattle.em_log.specs.Arrivals.{note_entering}
use Rattle.em_log.specs.Lawful.{AllAllowed}
use Rattle.em_log.specs.Operations.{Operation, operation, operations, one_more_begun, notes_of}
use Rattle.em_log.specs.Tails.{note_result, note_results, completion}
use Rattle.em_moments.proofs.Moments.{Moment, allowed-moment}
use Rattle.em_laws.proofs.Cores.{Compared, Same, Other, compared}
use Rattle.em_operation_parts.specs.BegunOperations.{begun_after, begun_operations, results, BegunAlike}
use Rattle.em_operation_parts.specs.ObjectSteps.{object_steps}
use Rattle.em_operation_parts.proofs.ObjectStates.{same-closed}

-- one more operation

count-after : (c : ℕ) (w : What) (os : List Operation) → length (begun_after c w os) ≡ one_more_begun w (length os)
count-after c (What.Begin op job notes) os = length-append os (record { core = c; job = job; notes = notes } ∷ []) ∙ omega arith
count-after c w os = refl

same-count : (past : Past) → length (begun_operations past) ≡ operations past
same-count [] = refl
same-count (e ∷ past) = count-after e.core.0 e.what (begun_operations past) ∙ ap (one_more_begun e.what) (same-count past)

-- the last of a list is under its length, and all others under their numbers
get-pushed : (os : List Operation) (o : Operation) (n : ℕ) → slice_get (os ++ o ∷ []) n ≡ (if length os == n then Some o else slice_get os n)
get-pushed os o n = by_number (compared (length os) n)
  where
    long : length (os ++ o ∷ []) ≡ length os + 1
    long = length-append os (o ∷ [])

    by_number : Compared (length os) n → slice_get (os ++ o ∷ []) n ≡ (if length os == n then Some o else slice_get os n)
    by_number (Same t e) =
        ap (slice_get (os ++ o ∷ [])) (sym e)
        ∙ (slice_get-get_or (os ++ o ∷ []) (length os) o (omega (arith, long)) ∙ (ap Some (get_or-append_seam os o [] o) ∙ sym (rw t refl)))
    by_number (Other f e) = by_place (cases_lt n (length os)) ∙ sym (rw f refl)
      where
        by_place : (n < length os) ⊎ (length os ≤ n) → slice_get (os ++ o ∷ []) n ≡ slice_get os n
        by_place (inl lt) =
            slice_get-get_or (os ++ o ∷ []) n o (omega (arith, long, lt))
            ∙ (ap Some (get_or-append os (o ∷ []) o n lt) ∙ sym (slice_get-get_or os n o lt))
        by_place (inr ge) = slice_get_past (os ++ o ∷ []) n (omega (arith, long, ge, e)) ∙ sym (slice_get_past os n ge)

each-after : (k : Declarations) (l : Limits) (past : Past) (c : ℕ) (w : What) (n : ℕ) → Moment k l past c w → slice_get (begun_operations past) n ≡ operation past n
    → slice_get (begun_after c w (begun_operations past)) n ≡ operation (entry_by c w ∷ past) n
each-after k l past c (What.Begin op job notes) n m older =
    let number : length (begun_operations past) ≡ op.0 = same-count past ∙ ap (λ (i : OpId). i.0) (sym m.number) in
    get-pushed (begun_operations past) (record { core = c; job = job; notes = notes }) n
    ∙ (λ i. if number i == n then Some (record { core = c; job = job; notes = notes }) else older i)
each-after k l past c w n m older = older

same-each : (k : Declarations) (l : Limits) (past : Past) → AllAllowed k l past → (n : ℕ) → slice_get (begun_operations past) n ≡ operation past n
same-each k l [] all n = refl
same-each k l (e ∷ past) all n = each-after k l past e.core.0 e.what n (allowed-moment k l past e all.1 all.0) (same-each k l past all.1 n)

-- completions

same-results : (k : Declarations) (now : Past) (d : ℕ) (notes : List Note) → note_results k now d notes ≡ results k (object_steps now) now d notes
same-results k now d [] = refl
same-results k now d (n ∷ notes) =
    (λ i. note_result k now n (note_entering d n (sym (same-closed k now n.queue.0) i)) ++ same-results k now d notes i)

same-completion : (k : Declarations) (l : Limits) (past : Past) → AllAllowed k l past → (d : ℕ) (op : OpId) → completion k past d op
    ≡ What.Done op true
    ∷ results k (object_steps (entry_by d (What.Done op true) ∷ past)) (entry_by d (What.Done op true) ∷ past) d (notes_of (slice_get (begun_operations past) op.0))
same-completion k l past all d op =
    let now : Past = entry_by d (What.Done op true) ∷ past in
    ap (λ ws. What.Done op true ∷ ws)
    (ap (λ o. note_results k now d (notes_of o)) (sym (same-each k l past all op.0)) ∙ same-results k now d (notes_of (slice_get (begun_operations past) op.0)))

pub begun-alike : (k : Declarations) (l : Limits) (past : Past) → AllAllowed k l past → BegunAlike k past
begun-alike k l past all = record { count = same-count past; each = same-each k l past all; completion = same-completion k l past all }
