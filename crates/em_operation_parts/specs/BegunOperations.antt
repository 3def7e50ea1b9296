-- The operations of a history, in the order of their numbers, and what their completions tell.
use Rattle.std.specs.Prelude.{ℕ, ◌≡◌, List, [], ◌∷◌, ◌++◌, length, slice_get, true}
use Rattle.std.specs.List.{flat_map}
use Rattle.em_log.specs.declared.declarations.Declarations.{Declarations}
use Rattle.em_log.specs.declared.entry.What.{What}
use Rattle.em_log.specs.declared.ids.Note.{Note}
use Rattle.em_log.specs.declared.ids.OpId.{OpId}
use Rattle.em_log.specs.History.{Past, entry_by}
use Rattle.em_log.specs.Arrivals.{note_entering}
use Rattle.em_log.specs.Operations.{Operation, operation, operations, notes_of}
use Rattle.em_log.specs.Tails.{note_result, completion}
use Rattle.em_objects.specs.Queues.{closed}
use Rattle.em_objects.specs.Steps.{ObjectStep}
use Rattle.em_operation_parts.specs.ObjectSteps.{object_steps}

abbrev pub begun_after : ℕ → What → List Operation → List Operation
begun_after c (What.Begin op job notes) os = os ++ record { core = c; job = job; notes = notes } ∷ []
begun_after c w os = os

abbrev pub begun_operations : Past → List Operation
begun_operations [] = []
begun_operations (e ∷ past) = begun_after e.core.0 e.what (begun_operations past)

-- what notes give at completion by core d, by the steps of the objects then
abbrev pub results : Declarations → List ObjectStep → Past → ℕ → List Note → List What
results k steps now d notes = flat_map (λ n. note_result k now n (note_entering d n (closed k steps n.queue.0))) notes

pub record BegunAlike (k : Declarations) (past : Past) : Type 0 where
  pub count : length (begun_operations past) ≡ operations past
  pub each : (n : ℕ) → slice_get (begun_operations past) n ≡ operation past n
  -- a completion tells its notes by the operation as it began, and by the queues that are closed once it is done
  pub completion : (d : ℕ) (op : OpId) → completion k past d op
      ≡ What.Done op true
      ∷ results k (object_steps (entry_by d (What.Done op true) ∷ past)) (entry_by d (What.Done op true) ∷ past) d (notes_of (slice_get (begun_operations past) op.0))
