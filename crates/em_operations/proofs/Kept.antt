-- Entries that leave the operations as they are, and what the operations are at first.
use Rattle.std.proofs.Common.{◌≡◌, ℕ, Bool, true, false, ◌&&◌, ◌∷◌, Some, None, Result, Ok, Err, MatchResult, refl, sym, ◌∙◌}
use Rattle.std.specs.Result.{result_err}
use Rattle.em_log.specs.declared.declarations.Declarations.{Declarations}
use Rattle.em_log.specs.declared.entry.What.{What}
use Rattle.em_log.specs.declared.fault.Fault.{Fault}
use Rattle.em_log.specs.declared.ids.Limits.{Limits}
use Rattle.em_log.specs.declared.ids.QueueId.{QueueId}
use Rattle.em_log.specs.History.{Past, entry_by}
use Rattle.em_log.specs.Eligible.{runs, is_in_group}
use Rattle.em_log.specs.Lawful.{AllAllowed}
use Rattle.em_log.specs.States.{flag}
use Rattle.em_log.specs.Leads.{closed_fault}
use Rattle.em_objects.specs.Queues.{delivers}
use Rattle.em_objects.specs.Queues as part
use Rattle.em_objects.specs.State.{ObjectsState, shape}
use Rattle.em_objects.specs.Stands as objects
use Rattle.em_objects.specs.Steps.{Flagged}
use Rattle.em_operation_parts.specs.AckSteps.{ack_steps}
use Rattle.em_operation_parts.specs.BegunOperations.{begun_operations}
use Rattle.em_operation_parts.specs.GroupSteps.{group_steps}
use Rattle.em_operation_parts.specs.ObjectSteps.{object_steps}
use Rattle.em_operation_parts.specs.Queues.{in_group}
use Rattle.em_operation_parts.proofs.GroupMasks.{groups-alike}
use Rattle.em_operation_parts.proofs.ObjectStates.{objects-alike}
use Rattle.em_operations.specs.declared.operations.Operations.{Operations}
use Rattle.em_operations.specs.declared.queue_sets.QueueSets.{QueueSets}
use Rattle.em_operations.specs.Operations.{OperationsStand, flag_entry, may_take, touches}
use Rattle.em_operations.specs.QueueSets.{SetsStand}
use Rattle.em_operations.proofs.MovedTargets.{with-objects}

pub operations-kept : (k : Declarations) (v : Operations) (past : Past) (c : ℕ) (w : What) → touches w ≡ false → OperationsStand k v past → OperationsStand k v (entry_by c w ∷ past)
operations-kept k v past c (What.Enable q) untouched st = absurd cc
operations-kept k v past c (What.Disable q) untouched st = absurd cc
operations-kept k v past c (What.Begin op job notes) untouched st = absurd cc
operations-kept k v past c (What.GlobalDone op ok) untouched st = absurd cc
operations-kept k v past c (What.Ack op) untouched st = absurd cc
operations-kept k v past c (What.Done op ok) untouched st = absurd cc
operations-kept k v past c w untouched st = st

-- a core may take from the queues of its set
pub may-take : (k : Declarations) (l : Limits) (past : Past) (c q : ℕ) → AllAllowed k l past
    → (delivers k (object_steps past) q && in_group k (group_steps past) c q) ≡ may_take k past c q
may-take k l past c q all =
    (λ i. (objects-alike k past).delivers q i && (groups-alike k l past all).in_group c q i) ∙ grouped (runs k past q) (flag past q) (is_in_group k past c q)
  where
    grouped : (a b d : Bool) → ((a && b) && d) ≡ (a && b && d)
    grouped true b d = refl
    grouped false b d = refl

-- why a queue is closed
pub closed-is : {A : Type 0} (k : Declarations) (past : Past) (q : ℕ) (r : Result A Fault)
    → MatchResult r (λ _. part.closed_fault k (object_steps past) q ≡ None) (λ f. part.closed_fault k (object_steps past) q ≡ Some f) → result_err r ≡ closed_fault k past q
closed-is k past q (Ok x) is = sym is ∙ (objects-alike k past).closed_fault q
closed-is k past q (Err f) is = sym is ∙ (objects-alike k past).closed_fault q

-- a queue is enabled or disabled
pub flagged : (k : Declarations) (v : Operations) (past : Past) (c : ℕ) (q : QueueId) (on : Bool) (o : ObjectsState) (s : QueueSets) → OperationsStand k v past
    → objects.Stands k o (Flagged q.0 on ∷ object_steps past) → shape o ≡ shape v.objects → SetsStand k s (Flagged q.0 on ∷ object_steps past) (group_steps past)
    → OperationsStand k (record v { objects = o; queues = s }) (entry_by c (flag_entry q on) ∷ past)
flagged k v past c q true o s st stands same sets =
    with-objects k v (object_steps past) (group_steps past) (ack_steps past) (begun_operations past) o s (Flagged q.0 true ∷ object_steps past) st stands same sets
flagged k v past c q false o s st stands same sets =
    with-objects k v (object_steps past) (group_steps past) (ack_steps past) (begun_operations past) o s (Flagged q.0 false ∷ object_steps past) st stands same sets
