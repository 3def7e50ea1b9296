-- Where nothing is due, the operations that are pending by their steps are those that are pending by the history.
use Rattle.std.proofs.Common.{◌≡◌, ℕ, not, ◌&&◌, List, [], ◌∷◌, Option, Some, None, if◌then◌else◌, refl, ◌∙◌, ap}
use Rattle.std.specs.Option.{option_map, option_or}
use Rattle.em_log.specs.declared.declarations.Declarations.{Declarations}
use Rattle.em_log.specs.declared.entry.Begun.{Begun}
use Rattle.em_log.specs.declared.fault.Fault.{Fault}
use Rattle.em_log.specs.declared.ids.Limits.{Limits}
use Rattle.em_log.specs.History.{Past}
use Rattle.em_log.specs.Declarations.{below}
use Rattle.em_log.specs.Lawful.{Lawful}
use Rattle.em_log.specs.Leads.{pending_fault, operations_fault}
use Rattle.em_log.specs.Operations.{Operation, op_id}
use Rattle.em_log.specs.Operations as log
use Rattle.em_acks.specs.declared.job.Target.{Target}
use Rattle.em_acks.specs.Operations.{is_of, is_target, first_pending, pending, begin_fault, begin_fault_by}
use Rattle.em_operation_parts.specs.AckSteps.{target_of, aims_at, operation_of, ack_steps}
use Rattle.em_operation_parts.specs.OperationsAlike.{PendingAlike}
use Rattle.em_operation_parts.proofs.OperationSteps.{same-operations, same-operation}
use Rattle.em_operation_parts.proofs.DoneOperations.{same-told}
use Rattle.em_operation_parts.proofs.IdleCores.{same-all_done}

-- the pending operation of a target

same-aim : (t : Target) (o : Option Operation) → is_of t (option_map operation_of o) ≡ log.is_aim (aims_at t) o
same-aim t None = refl
same-aim (Target.Eo x) (Some o) = by_job o.job
  where
    by_job : (j : Begun) → is_target (Target.Eo x) (target_of j) ≡ aims_at (Target.Eo x) j
    by_job (Begun.Start y) = refl
    by_job (Begun.Stop y) = refl
    by_job (Begun.Modify h m) = refl
same-aim (Target.Group g) (Some o) = by_job o.job
  where
    by_job : (j : Begun) → is_target (Target.Group g) (target_of j) ≡ aims_at (Target.Group g) j
    by_job (Begun.Start y) = refl
    by_job (Begun.Stop y) = refl
    by_job (Begun.Modify h m) = refl

module _ (k : Declarations) (l : Limits) (past : Past) (lawful : Lawful k l past) where
  first-same : (t : Target) (ns : List ℕ) → first_pending k.cores (ack_steps past) t ns ≡ log.first_pending past (aims_at t) ns
  first-same t [] = refl
  first-same t (n ∷ ns) = (λ i.
      if not (same-told k l past lawful n i) && (ap (is_of t) (same-operation k l past lawful.each n) ∙ same-aim t (log.operation past n)) i
      then Some n
      else first-same t ns i)

  pub same-pending : (t : Target) → pending k.cores (ack_steps past) t ≡ log.pending past (aims_at t)
  same-pending t =
      ap (λ m. first_pending k.cores (ack_steps past) t (below m)) (same-operations past) ∙ first-same t (below (log.operations past))

  pub same-begin_fault : (t : Target) → begin_fault k.cores (ack_steps past) t ≡ option_or (pending_fault past (aims_at t)) (operations_fault past)
  same-begin_fault t =
      (λ i. begin_fault_by (same-operations past i) (option_map op_id (same-pending t i))) ∙ by_pending (log.pending past (aims_at t))
    where
      by_pending : (o : Option ℕ) → begin_fault_by (log.operations past) (option_map op_id o)
          ≡ option_or (option_map (λ n. Fault.OpPending (op_id n)) o) (operations_fault past)
      by_pending None = refl
      by_pending (Some n) = refl

pub pending-alike : (k : Declarations) (l : Limits) (past : Past) → Lawful k l past → PendingAlike k past
pending-alike k l past lawful = record {
  done = same-told k l past lawful;
  pending = same-pending k l past lawful;
  begin_fault = same-begin_fault k l past lawful;
  all_done = same-all_done k l past lawful;
}
