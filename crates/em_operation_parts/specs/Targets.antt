-- What the parts tell of the target of an operation that is not done.
use Rattle.std.specs.Prelude.{ℕ, ◌≡◌, ◌<◌, Some, None}
use Rattle.em_log.specs.declared.declarations.Declarations.{Declarations}
use Rattle.em_log.specs.declared.entry.Begun.{Begun}
use Rattle.em_log.specs.declared.ids.EoState.{EoState}
use Rattle.em_log.specs.History.{Past}
use Rattle.em_log.specs.Leads.{aims_at_group}
use Rattle.em_log.specs.Operations.{Operation, operation, done, pending}
use Rattle.em_acks.specs.declared.job.Phase.{Phase}
use Rattle.em_acks.specs.Operations.{owed_to}
use Rattle.em_groups.specs.Masks.{change}
use Rattle.em_objects.specs.Queues.{state}
use Rattle.em_operation_parts.specs.AckSteps.{ack_steps}
use Rattle.em_operation_parts.specs.GroupSteps.{group_steps}
use Rattle.em_operation_parts.specs.ObjectSteps.{object_steps}

-- an object that is started is starting, one that is stopped is stopping, and a group is being given the mask of its change
abbrev pub IsUnderWay : Declarations → Past → Begun → Type 0
IsUnderWay k past (Begun.Start x) = state k (object_steps past) x.0 ≡ EoState.Starting
IsUnderWay k past (Begun.Stop x) = state k (object_steps past) x.0 ≡ EoState.Stopping
IsUnderWay k past (Begun.Modify g m) = change (group_steps past) g.0 ≡ Some m

pub record TargetsAlike (k : Declarations) (past : Past) : Type 0 where
  pub under_way : (n : ℕ) (o : Operation) → operation past n ≡ Some o → done past n ≡ None → IsUnderWay k past o.job
  -- a group of which no change is pending is being given no mask
  pub unchanged : (g : ℕ) → pending past (aims_at_group g) ≡ None → change (group_steps past) g ≡ None
  -- an operation that is owed a step is not done
  pub undone : (c n : ℕ) (p : Phase) → c < k.cores → owed_to k.cores (ack_steps past) c n ≡ Some p → done past n ≡ None
