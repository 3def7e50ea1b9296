-- What is true of the fields of the operations.
use Rattle.std.specs.Prelude.{ℕ, ◌≡◌, ◌<◌, ◌≤◌, true, List, length, Option, Some}
use Rattle.em_log.specs.declared.ids.OpId.{OpId}
use Rattle.em_log.specs.Bounds.{core_limit, operation_limit}
use Rattle.em_log.specs.Operations.{op_id}
use Rattle.em_acks.specs.declared.job.Target.{Target}
use Rattle.em_acks.specs.declared.unfinished.Unfinished.{Unfinished}
use Rattle.em_acks.specs.declared.sets.OperationSet.{OperationSet}
use Rattle.em_acks.specs.declared.pending.PendingOperations.{PendingOperations}
use Rattle.em_acks.specs.Sets.{contains, set_at, owes}
use Rattle.em_acks.specs.Slots.{slot_at, has_target}
use Rattle.em_acks.specs.Pending.{pending_at, HasPlaces}

-- what is kept beside the operations tells of them what is so
pub record IsIndexed (cores : ℕ) (slots : List (Option Unfinished)) (sets : List OperationSet) (pending : PendingOperations) : Type 0 where
  -- each has its number
  pub numbered : (n : ℕ) (u : Unfinished) → slot_at slots n ≡ Some u → u.op.0 ≡ n
  -- the set of each core has the operations to which it owes a step
  pub set_count : length sets ≡ cores
  pub owed : (c n : ℕ) → c < cores → contains (set_at sets c) n ≡ owes c (slot_at slots n)
  -- a target has the operation that is not done, and no other
  pub places : HasPlaces pending
  pub told : (n : ℕ) (u : Unfinished) → slot_at slots n ≡ Some u → pending_at pending u.target ≡ Some (op_id n)
  pub found : (t : Target) (op : OpId) → pending_at pending t ≡ Some op → has_target t (slot_at slots op.0) ≡ true

pub record IsWhole (cores : ℕ) (slots : List (Option Unfinished)) (sets : List OperationSet) (pending : PendingOperations) (room : ℕ) : Type 0 where
  pub few_cores : cores ≤ core_limit
  -- there is room for all that may begin
  pub few : length slots ≤ operation_limit
  pub enough : operation_limit ≤ room
  pub indexed : IsIndexed cores slots sets pending
