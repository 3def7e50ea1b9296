-- What the steps of queue groups tell as the history does.
use Rattle.std.specs.Prelude.{ℕ, ◌≡◌}
use Rattle.em_log.specs.declared.declarations.Declarations.{Declarations}
use Rattle.em_log.specs.History.{Past}
use Rattle.em_log.specs.Eligible.{is_in_group}
use Rattle.em_log.specs.States as log
use Rattle.em_groups.specs.Masks as part
use Rattle.em_operation_parts.specs.GroupSteps.{group_steps}
use Rattle.em_operation_parts.specs.Queues.{in_group}

pub record GroupsAlike (k : Declarations) (past : Past) : Type 0 where
  -- the mask that each group has, the one that it is being given, and the one in force
  pub mask : (g : ℕ) → part.mask k (group_steps past) g ≡ log.mask k past g
  pub change : (g : ℕ) → part.change (group_steps past) g ≡ log.change past g
  pub effective : (g : ℕ) → part.effective k (group_steps past) g ≡ log.effective k past g
  -- whether a core is in the mask in force of a queue's group
  pub in_group : (c q : ℕ) → in_group k (group_steps past) c q ≡ is_in_group k past c q
