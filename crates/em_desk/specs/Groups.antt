-- The event groups as the desk keeps them.
use Rattle.std.specs.Prelude.{◌≡◌, List, length}
use Rattle.em_log.specs.declared.declarations.Declarations.{Declarations}
use Rattle.em_log.specs.History.{Past}
use Rattle.em_egroups.specs.declared.group.Group.{Group}
use Rattle.em_egroups.specs.Stands as groups
use Rattle.em_context_parts.specs.EgroupSteps.{egroup_steps}

-- there is one for each declared, and they stand for the steps of the history
pub record GroupsStand (k : Declarations) (v : List Group) (past : Past) : Type 0 where
  pub steps : groups.Stands v (egroup_steps past)
  pub count : length v ≡ k.egroups
