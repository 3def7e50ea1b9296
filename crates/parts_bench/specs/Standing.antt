-- Parts that stand for some steps, so that what their calls ask for is known.
use Rattle.std.specs.Prelude.{ℕ, ◌≡◌, ◌≤◌, [], ◌∷◌, List, None}
use Rattle.em_log.specs.declared.declarations.Declarations.{Declarations}
use Rattle.em_groups.specs.State.{GroupState}
use Rattle.em_groups.specs.Steps.{GroupStep}
use Rattle.em_groups.specs.Masks.{change}
use Rattle.em_groups.specs.Stands as groups
use Rattle.em_egroups.specs.declared.group.Group.{Group}
use Rattle.em_egroups.specs.Steps.{EgroupStep, Applied}
use Rattle.em_egroups.specs.Applications.{applications}
use Rattle.em_egroups.specs.Stands as egroups
use Rattle.em_acks.specs.State.{AckState}
use Rattle.em_acks.specs.Steps.{AckStep}
use Rattle.em_acks.specs.Stands as acks

-- no queue group is being changed
pub record AreSettled (v : GroupState) : Type 0 where
  pub graph : Declarations
  pub steps : List GroupStep
  pub stands : groups.Stands graph v steps
  pub settled : (g : ℕ) → change steps g ≡ None

-- each event group had n applications at most
pub record HadFew (v : List Group) (n : ℕ) : Type 0 where
  pub steps : List EgroupStep
  pub stands : egroups.Stands v steps
  pub few : (g : ℕ) → applications steps g ≤ n

-- an application of one member has just begun in event group g, and each group had n at most before
pub record HasBegun (v : List Group) (g n : ℕ) : Type 0 where
  pub steps : List EgroupStep
  pub stands : egroups.Stands v (Applied g 1 [] ∷ steps)
  pub few : (h : ℕ) → applications steps h ≤ n

-- the operations stand for some steps
pub record AreKnown (v : AckState) : Type 0 where
  pub steps : List AckStep
  pub stands : acks.Stands v steps
