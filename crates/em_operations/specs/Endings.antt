-- What a core has still to tell of an operation, and that it may tell it.
use Rattle.std.specs.Prelude.{ℕ, ◌<◌}
use Rattle.em_log.specs.declared.declarations.Declarations.{Declarations}
use Rattle.em_log.specs.declared.ids.Limits.{Limits}
use Rattle.em_log.specs.History.{Past}
use Rattle.em_log.specs.Lawful.{AllAllowed}
use Rattle.em_operation_parts.specs.Endings as parts
use Rattle.em_operations.specs.declared.endings.Ending.{Ending}
use Rattle.em_operations.specs.declared.operations.Operations.{Operations}
use Rattle.em_operations.specs.Operations.{OperationsStand}

abbrev pub ending_as : Ending → parts.Ending
ending_as (Ending.Acknowledges op) = parts.Acknowledges op
ending_as (Ending.AcknowledgesStop op) = parts.AcknowledgesStop op
ending_as (Ending.EndsStart op ok) = parts.EndsStart op ok
ending_as (Ending.EndsStop op) = parts.EndsStop op
ending_as (Ending.Completes op) = parts.Completes op
ending_as (Ending.Fails op) = parts.Fails op

-- what core c is to tell is due
pub record CanTell (v : Operations) (c : ℕ) (e : Ending) : Type 0 where
  pub graph : Declarations
  pub limits : Limits
  pub past : Past
  pub all : AllAllowed graph limits past
  pub stands : OperationsStand graph v past
  pub core : c < graph.cores
  pub due : parts.IsDue graph past c (ending_as e)
