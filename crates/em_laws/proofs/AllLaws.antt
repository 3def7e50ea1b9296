-- Every lawful history keeps the four laws.
use Rattle.em_log.specs.declared.declarations.Declarations.{Declarations}
use Rattle.em_log.specs.declared.ids.Limits.{Limits}
use Rattle.em_log.specs.History.{Past}
use Rattle.em_log.specs.Lawful.{AllAllowed}
use Rattle.em_laws.specs.AllLaws.{KeepsLaws}
use Rattle.em_laws.proofs.Changed.{group-quiet}
use Rattle.em_laws.proofs.Events.{each-once}
use Rattle.em_laws.proofs.Holders.{exclusive}
use Rattle.em_laws.proofs.Stopped.{stop-quiet}

pub keeps-laws : (k : Declarations) (l : Limits) (past : Past) → AllAllowed k l past → KeepsLaws k past
keeps-laws k l past all =
    record {
      stop_quiet = stop-quiet k l past all;
      group_quiet = group-quiet k l past all;
      exclusive = exclusive k l past all;
      once = each-once k l past all;
    }
