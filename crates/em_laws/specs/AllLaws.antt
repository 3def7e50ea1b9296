-- The four laws together.
use Rattle.em_log.specs.declared.declarations.Declarations.{Declarations}
use Rattle.em_log.specs.History.{Past}
use Rattle.em_log.specs.Laws.{StopQuiet, GroupQuiet, Exclusive, Once}

-- stopped objects and changed groups are quiet, atomic contexts are exclusive, and each event comes once
pub record KeepsLaws (k : Declarations) (past : Past) : Type 0 where
  pub stop_quiet : StopQuiet k past
  pub group_quiet : GroupQuiet k past
  pub exclusive : Exclusive k past
  pub once : Once k past
