-- All that the steps of operations tell as the history does.
use Rattle.em_log.specs.declared.declarations.Declarations.{Declarations}
use Rattle.em_log.specs.declared.ids.Limits.{Limits}
use Rattle.em_log.specs.History.{Past}
use Rattle.em_log.specs.Lawful.{AllAllowed}
use Rattle.em_operation_parts.specs.OperationsAlike.{OperationsAlike}
use Rattle.em_operation_parts.proofs.OperationSteps.{same-operations, same-operation, same-global, same-acked, same-all, same-last, same-last_left}
use Rattle.em_operation_parts.proofs.OwedSteps.{same-owed, same-step, same-entry, same-owing}
use Rattle.em_operation_parts.proofs.DoneOperations.{same-done}

pub operations-alike : (k : Declarations) (l : Limits) (past : Past) → AllAllowed k l past → OperationsAlike k past
operations-alike k l past all = record {
  operations = same-operations past;
  operation = same-operation k l past all;
  global_done = same-global past;
  acked = same-acked past;
  all_acked = same-all k past;
  last_acker = same-last k past;
  owed = same-owed k l past all;
  step = same-step k l past all;
  entry = same-entry k l past all;
  owes = same-owing k l past all;
  last = same-last_left k past;
  done = same-done k l past all;
}
