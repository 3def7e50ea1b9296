use Rattle.std.proofs.Common.{◌≡◌, ℕ, ◌<◌, false, is_some}
use Rattle.em_log.specs.declared.declarations.Declarations.{Declarations}
use Rattle.em_log.specs.declared.ids.Limits.{Limits}
use Rattle.em_log.specs.History.{Past}
use Rattle.em_log.specs.Lawful.{Lawful}
use Rattle.em_log.specs.Operations.{step}
use Rattle.em_operations.specs.Operations.{OperationsStand}
use Rattle.em_operations.proofs.operations.Operations.are_done.Given as goal

-- no core so far owes a step
abbrev pub invariant-loop-core : goal.invariant-loop-core
invariant-loop-core l =
    (k : Declarations) (m : Limits) (past : Past) → Lawful k m past → OperationsStand k l.self past → (c : ℕ) → c < l.core → is_some (step k past c) ≡ false
