use Rattle.std.proofs.Common.{◌∷◌, sym, subst}
use Rattle.em_log.specs.History.{entry_by}
use Rattle.em_operation_parts.specs.Endings.{told}
use Rattle.em_operations.specs.declared.endings.Ending.{Ending}
use Rattle.em_operations.specs.Endings.{ending_as}
use Rattle.em_operations.specs.Operations.{OperationsStand}
use Rattle.em_operations.proofs.operations.Operations.tell.Goals as goal

pub returns-in-Completes-clause-stands : goal.returns-in-Completes-clause-stands
returns-in-Completes-clause-stands c = λ k l past all st.
    subst (λ (e : Ending). OperationsStand k c.done.new.self (entry_by c.args.core.0 (told (ending_as e)) ∷ past)) (sym c.in-Completes.is) (c.done.ensures k l past c.args.core.0 all st)

pub returns-in-Fails-clause-stands : goal.returns-in-Fails-clause-stands
returns-in-Fails-clause-stands c = λ k l past all st.
    subst (λ (e : Ending). OperationsStand k c.done-in-Fails.new.self (entry_by c.args.core.0 (told (ending_as e)) ∷ past)) (sym c.in-Fails.is) (c.done-in-Fails.ensures k l past c.args.core.0 all st)
