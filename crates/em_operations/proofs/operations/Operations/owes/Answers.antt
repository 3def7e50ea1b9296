use Rattle.std.proofs.Common.{◌∙◌}
use Rattle.em_operation_parts.specs.AckSteps.{ack_steps}
use Rattle.em_operations.proofs.OwedSteps.{owes-is}
use Rattle.em_operations.proofs.operations.Operations.owes.Goals as goal

pub returns : goal.returns
returns c = λ k l past all st.
    c.is_some.ensures ∙ owes-is k l past c.args.self.now c.args.core.0 c.owed.result all st (c.owed.ensures.answer (ack_steps past) st.acks)
