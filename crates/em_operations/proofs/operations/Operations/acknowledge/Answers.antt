use Rattle.em_acks.specs.declared.job.Phase.{Phase}
use Rattle.em_operation_parts.specs.AckSteps.{ack_steps}
use Rattle.em_operations.proofs.OwedSteps.{can-end, last-is, more-is}
use Rattle.em_operations.proofs.operations.Operations.acknowledge.Goals as goal

pub ack-requires-clause-owed : goal.ack-requires-clause-owed
ack-requires-clause-owed c = can-end c.args.self.now c.args.core.0 c.args.op.0 Phase.Local c.requires

pub returns-in-Last-clause-last : goal.returns-in-Last-clause-last
returns-in-Last-clause-last c = λ k past st.
    last-is k past c.args.self.now c.args.core.0 c.args.op st (c.in-Last.ensures.answer (ack_steps past) st.acks)

pub returns-in_default-clause-last : goal.returns-in_default-clause-last
returns-in_default-clause-last c = λ k past st.
    more-is k past c.args.self.now c.args.core.0 c.in_default.field-0 c.args.op st (c.in_default.ensures.answer (ack_steps past) st.acks)
