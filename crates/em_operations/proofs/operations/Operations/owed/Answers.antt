use Rattle.std.proofs.Common.{◌∙◌, None, Some}
use Rattle.em_operations.specs.Operations.{owed_entry}
use Rattle.em_operation_parts.specs.AckSteps.{ack_steps}
use Rattle.em_operations.proofs.OwedSteps.{entry-is, entry-none, owed-entry}
use Rattle.em_operations.proofs.operations.Operations.owed.Goals as goal

pub returns-in_default : goal.returns-in_default
returns-in_default c = λ k l past all st. owed-entry k l past c.args.self.now c.args.core.0 None all st (c.in_default.ensures.answer (ack_steps past) st.acks)

pub returns-in-Some-job : goal.returns-in-Some-job
returns-in-Some-job c = λ k l past all st.
    entry-is past c.in-Some.op c.in-Some.phase c.in-Some-job.job (owed_entry c.owed_of.result) (c.in-Some-job.ensures k l past all st) c.owed_of.ensures
    ∙ owed-entry k l past c.args.self.now c.args.core.0 (Some (c.in-Some.op, c.in-Some.phase)) all st (c.in-Some.ensures.answer (ack_steps past) st.acks)

pub returns-in-None : goal.returns-in-None
returns-in-None c = λ k l past all st.
    entry-none past c.in-Some.op c.in-Some.phase (c.in-None.ensures k l past all st)
    ∙ owed-entry k l past c.args.self.now c.args.core.0 (Some (c.in-Some.op, c.in-Some.phase)) all st (c.in-Some.ensures.answer (ack_steps past) st.acks)
