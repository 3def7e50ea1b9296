use Rattle.std.proofs.Common.{◌∙◌}
use Rattle.em_operation_parts.specs.ObjectSteps.{object_steps}
use Rattle.em_operations.proofs.Kept.{closed-is}
use Rattle.em_operations.proofs.operations.Operations.closed_fault.Goals as goal

pub returns : goal.returns
returns c = λ k past st. c.err.ensures.value ∙ closed-is k past c.args.queue.0 c.accepts.result (c.accepts.ensures k (object_steps past) st.objects)
