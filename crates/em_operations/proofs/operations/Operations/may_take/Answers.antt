use Rattle.std.proofs.Common.{◌∙◌}
use Rattle.em_operation_parts.specs.GroupSteps.{group_steps}
use Rattle.em_operation_parts.specs.ObjectSteps.{object_steps}
use Rattle.em_operations.proofs.Kept.{may-take}
use Rattle.em_operations.proofs.operations.Operations.may_take.Goals as goal

pub returns : goal.returns
returns c = λ k l past all st q.
    c.allowed.ensures k (object_steps past) (group_steps past) st.queues q ∙ may-take k l past c.args.core.0 q all
