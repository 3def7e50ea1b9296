use Rattle.em_operation_parts.specs.GroupSteps.{group_steps}
use Rattle.em_operation_parts.specs.ObjectSteps.{object_steps}
use Rattle.em_operations.proofs.Kept.{flagged}
use Rattle.em_operations.proofs.operations.Operations.flag.Goals as goal

pub returns-clause-stands : goal.returns-clause-stands
returns-clause-stands c = λ k past d st.
    flagged k c.args.self.now past d c.args.queue c.args.on c.flag.new.self c.flag-2.new.self st (c.in_ok-flag.ensures.stands k (object_steps past) st.objects) c.flag.ensures.same_shape
    (c.flag-2.ensures k (object_steps past) (group_steps past) st.queues)
