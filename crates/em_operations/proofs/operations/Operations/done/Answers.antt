use Rattle.std.proofs.Common.{List, sym, subst}
use Rattle.em_groups.specs.Steps.{GroupStep}
use Rattle.em_objects.specs.Steps.{ObjectStep}
use Rattle.em_log.specs.declared.entry.Begun.{Begun}
use Rattle.em_log.specs.Operations.{by_job}
use Rattle.em_operation_parts.specs.AckSteps.{ack_steps}
use Rattle.em_operation_parts.specs.BegunOperations.{begun_operations}
use Rattle.em_operation_parts.specs.GroupSteps as changes
use Rattle.em_operation_parts.specs.ObjectSteps as moves
use Rattle.em_operations.specs.Operations.{StepsStand}
use Rattle.em_operations.proofs.OwedSteps.{by-job, endable}
use Rattle.em_operations.proofs.operations.Operations.done.Goals as goal

pub end_target-requires : goal.end_target-requires
end_target-requires c =
    let r = c.requires in
    endable r.graph r.limits r.past c.args.self.now c.args.op c.in-Some.job r.all r.stands r.undone (c.in-Some.ensures r.graph r.limits r.past r.all r.stands)

pub returns-in-Some : goal.returns-in-Some
returns-in-Some c = λ k l past d all st.
    let v = c.end_target.new.self in
    let job = c.in-Some.job in
    let is = c.in-Some.ensures k l past all st in
    let o = moves.object_steps past in
    let g = changes.group_steps past in
    let os : Begun → List ObjectStep = λ j. moves.done_steps j c.args.ok o in
    let gs : Begun → List GroupStep = λ j. changes.done_steps j g in
    subst (λ (s : List ObjectStep). StepsStand k v s (by_job past c.args.op gs g) (ack_steps past) (begun_operations past)) (sym (by-job past c.args.op job os o is))
    (subst (λ (s : List GroupStep). StepsStand k v (os job) s (ack_steps past) (begun_operations past)) (sym (by-job past c.args.op job gs g is))
    (c.end_target.ensures k o g (ack_steps past) (begun_operations past) st))
