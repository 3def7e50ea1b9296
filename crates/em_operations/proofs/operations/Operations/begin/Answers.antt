use Rattle.std.proofs.Common.{◌∙◌}
use Rattle.em_operation_parts.specs.AckSteps.{ack_steps}
use Rattle.em_operation_parts.specs.BegunOperations.{begun_operations}
use Rattle.em_operation_parts.specs.GroupSteps as changes
use Rattle.em_operation_parts.specs.ObjectSteps as moves
use Rattle.em_operation_parts.proofs.OperationSteps.{same-operations}
use Rattle.em_operations.proofs.BegunTargets.{beginnable, free-is}
use Rattle.em_operations.proofs.operations.Operations.begin.Goals as goal

pub begin_target-requires : goal.begin_target-requires
begin_target-requires c =
    let r = c.requires in
    record {
      graph = r.graph;
      object = moves.object_steps r.past;
      group = changes.group_steps r.past;
      ack = ack_steps r.past;
      operation = begun_operations r.past;
      stands = r.stands;
      there = r.there;
      ready = beginnable r.graph r.limits r.past c.args.job r.lawful r.free;
    }

pub open-requires : goal.open-requires
open-requires c =
    let r = c.requires in
    record {
      graph = r.graph;
      object = moves.begun_steps c.args.job (moves.object_steps r.past);
      group = changes.begun_steps c.args.job (changes.group_steps r.past);
      ack = ack_steps r.past;
      operation = begun_operations r.past;
      stands = c.begin_target.ensures r.graph (moves.object_steps r.past) (changes.group_steps r.past) (ack_steps r.past) (begun_operations r.past) r.stands;
      core = r.core;
      there = r.there;
      free = free-is r.graph r.limits r.past c.args.job r.lawful r.free;
    }

pub returns-clause-number : goal.returns-clause-number
returns-clause-number c = λ k past st.
    let number = c.open.ensures.number k (moves.begun_steps c.args.job (moves.object_steps past)) (changes.begun_steps c.args.job (changes.group_steps past)) (ack_steps past) (begun_operations past)
    (c.begin_target.ensures k (moves.object_steps past) (changes.group_steps past) (ack_steps past) (begun_operations past) st) in
    λ i. record { 0 = (number ∙ same-operations past) i }

pub returns-clause-stands : goal.returns-clause-stands
returns-clause-stands c = λ k past st.
    c.open.ensures.stands k (moves.begun_steps c.args.job (moves.object_steps past)) (changes.begun_steps c.args.job (changes.group_steps past)) (ack_steps past) (begun_operations past)
    (c.begin_target.ensures k (moves.object_steps past) (changes.group_steps past) (ack_steps past) (begun_operations past) st)
