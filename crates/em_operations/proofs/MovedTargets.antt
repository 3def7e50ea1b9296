-- What is done to the target of an operation.
use Rattle.std.proofs.Common.{◌≡◌, List, Option, Some, None, Result, Ok, Err, MatchResult, ◌∙◌}
use Rattle.em_log.specs.declared.declarations.Declarations.{Declarations}
use Rattle.em_log.specs.declared.fault.Fault.{Fault}
use Rattle.em_log.specs.Operations.{Operation}
use Rattle.em_acks.specs.Steps.{AckStep}
use Rattle.em_groups.specs.State as group_state
use Rattle.em_groups.specs.Stands as groups
use Rattle.em_groups.specs.Steps.{GroupStep}
use Rattle.em_objects.specs.State.{ObjectsState, shape}
use Rattle.em_objects.specs.Stands as objects
use Rattle.em_objects.specs.Steps.{ObjectStep}
use Rattle.em_operations.specs.declared.operations.Operations.{Operations}
use Rattle.em_operations.specs.declared.queue_sets.QueueSets.{QueueSets}
use Rattle.em_operations.specs.Operations.{StepsStand}
use Rattle.em_operations.specs.QueueSets.{SetsStand}

-- the objects and the sets of queues have gone on
pub with-objects : (k : Declarations) (v : Operations) (o : List ObjectStep) (g : List GroupStep) (a : List AckStep) (b : List Operation) (x : ObjectsState) (s : QueueSets) (now : List ObjectStep)
    → StepsStand k v o g a b → objects.Stands k x now → shape x ≡ shape v.objects → SetsStand k s now g → StepsStand k (record v { objects = x; queues = s }) now g a b
with-objects k v o g a b x s now st stands same sets =
    record {
      few_cores = st.few_cores;
      few_queues = st.few_queues;
      cores = st.cores;
      objects = stands;
      objects_shape = same ∙ st.objects_shape;
      groups = st.groups;
      groups_shape = st.groups_shape;
      acks = st.acks;
      acks_shape = st.acks_shape;
      begun = st.begun;
      count = st.count;
      room = st.room;
      there = st.there;
      queues = sets;
    }

-- the queue groups and the sets of queues have gone on
pub with-groups : (k : Declarations) (v : Operations) (o : List ObjectStep) (g : List GroupStep) (a : List AckStep) (b : List Operation) (x : group_state.GroupState) (s : QueueSets) (now : List GroupStep)
    → StepsStand k v o g a b → groups.Stands k x now → group_state.shape x ≡ group_state.shape v.groups → SetsStand k s o now → StepsStand k (record v { groups = x; queues = s }) o now a b
with-groups k v o g a b x s now st stands same sets =
    record {
      few_cores = st.few_cores;
      few_queues = st.few_queues;
      cores = st.cores;
      objects = st.objects;
      objects_shape = st.objects_shape;
      groups = stands;
      groups_shape = same ∙ st.groups_shape;
      acks = st.acks;
      acks_shape = st.acks_shape;
      begun = st.begun;
      count = st.count;
      room = st.room;
      there = st.there;
      queues = sets;
    }

-- a call that is not refused has done its step
pub unrefused : {A : Type 0} (r : Result A Fault) (why : Option Fault) (now old : Type 0) → why ≡ None → MatchResult r (λ _. why ≡ None) (λ f. why ≡ Some f)
    → MatchResult r (λ _. now) (λ _. old) → now
unrefused (Ok x) why now old none answer stands = stands
unrefused (Err f) why now old none answer stands = absurd (cc (none, answer))
