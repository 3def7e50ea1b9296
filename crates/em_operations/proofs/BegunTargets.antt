-- Why operations may not begin, and what their begin finds.
use Rattle.std.proofs.Common.{◌≡◌, ℕ, zero, suc, ◌<◌, List, [], ◌∷◌, ◌++◌, map, slice_get, Option, Some, None, Result, Ok, Err, MatchResult, refl, ap, sym, ◌∙◌, subst, arith}
use Rattle.std.specs.Option.{option_map, option_or}
use Rattle.std.specs.Global.{Vec}
use Rattle.std.specs.Result.{result_err}
use Rattle.std.specs.Vec.{vec_capacity}
use Rattle.std.proofs.lemmas.List.{length-append, map-append}
use Rattle.em_log.specs.declared.declarations.Declarations.{Declarations}
use Rattle.em_log.specs.declared.entry.Begun.{Begun}
use Rattle.em_log.specs.declared.fault.Fault.{Fault}
use Rattle.em_log.specs.declared.ids.EoState.{EoState}
use Rattle.em_log.specs.declared.ids.Limits.{Limits}
use Rattle.em_log.specs.declared.ids.Note.{Note}
use Rattle.em_log.specs.declared.ids.OpId.{OpId}
use Rattle.em_log.specs.History.{Past}
use Rattle.em_log.specs.Lawful.{Lawful}
use Rattle.em_log.specs.Leads.{aims_at_group, notes_refusal, operations_fault, pending_fault, refusal, unless_created, unless_running}
use Rattle.em_log.specs.Operations as log
use Rattle.em_log.specs.Operations.{Operation, op_id}
use Rattle.em_acks.specs.declared.job.Target.{Target}
use Rattle.em_acks.specs.Operations.{begin_fault, pending}
use Rattle.em_acks.specs.Stands as acks
use Rattle.em_acks.specs.State.{AckState, core_count}
use Rattle.em_acks.specs.Steps.{AckStep, Began}
use Rattle.em_groups.specs.Steps.{GroupStep}
use Rattle.em_objects.specs.State.{Shape}
use Rattle.em_objects.specs.Steps.{ObjectStep}
use Rattle.em_operation_parts.specs.AckSteps.{ack_steps, aims_at, job_of, target_of}
use Rattle.em_operation_parts.specs.GroupSteps.{group_steps}
use Rattle.em_operation_parts.specs.ObjectSteps.{object_steps}
use Rattle.em_operation_parts.proofs.ObjectStates.{objects-alike}
use Rattle.em_operation_parts.proofs.PendingOperations.{pending-alike}
use Rattle.em_operation_parts.proofs.Targets.{targets-alike}
use Rattle.em_operations.specs.declared.begun.BegunOperation.{BegunOperation}
use Rattle.em_operations.specs.declared.operations.Operations.{Operations}
use Rattle.em_operations.specs.Operations.{OperationsStand, StepsStand, IsBeginnable, IsTargetThere, begin_fault_of, begun_as, own_fault, ask_of}

or-again : (o p q : Option Fault) → option_or o (option_or p (option_or o q)) ≡ option_or o (option_or p q)
or-again None p q = refl
or-again (Some f) p q = refl

pending-number : (o : Option ℕ) → option_map (λ (op : OpId). Fault.OpPending op) (option_map op_id o) ≡ option_map (λ (n : ℕ). Fault.OpPending (op_id n)) o
pending-number None = refl
pending-number (Some n) = refl

-- by the pending operation of the target, the own reason, and why none may begin
pub fault-is : (k : Declarations) (l : Limits) (past : Past) (v : Operations) (t : Target) (p : Option OpId) (own r : Option Fault) → Lawful k l past → OperationsStand k v past
    → p ≡ option_map op_id (pending (core_count v.acks) (ack_steps past) t) → r ≡ begin_fault (core_count v.acks) (ack_steps past) t
    → option_or (option_map (λ (op : OpId). Fault.OpPending op) p) (option_or own r) ≡ option_or (pending_fault past (aims_at t)) (option_or own (operations_fault past))
fault-is k l past v t p own r lawful st is fault =
    (λ i. option_or (first i) (option_or own (second i))) ∙ or-again (pending_fault past (aims_at t)) own (operations_fault past)
  where
    first : option_map (λ (op : OpId). Fault.OpPending op) p ≡ pending_fault past (aims_at t)
    first =
        ap (option_map (λ (op : OpId). Fault.OpPending op)) is
        ∙ (pending-number (pending (core_count v.acks) (ack_steps past) t)
        ∙ ap (option_map (λ (n : ℕ). Fault.OpPending (op_id n))) (ap (λ (m : ℕ). pending m (ack_steps past) t) st.acks_shape ∙ (pending-alike k l past lawful).pending t))

    second : r ≡ option_or (pending_fault past (aims_at t)) (operations_fault past)
    second = fault ∙ (ap (λ (m : ℕ). begin_fault m (ack_steps past) t) st.acks_shape ∙ (pending-alike k l past lawful).begin_fault t)

pub err-is : {A : Type 0} (r : Result A Fault) (o : Option Fault) → MatchResult r (λ _. o ≡ None) (λ f. o ≡ Some f) → result_err r ≡ o
err-is (Ok x) o is = sym is
err-is (Err f) o is = sym is

-- nothing refuses

or-none : (a b : Option Fault) → option_or a b ≡ None → (a ≡ None) × (b ≡ None)
or-none None b is = (refl, is)
or-none (Some f) b is = absurd (cc is)

none-mapped : (o : Option ℕ) → option_map (λ (n : ℕ). Fault.OpPending (op_id n)) o ≡ None → o ≡ None
none-mapped None is = refl
none-mapped (Some n) is = absurd (cc is)

created-is : (s : EoState) → unless_created s ≡ None → s ≡ EoState.Created
created-is EoState.Created is = refl
created-is EoState.Starting is = absurd (cc is)
created-is EoState.Running is = absurd (cc is)
created-is EoState.Stopping is = absurd (cc is)

running-is : (s : EoState) → unless_running s ≡ None → s ≡ EoState.Running
running-is EoState.Created is = absurd (cc is)
running-is EoState.Starting is = absurd (cc is)
running-is EoState.Running is = refl
running-is EoState.Stopping is = absurd (cc is)

pub beginnable : (k : Declarations) (l : Limits) (past : Past) (job : Begun) → Lawful k l past → begin_fault_of k past job ≡ None → IsBeginnable k (object_steps past) (group_steps past) job
beginnable k l past (Begun.Start x) lawful none =
    let own = (or-none _ _ (or-none _ _ none).1).0 in
    (objects-alike k past).state x.0 ∙ created-is _ own
beginnable k l past (Begun.Stop x) lawful none =
    let own = (or-none _ _ (or-none _ _ none).1).0 in
    (objects-alike k past).state x.0 ∙ running-is _ own
beginnable k l past (Begun.Modify g m) lawful none = (
  (targets-alike k l past lawful.each).unchanged g.0 (none-mapped (log.pending past (aims_at_group g.0)) (or-none _ _ none).0),
  (or-none _ _ (or-none _ _ none).1).0,
)

pub free-is : (k : Declarations) (l : Limits) (past : Past) (job : Begun) → Lawful k l past → begin_fault_of k past job ≡ None → begin_fault k.cores (ack_steps past) (target_of job) ≡ None
free-is k l past job lawful none =
    let parts = or-none (pending_fault past (aims_at (target_of job))) (option_or (own_fault k past job) (operations_fault past)) none in
    let first = parts.0 in
    let last = (or-none (own_fault k past job) (operations_fault past) parts.1).1 in
    (pending-alike k l past lawful).begin_fault (target_of job) ∙ (λ i. option_or (first i) (last i))

-- an ask to begin is refused for these reasons, and then by its notes

or-grouped : (a b c d : Option Fault) → option_or a (option_or b (option_or c d)) ≡ option_or (option_or a (option_or b c)) d
or-grouped None None c d = refl
or-grouped None (Some g) c d = refl
or-grouped (Some f) b c d = refl

pub begins-refused : (k : Declarations) (past : Past) (c : ℕ) (job : Begun) (notes : List Note)
    → refusal k past c (ask_of job notes) ≡ option_or (begin_fault_of k past job) (notes_refusal past c [] notes)
begins-refused k past c (Begun.Start x) notes = or-grouped (pending_fault past (aims_at (Target.Eo x))) (own_fault k past (Begun.Start x)) (operations_fault past) (notes_refusal past c [] notes)
begins-refused k past c (Begun.Stop x) notes = or-grouped (pending_fault past (aims_at (Target.Eo x))) (own_fault k past (Begun.Stop x)) (operations_fault past) (notes_refusal past c [] notes)
begins-refused k past c (Begun.Modify g m) notes = or-grouped (pending_fault past (aims_at (Target.Group g))) (own_fault k past (Begun.Modify g m)) (operations_fault past) (notes_refusal past c [] notes)

-- one more operation

there-pushed : (k : Declarations) (os : List Operation) (x : Operation) → ((n : ℕ) (o : Operation) → slice_get os n ≡ Some o → IsTargetThere k o.job) → IsTargetThere k x.job
    → (n : ℕ) (o : Operation) → slice_get (os ++ x ∷ []) n ≡ Some o → IsTargetThere k o.job
there-pushed k [] x all there zero o at = let same : x ≡ o = cc at in subst (λ (p : Operation). IsTargetThere k p.job) same there
there-pushed k [] x all there (suc n) o at = absurd (cc at)
there-pushed k (y ∷ os) x all there zero o at = all zero o at
there-pushed k (y ∷ os) x all there (suc n) o at = there-pushed k os x (λ m. all (suc m)) there n o at

-- what is there in one graph for which the operations stand is there in another
pub there-too : (k h : Declarations) (v : Operations) (o p : List ObjectStep) (g i : List GroupStep) (a d : List AckStep) (b e : List Operation) (job : Begun) → StepsStand h v p i d e → StepsStand k v o g a b
    → IsTargetThere h job → IsTargetThere k job
there-too k h v o p g i a d b e (Begun.Start x) st now there =
    subst (λ (n : ℕ). x.0 < n) (ap (λ (s : Shape). s.objects) (sym st.objects_shape ∙ now.objects_shape)) there
there-too k h v o p g i a d b e (Begun.Stop x) st now there =
    subst (λ (n : ℕ). x.0 < n) (ap (λ (s : Shape). s.objects) (sym st.objects_shape ∙ now.objects_shape)) there
there-too k h v o p g i a d b e (Begun.Modify x m) st now there = subst (λ (n : ℕ). x.0 < n) (sym st.groups_shape ∙ now.groups_shape) there

pub opened : (k : Declarations) (v : Operations) (o : List ObjectStep) (g : List GroupStep) (a : List AckStep) (b : List Operation) (x : AckState) (os : Vec BegunOperation) (n : BegunOperation)
    → StepsStand k v o g a b → acks.Stands x (Began n.core.0 (job_of n.job) (target_of n.job) ∷ a) → core_count x ≡ core_count v.acks → os.items ≡ v.begun.items ++ n ∷ []
    → vec_capacity os ≡ vec_capacity v.begun → IsTargetThere k n.job
    → StepsStand k (record v { acks = x; begun = os }) o g (Began n.core.0 (job_of n.job) (target_of n.job) ∷ a) (b ++ begun_as n ∷ [])
opened k v o g a b x os n st stands same items capacity there =
    record {
      few_cores = st.few_cores;
      few_queues = st.few_queues;
      cores = st.cores;
      objects = st.objects;
      objects_shape = st.objects_shape;
      groups = st.groups;
      groups_shape = st.groups_shape;
      acks = stands;
      acks_shape = same ∙ st.acks_shape;
      begun = ap (map begun_as) items ∙ (map-append begun_as v.begun.items (n ∷ []) ∙ ap (λ (xs : List Operation). xs ++ begun_as n ∷ []) st.begun);
      count = let long = length-append b (begun_as n ∷ []) in let count = st.count in omega (arith, long, count);
      room = let room = st.room in omega (arith, room, capacity);
      there = there-pushed k b (begun_as n) st.there there;
      queues = st.queues;
    }
