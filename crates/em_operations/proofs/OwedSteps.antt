-- What cores owe to operations, and what operations were when they began, by what is kept.
use Rattle.std.proofs.Common.{◌≡◌, ℕ, zero, suc, ◌<◌, Bool, true, false, List, [], ◌∷◌, map, slice_get, Option, Some, None, is_some, refl, ap, sym, ◌∙◌, subst, arith, if◌then◌else◌, length, nat_lt, get_or}
use Rattle.std.proofs.lemmas.Bool.{lt-ltb, ltb-true}
use Rattle.std.proofs.lemmas.Option.{slice_get_past, slice_get-get_or}
use Rattle.std.specs.Option.{option_map, option_map_or, option_and_then}
use Rattle.std.specs.List.{list_all}
use Rattle.em_log.specs.declared.declarations.Declarations.{Declarations}
use Rattle.em_log.specs.declared.entry.Begun.{Begun}
use Rattle.em_log.specs.declared.entry.What.{What}
use Rattle.em_log.specs.declared.ids.Limits.{Limits}
use Rattle.em_log.specs.declared.ids.OpId.{OpId}
use Rattle.em_log.specs.Declarations.{below}
use Rattle.em_log.specs.History.{Past, entry_by, has}
use Rattle.em_log.specs.Lawful.{AllAllowed}
use Rattle.em_log.specs.Operations as log
use Rattle.em_log.specs.Operations.{Operation, operation, notes_of}
use Rattle.em_acks.specs.declared.job.Left.{Left}
use Rattle.em_acks.specs.declared.job.Phase.{Phase}
use Rattle.em_acks.specs.Operations.{left_after, not_acked, owed_to, step, all_acked}
use Rattle.em_acks.specs.State.{core_count, owed_at}
use Rattle.em_acks.specs.Steps.{Acknowledged}
use Rattle.em_acks.proofs.Reading.{owed-is}
use Rattle.em_operation_parts.specs.AckSteps.{ack_steps, entry_for, entry_of}
use Rattle.em_operation_parts.specs.BegunOperations.{begun_operations}
use Rattle.em_operation_parts.specs.Endings.{IsUndone}
use Rattle.em_operation_parts.specs.GroupSteps.{group_steps}
use Rattle.em_operation_parts.specs.ObjectSteps.{object_steps}
use Rattle.em_operation_parts.specs.Targets.{IsUnderWay}
use Rattle.em_operation_parts.proofs.BegunOperations.{begun-alike}
use Rattle.em_operation_parts.proofs.Targets.{targets-alike}
use Rattle.em_operation_parts.proofs.Operations.{operations-alike}
use Rattle.em_operation_parts.proofs.OperationSteps.{same-acked}
use Rattle.em_operations.specs.declared.begun.BegunOperation.{BegunOperation}
use Rattle.em_operations.specs.declared.operations.Operations.{Operations}
use Rattle.em_operations.specs.Operations.{OperationsStand, CanEnd, CanEndTarget, IsEndable, IsTargetThere, begun_as}

-- what a look into a list finds
pub found : {X : Type 0} (xs : List X) (n : ℕ) (x : X) → true ≡ nat_lt n (length xs) → x ≡ get_or xs n x → Some x ≡ slice_get xs n
found xs n x lt is = ap Some is ∙ sym (slice_get-get_or xs n x (ltb-true n (length xs) (sym lt)))

pub missed : {X : Type 0} (xs : List X) (n : ℕ) → false ≡ nat_lt n (length xs) → None ≡ slice_get xs n
missed xs n past_end =
    let no : n < length xs → ⊥ = λ lt. absurd (let on = lt-ltb n (length xs) lt in cc (on, past_end)) in
    sym (slice_get_past xs n (omega (arith, no)))

mapped : (xs : List BegunOperation) (n : ℕ) → option_map begun_as (slice_get xs n) ≡ slice_get (map begun_as xs) n
mapped [] n = refl
mapped (x ∷ xs) zero = refl
mapped (x ∷ xs) (suc n) = mapped xs n

-- the operation of a number
pub begun-is : (k : Declarations) (l : Limits) (past : Past) (v : Operations) (n : ℕ) (o : Option BegunOperation) → AllAllowed k l past → OperationsStand k v past
    → o ≡ slice_get v.begun.items n → option_map begun_as o ≡ operation past n
begun-is k l past v n o all st is =
    ap (option_map begun_as) is ∙ (mapped v.begun.items n ∙ (ap (λ (os : List Operation). slice_get os n) st.begun ∙ (begun-alike k l past all).each n))

-- a core owes a step
pub owes-is : (k : Declarations) (l : Limits) (past : Past) (v : Operations) (c : ℕ) (o : Option (OpId × Phase)) → AllAllowed k l past → OperationsStand k v past
    → o ≡ step (core_count v.acks) (ack_steps past) c → is_some o ≡ is_some (log.step k past c)
owes-is k l past v c o all st is =
    ap is_some (is ∙ ap (λ (m : ℕ). step m (ack_steps past) c) st.acks_shape) ∙ (operations-alike k l past all).owes c

pub owed-entry : (k : Declarations) (l : Limits) (past : Past) (v : Operations) (c : ℕ) (o : Option (OpId × Phase)) → AllAllowed k l past → OperationsStand k v past
    → o ≡ step (core_count v.acks) (ack_steps past) c → option_and_then (entry_for past) o ≡ log.step k past c
owed-entry k l past v c o all st is =
    ap (option_and_then (entry_for past)) (is ∙ ap (λ (m : ℕ). step m (ack_steps past) c) st.acks_shape) ∙ sym ((operations-alike k l past all).entry c)

-- the entry of a step whose operation has begun as told
pub entry-is : (past : Past) (op : OpId) (p : Phase) (job : Begun) (w : What) → Some job ≡ option_map (λ (o : Operation). o.job) (operation past op.0) → w ≡ entry_of op job p
    → Some w ≡ entry_for past (op, p)
entry-is past op p job w is e = by_operation (operation past op.0) is
  where
    by_operation : (o : Option Operation) → Some job ≡ option_map (λ (o : Operation). o.job) o → Some w ≡ option_map (λ (o : Operation). entry_of op o.job p) o
    by_operation None h = absurd (cc h)
    by_operation (Some o) h = let same : job ≡ o.job = cc h in ap Some (e ∙ ap (λ (j : Begun). entry_of op j p) same)

pub entry-none : (past : Past) (op : OpId) (p : Phase) → None ≡ option_map (λ (o : Operation). o.job) (operation past op.0) → None ≡ entry_for past (op, p)
entry-none past op p is = by_operation (operation past op.0) is
  where
    by_operation : (o : Option Operation) → None ≡ option_map (λ (o : Operation). o.job) o → None ≡ option_map (λ (o : Operation). entry_of op o.job p) o
    by_operation None h = refl
    by_operation (Some o) h = absurd (cc h)

-- the step that a core is to end is owed by what is kept
pub can-end : (v : Operations) (c n : ℕ) (p : Phase) → (r : CanEnd v c n p) → owed_at v.acks c n ≡ Some p
can-end v c n p r =
    let shape = r.stands.acks_shape in
    let lt = r.core in
    owed-is r.stands.acks c n (omega (arith, shape, lt)) ∙ (ap (λ (m : ℕ). owed_to m (ack_steps r.past) c n) r.stands.acks_shape ∙ r.owed)

-- what an acknowledgement answers

all-same : (k : Declarations) (past : Past) (n : ℕ) → all_acked k.cores (ack_steps past) n ≡ log.all_acked k past n
all-same k past n = ap (λ (cs : List ℕ). list_all (has cs) (below k.cores)) (same-acked past n)

left-last : (b : Bool) (m : ℕ) → Left.Last ≡ (if b then Left.Last else Left.More m) → true ≡ b
left-last true m is = refl
left-last false m is = absurd (cc is)

left-more : (b : Bool) (m n : ℕ) → Left.More n ≡ (if b then Left.Last else Left.More m) → false ≡ b
left-more true m n is = absurd (cc is)
left-more false m n is = refl

pub last-is : (k : Declarations) (past : Past) (v : Operations) (c : ℕ) (op : OpId) → OperationsStand k v past
    → Left.Last ≡ left_after (core_count v.acks) (Acknowledged c op.0 ∷ ack_steps past) op.0 → true ≡ log.all_acked k (entry_by c (What.Ack op) ∷ past) op.0
last-is k past v c op st is =
    left-last (all_acked k.cores (ack_steps now) op.0) (length (not_acked k.cores (ack_steps now) op.0))
    (is ∙ ap (λ (m : ℕ). left_after m (ack_steps now) op.0) st.acks_shape)
    ∙ all-same k now op.0
  where
    now : Past
    now = entry_by c (What.Ack op) ∷ past

pub more-is : (k : Declarations) (past : Past) (v : Operations) (c n : ℕ) (op : OpId) → OperationsStand k v past
    → Left.More n ≡ left_after (core_count v.acks) (Acknowledged c op.0 ∷ ack_steps past) op.0 → false ≡ log.all_acked k (entry_by c (What.Ack op) ∷ past) op.0
more-is k past v c n op st is =
    left-more (all_acked k.cores (ack_steps now) op.0) (length (not_acked k.cores (ack_steps now) op.0)) n
    (is ∙ ap (λ (m : ℕ). left_after m (ack_steps now) op.0) st.acks_shape)
    ∙ all-same k now op.0
  where
    now : Past
    now = entry_by c (What.Ack op) ∷ past

-- what an operation that is not done does to its target can be ended

pub same-job : (past : Past) (op : OpId) (job : Begun) (o : Operation) → Some job ≡ option_map (λ (o : Operation). o.job) (operation past op.0) → operation past op.0 ≡ Some o → o.job ≡ job
same-job past op job o is at = let same : Some job ≡ Some o.job = is ∙ ap (option_map (λ (o : Operation). o.job)) at in sym (cc same)

endable-is : (k : Declarations) (past : Past) (job : Begun) → IsUnderWay k past job → IsEndable k (object_steps past) (group_steps past) job
endable-is k past (Begun.Start x) is = is
endable-is k past (Begun.Stop x) is = is
endable-is k past (Begun.Modify g m) is = is

pub endable : (k : Declarations) (l : Limits) (past : Past) (v : Operations) (op : OpId) (job : Begun) → AllAllowed k l past → OperationsStand k v past → IsUndone past op.0
    → Some job ≡ option_map (λ (o : Operation). o.job) (operation past op.0) → CanEndTarget v job
endable k l past v op job all st undone is =
    let same = same-job past op job undone.begun is undone.is in
    record {
      graph = k;
      object = object_steps past;
      group = group_steps past;
      ack = ack_steps past;
      operation = begun_operations past;
      stands = st;
      there = subst (IsTargetThere k) same (st.there op.0 undone.begun ((begun-alike k l past all).each op.0 ∙ undone.is));
      ready = endable-is k past job (subst (IsUnderWay k past) same ((targets-alike k l past all).under_way op.0 undone.begun undone.is undone.undone));
    }

pub by-job : {A : Type 0} (past : Past) (op : OpId) (job : Begun) (f : Begun → A) (other : A) → Some job ≡ option_map (λ (o : Operation). o.job) (operation past op.0)
    → log.by_job past op f other ≡ f job
by-job past op job f other is = by_operation (operation past op.0) is
  where
    by_operation : (o : Option Operation) → Some job ≡ option_map (λ (o : Operation). o.job) o → option_map_or (λ (o : Operation). f o.job) o other ≡ f job
    by_operation None h = absurd (cc h)
    by_operation (Some o) h = let same : job ≡ o.job = cc h in ap f (sym same)
