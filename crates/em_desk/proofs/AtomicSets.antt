-- The atomic context of each queue, and the queues of each.
use Rattle.std.proofs.Common.{◌≡◌, ℕ, zero, suc, ◌+◌, ◌<◌, nat_lt, Bool, true, false, List, [], ◌∷◌, take, length, map, slice_get, slice_index_or, Option, Some, None, refl, ap, sym, ◌∙◌, subst, arith, if◌then◌else◌, unwrap_or, is_some}
use Rattle.std.specs.List.{list_all}
use Rattle.std.specs.Option.{option_and_then, option_map_or}
use Rattle.std.proofs.lemmas.Bool.{ltb-true, and_parts}
use Rattle.std.proofs.lemmas.List.{length-map}
use Rattle.em_log.specs.declared.declarations.Declarations.{Declarations}
use Rattle.em_log.specs.declared.declarations.QueueShape.{QueueShape}
use Rattle.em_log.specs.declared.ids.AtomicId.{AtomicId}
use Rattle.em_log.specs.Declarations.{atomic_of, atomic_in, is_atomic, is_lone, is_number, lone_count}
use Rattle.em_laws.proofs.Cores.{none-some, some-inj}
use Rattle.em_atomic.specs.Holding.{holder}
use Rattle.em_atomic.specs.State.{atomic_number, shape}
use Rattle.em_atomic.specs.Stands as atomic
use Rattle.em_queues.specs.Sets.{contains}
use Rattle.em_desk.specs.declared.atomic_queues.AtomicQueues.{AtomicQueues}
use Rattle.em_desk.specs.Atomics.{context_in, contexts_from, context_at, is_held, atomic_shape, AreMembers, AtomicsStand}
use Rattle.em_desk.specs.Graphs.{AreInBounds, is_grouped}

abbrev next_after : ℕ → QueueShape → ℕ
next_after n d = if is_lone d then suc n else n

-- they are those of the declarations

contexts-at : (n : ℕ) (ds : List QueueShape) (q : ℕ) → slice_index_or (contexts_from n ds) q None ≡ option_and_then (context_in (n + lone_count (take q ds))) (slice_get ds q)
contexts-at n [] q = refl
contexts-at n (d ∷ ds) zero = ap (λ (m : ℕ). context_in m d) (omega arith)
contexts-at n (d ∷ ds) (suc q) = contexts-at (next_after n d) ds q ∙ ap (λ (m : ℕ). option_and_then (context_in m) (slice_get ds q)) (by_test (is_lone d))
  where
    by_test : (b : Bool) → (if b then suc n else n) + lone_count (take q ds) ≡ n + (if b then suc (lone_count (take q ds)) else lone_count (take q ds))
    by_test true = omega arith
    by_test false = refl

mapped-at : (xs : List (Option AtomicId)) (q : ℕ) → context_at xs q ≡ slice_index_or (map atomic_number xs) q None
mapped-at [] q = refl
mapped-at (x ∷ xs) zero = refl
mapped-at (x ∷ xs) (suc q) = mapped-at xs q

pub context-is : (k : Declarations) (xs : List (Option AtomicId)) (q : ℕ) → map atomic_number xs ≡ contexts_from (length k.agroups) k.queues → context_at xs q ≡ atomic_of k q
context-is k xs q is = mapped-at xs q ∙ (ap (λ (os : List (Option ℕ)). slice_index_or os q None) is ∙ contexts-at (length k.agroups) k.queues q)

contexts-length : (n : ℕ) (ds : List QueueShape) → length (contexts_from n ds) ≡ length ds
contexts-length n [] = refl
contexts-length n (d ∷ ds) = ap suc (contexts-length (next_after n d) ds)

pub contexts-count : (k : Declarations) (xs : List (Option AtomicId)) → map atomic_number xs ≡ contexts_from (length k.agroups) k.queues → length xs ≡ length k.queues
contexts-count k xs is = sym (length-map xs atomic_number) ∙ (ap length is ∙ contexts-length (length k.agroups) k.queues)

-- at the opening

lone-at : (ds : List QueueShape) (q : ℕ) (d : QueueShape) → slice_get ds q ≡ Some d → is_lone d ≡ true → lone_count (take q ds) < lone_count ds
lone-at [] q d at lone = absurd (cc at)
lone-at (e ∷ ds) zero d at lone = let same : e ≡ d = some-inj _ _ at in let on : is_lone e ≡ true = ap is_lone same ∙ lone in rw on (omega arith)
lone-at (e ∷ ds) (suc q) d at lone = by_test (is_lone e) (lone-at ds q d at lone)
  where
    by_test : (b : Bool) → lone_count (take q ds) < lone_count ds
        → (if b then suc (lone_count (take q ds)) else lone_count (take q ds)) < (if b then suc (lone_count ds) else lone_count ds)
    by_test true lt = omega (arith, lt)
    by_test false lt = lt

grouped-at : (n : ℕ) (ds : List QueueShape) (q : ℕ) (d : QueueShape) → list_all (is_grouped n) ds ≡ true → slice_get ds q ≡ Some d → is_grouped n d ≡ true
grouped-at n [] q d all at = absurd (cc at)
grouped-at n (e ∷ ds) zero d all at = subst (λ (x : QueueShape). is_grouped n x ≡ true) (some-inj _ _ at) (and_parts (is_grouped n e) (list_all (is_grouped n) ds) all).0
grouped-at n (e ∷ ds) (suc q) d all at = grouped-at n ds q d (and_parts (is_grouped n e) (list_all (is_grouped n) ds) all).1 at

-- each context of a queue is there
within : (k : Declarations) (q a : ℕ) → AreInBounds k → atomic_of k q ≡ Some a → a < (atomic_shape k).contexts
within k q a graph is = by_shape (slice_get k.queues q) refl is
  where
    by_group : (d : QueueShape) (g : Option ℕ) → d.agroup ≡ g → slice_get k.queues q ≡ Some d → is_atomic d.kind ≡ true
        → unwrap_or g (length k.agroups + lone_count (take q k.queues)) ≡ a → a < (atomic_shape k).contexts
    by_group d (Some g) group at on is =
        let fits : nat_lt g (length k.agroups) ≡ true = sym (ap (λ (o : Option ℕ). option_map_or (λ a. nat_lt a (length k.agroups)) o true) group) ∙ grouped-at (length k.agroups) k.queues q d graph.grouped at in
        let lt = ltb-true g (length k.agroups) fits in
        omega (arith, lt, is)
    by_group d None group at on is =
        let lone : is_lone d ≡ true = rw (on, group) refl in
        let lt = lone-at k.queues q d at lone in
        omega (arith, lt, is)

    by_kind : (d : QueueShape) (b : Bool) → is_atomic d.kind ≡ b → slice_get k.queues q ≡ Some d
        → (if b then Some (unwrap_or d.agroup (length k.agroups + lone_count (take q k.queues))) else None) ≡ Some a → a < (atomic_shape k).contexts
    by_kind d false off at h = absurd (cc h)
    by_kind d true on at h = by_group d d.agroup refl at on (some-inj _ _ h)

    by_shape : (o : Option QueueShape) → slice_get k.queues q ≡ o → option_and_then (atomic_in k q) o ≡ Some a → a < (atomic_shape k).contexts
    by_shape None at h = absurd (cc h)
    by_shape (Some d) at h = by_kind d (is_atomic d.kind) refl at h

none-held : (k : Declarations) (q : ℕ) → false ≡ is_held k [] q
none-held k q = by_context (atomic_of k q)
  where
    by_context : (o : Option ℕ) → false ≡ option_map_or (λ a. is_some (holder [] a)) o false
    by_context None = refl
    by_context (Some a) = refl

-- no context is held
pub opened : (k : Declarations) (v : AtomicQueues) → AreInBounds k → ((q : ℕ) → context_at v.of_queue.items q ≡ atomic_of k q) → shape v.contexts ≡ atomic_shape k
    → length v.members.items ≡ (atomic_shape k).contexts → AreMembers (context_at v.of_queue.items) v.members.items → atomic.Stands v.contexts []
    → ((q : ℕ) → contains v.held q ≡ false) → AtomicsStand k v []
opened k v graph of_queue same count members stands none =
    record {
      contexts = stands;
      shape = same;
      of_queue = of_queue;
      within = λ q a is. within k q a graph is;
      count = count;
      members = λ a q s lt is. members a q s lt is ∙ ap (is_number a) (of_queue q);
      held = λ q. none q ∙ none-held k q;
      holdings = λ c a h. absurd (none-some a h);
    }
