-- Which queues a core may take from, after each call.
use Rattle.std.proofs.Common.{◌≡◌, ℕ, zero, suc, ◌+◌, ◌<◌, nat_lt, Bool, true, false, not, ◌&&◌, List, [], ◌∷◌, length, map, get_or, slice_set, slice_get, slice_index_or, Option, Some, None, unwrap_or, refl, ap, sym, ◌∙◌, subst, arith, if◌then◌else◌}
use Rattle.std.specs.Option.{option_map_or, option_and_then}
use Rattle.std.proofs.lemmas.Bool.{lt-ltb, le-ltb, ltb-true}
use Rattle.std.proofs.lemmas.List.{get_or-set_same, get_or-set_other, get_or_default}
use Rattle.em_log.specs.declared.declarations.Declarations.{Declarations}
use Rattle.em_log.specs.declared.ids.EoState.{EoState}
use Rattle.em_log.specs.Declarations.{object_of, group_of, group_in, is_number}
use Rattle.em_log.specs.States.{first_state, is_running}
use Rattle.em_log.specs.Eligible.{has_core}
use Rattle.em_laws.proofs.Cores.{Compared, Same, Other, compared}
use Rattle.em_queues.specs.declared.set.QueueSet.{QueueSet}
use Rattle.em_queues.specs.Sets.{contains}
use Rattle.em_objects.specs.Steps.{ObjectStep, Moved}
use Rattle.em_groups.specs.Masks.{effective}
use Rattle.em_groups.specs.Steps.{GroupStep}
use Rattle.em_operation_parts.specs.Queues.{in_group, group_of_step}
use Rattle.em_operation_parts.proofs.Queues.{move-concerns, change-concerns}
use Rattle.em_operations.specs.declared.queue_sets.QueueSets.{QueueSets}
use Rattle.em_operations.specs.QueueSets.{object_in, number_at, runs_as, bars_as, put_as, AreDeclaredBarred, AreOf, AreRebarred, SetsStand}

-- as declared

mapped-at : {A : Type 0} (f : A → Option ℕ) (ds : List A) (q : ℕ) → slice_index_or (map f ds) q None ≡ option_and_then f (slice_get ds q)
mapped-at f [] q = refl
mapped-at f (d ∷ ds) zero = refl
mapped-at f (d ∷ ds) (suc q) = mapped-at f ds q

object-at : (k : Declarations) (objects : List (Option ℕ)) (q : ℕ) → objects ≡ map object_in k.queues → number_at objects q ≡ object_of k q
object-at k objects q is = ap (λ (xs : List (Option ℕ)). number_at xs q) is ∙ mapped-at object_in k.queues q

group-at : (k : Declarations) (groups : List (Option ℕ)) (q : ℕ) → groups ≡ map (group_in k) k.queues → number_at groups q ≡ group_of k q
group-at k groups q is = ap (λ (xs : List (Option ℕ)). number_at xs q) is ∙ mapped-at (group_in k) k.queues q

state-runs : (o : Option Bool) → unwrap_or o false ≡ is_running (option_map_or first_state o EoState.Created)
state-runs None = refl
state-runs (Some true) = refl
state-runs (Some false) = refl

runs-declared : (k : Declarations) (o : Option ℕ)
    → runs_as k.running o ≡ option_map_or (λ x. is_running (option_map_or first_state (slice_get k.running x) EoState.Created)) o false
runs-declared k None = refl
runs-declared k (Some x) = state-runs (slice_get k.running x)

bars-declared : (k : Declarations) (c : ℕ) (o : Option ℕ) → bars_as k c o ≡ not (option_map_or (λ g. has_core (effective k [] g) c) o true)
bars-declared k c None = refl
bars-declared k c (Some g) = refl

pub opened : (k : Declarations) (v : QueueSets) (objects groups : List (Option ℕ)) → objects ≡ map object_in k.queues → groups ≡ map (group_in k) k.queues
    → length v.of_object.items ≡ length k.running → AreOf (number_at objects) v.of_object.items
    → length v.of_group.items ≡ length k.groups + 1 → AreOf (number_at groups) v.of_group.items
    → ((q : ℕ) → contains v.running q ≡ runs_as k.running (number_at objects q)) → ((q : ℕ) → contains v.disabled q ≡ false)
    → length v.barred.items ≡ k.cores → AreDeclaredBarred k groups v.barred.items → SetsStand k v [] []
opened k v objects groups object group object_count of_object group_count of_group running disabled core_count barred =
    record {
      object_count = object_count;
      of_object = λ n q s lt is. of_object n q s lt is ∙ ap (is_number n) (object-at k objects q object);
      group_count = group_count;
      of_group = λ n q s lt is. of_group n q s lt is ∙ ap (is_number n) (group-at k groups q group);
      running = λ q. running q ∙ (ap (runs_as k.running) (object-at k objects q object) ∙ runs-declared k (object_of k q));
      disabled = disabled;
      core_count = core_count;
      barred = λ c q s lt is. barred c q s lt is ∙ (ap (bars_as k c) (group-at k groups q group) ∙ bars-declared k c (group_of k q));
    }

-- an object comes to a state
pub moved : (k : Declarations) (v : QueueSets) (set now : QueueSet) (objects : List ObjectStep) (groups : List GroupStep) (x : ℕ) (to : EoState) → SetsStand k v objects groups
    → x < length v.of_object.items → set ≡ get_or v.of_object.items x set → ((q : ℕ) → contains now q ≡ put_as (contains set q) (is_running to) (contains v.running q))
    → SetsStand k (record v { running = now }) (Moved x to ∷ objects) groups
moved k v set now objects groups x to st lt at put =
    record {
      object_count = st.object_count;
      of_object = st.of_object;
      group_count = st.group_count;
      of_group = st.of_group;
      running = λ q.
          put q
          ∙ ((λ i. put_as (st.of_object x q set lt at i) (is_running to) (st.running q i)) ∙ sym (move-concerns k objects x to q));
      disabled = st.disabled;
      core_count = st.core_count;
      barred = st.barred;
    }

-- core after core is barred from the queues of a group, or not

pub none-rebarred : (old : List QueueSet) (queues : QueueSet) (mask : ℕ) → AreRebarred 0 old queues mask old
none-rebarred old queues mask = λ c q s t lt is was.
    let same : s ≡ t = is ∙ (get_or_default old c s t lt ∙ sym was) in
    ap (λ (x : QueueSet). contains x q) same ∙ by_test q c (contains queues q) (contains t q) (le-ltb c 0 (omega arith))
  where
    by_test : (q c : ℕ) (b r : Bool) → nat_lt c 0 ≡ false → r ≡ put_as (b && nat_lt c 0) (not (has_core mask c)) r
    by_test q c true r none = rw none refl
    by_test q c false r none = refl

-- below the next number as below this one, for every other
below-other : (c n : ℕ) → (c ≡ n → ⊥) → nat_lt c (n + 1) ≡ nat_lt c n
below-other c n ne = by_lt (nat_lt c n) refl
  where
    by_lt : (b : Bool) → nat_lt c n ≡ b → nat_lt c (n + 1) ≡ b
    by_lt true t = let lt = ltb-true c n t in lt-ltb c (n + 1) (omega (arith, lt))
    by_lt false f =
        let no : c < n → ⊥ = λ lt. absurd (let on = lt-ltb c n lt in cc (on, f)) in
        le-ltb c (n + 1) (omega (arith, no, ne))

pub next-rebarred : (old now : List QueueSet) (queues set was_set : QueueSet) (mask n : ℕ) (d : QueueSet) → n < length old → length now ≡ length old → AreRebarred n old queues mask now
    → was_set ≡ get_or now n d → ((q : ℕ) → contains set q ≡ put_as (contains queues q) (not (has_core mask n)) (contains was_set q))
    → AreRebarred (n + 1) old queues mask (slice_set now n set)
next-rebarred old now queues set was_set mask n d below same before at put = λ c q s t lt is was. by_test c q s t lt is was (compared c n)
  where
    within : n < length now
    within = omega (arith, below, same)

    put-first : (b off on h r : Bool) → on ≡ true → put_as b h (put_as (b && off) h r) ≡ put_as (b && on) h r
    put-first true off on h r is = rw is refl
    put-first false off on h r is = refl

    by_test : (c q : ℕ) (s t : QueueSet) → c < length old → s ≡ get_or (slice_set now n set) c s → t ≡ get_or old c t → Compared c n
        → contains s q ≡ put_as (contains queues q && nat_lt c (n + 1)) (not (has_core mask c)) (contains t q)
    by_test c q s t lt is was (Same e one) =
        let at_n : get_or (slice_set now n set) c s ≡ set = ap (λ (m : ℕ). get_or (slice_set now n set) m s) one ∙ get_or-set_same now n set s within in
        let old_at : t ≡ get_or old n t = was ∙ ap (λ (m : ℕ). get_or old m t) one in
        let now_at : was_set ≡ get_or now n was_set = at ∙ get_or_default now n d was_set within in
        ap (λ (x : QueueSet). contains x q) (is ∙ at_n)
        ∙ (put q
        ∙ (ap (put_as (contains queues q) (not (has_core mask n))) (before n q was_set t below now_at old_at)
        ∙ (put-first (contains queues q) (nat_lt n n) (nat_lt n (n + 1)) (not (has_core mask n)) (contains t q) (lt-ltb n (n + 1) (omega arith))
        ∙ ap (λ (m : ℕ). put_as (contains queues q && nat_lt m (n + 1)) (not (has_core mask m)) (contains t q)) (sym one))))
    by_test c q s t lt is was (Other f ne) =
        let here : s ≡ get_or now c s = is ∙ get_or-set_other now n c set s ne in
        before c q s t lt here was ∙ ap (λ (b : Bool). put_as (contains queues q && b) (not (has_core mask c)) (contains t q)) (sym (below-other c n ne))

-- a group comes to a mask in force
pub masked : (k : Declarations) (v : QueueSets) (w : QueueSets) (set : QueueSet) (objects : List ObjectStep) (groups : List GroupStep) (s : GroupStep) (g m : ℕ) → SetsStand k v objects groups
    → g < length v.of_group.items → set ≡ get_or v.of_group.items g set → group_of_step s ≡ g → m ≡ effective k (s ∷ groups) g
    → w.of_object ≡ v.of_object → w.of_group ≡ v.of_group → w.running ≡ v.running → w.disabled ≡ v.disabled
    → length w.barred.items ≡ length v.barred.items → AreRebarred (length v.barred.items) v.barred.items set m w.barred.items
    → SetsStand k w objects (s ∷ groups)
masked k v w set objects groups s g m st lt at of mask same_objects same_groups same_running same_disabled count rebarred =
    record {
      object_count = ap (λ x. length x.items) same_objects ∙ st.object_count;
      of_object = subst (λ x. AreOf (object_of k) x.items) (sym same_objects) st.of_object;
      group_count = ap (λ x. length x.items) same_groups ∙ st.group_count;
      of_group = subst (λ x. AreOf (group_of k) x.items) (sym same_groups) st.of_group;
      running = λ q. ap (λ x. contains x q) same_running ∙ st.running q;
      disabled = λ q. ap (λ x. contains x q) same_disabled ∙ st.disabled q;
      core_count = count ∙ st.core_count;
      barred = λ c q x below is. by_core c q x (omega (arith, below, count)) is;
    }
  where
    by_concern : (b p h w : Bool) → p ≡ true → put_as (b && p) (not h) (not w) ≡ not (if b then h else w)
    by_concern true p h w on = rw on refl
    by_concern false p h w on = refl

    by_core : (c q : ℕ) (x : QueueSet) → c < length v.barred.items → x ≡ get_or w.barred.items c x → contains x q ≡ not (in_group k (s ∷ groups) c q)
    by_core c q x below is =
        let old = get_or v.barred.items c x in
        let was : old ≡ get_or v.barred.items c old = get_or_default v.barred.items c x old below in
        rebarred c q x old below is was
        ∙ ((λ i. put_as (st.of_group g q set lt at i && nat_lt c (length v.barred.items)) (not (has_core m c)) (st.barred c q old below was i))
        ∙ (by_concern (is_number g (group_of k q)) (nat_lt c (length v.barred.items)) (has_core m c) (in_group k groups c q) (lt-ltb c (length v.barred.items) below)
        ∙ ((λ i. not (if is_number g (group_of k q) then has_core (mask i) c else in_group k groups c q))
        ∙ ap not (by_step of))))
      where
        by_step : group_of_step s ≡ g → (if is_number g (group_of k q) then has_core (effective k (s ∷ groups) g) c else in_group k groups c q) ≡ in_group k (s ∷ groups) c q
        by_step e =
            subst (λ (h : ℕ). (if is_number h (group_of k q) then has_core (effective k (s ∷ groups) h) c else in_group k groups c q) ≡ in_group k (s ∷ groups) c q) e
            (sym (change-concerns k groups s c q))
