-- Which queues' atomic contexts are held, after a core takes hold of one or gives it back.
use Rattle.std.proofs.Common.{◌≡◌, ℕ, ◌<◌, ◌==◌, Bool, true, false, not, ◌&&◌, ◌||◌, List, ◌∷◌, get_or, Option, Some, None, Result, Ok, Err, MatchResult, is_some, refl, ap, sym, ◌∙◌, subst, arith, if◌then◌else◌, IsSome}
use Rattle.std.specs.Option.{option_map_or}
use Rattle.std.proofs.lemmas.Bool.{eq-eqb, ne_eqb}
use Rattle.em_log.specs.declared.declarations.Declarations.{Declarations}
use Rattle.em_log.specs.declared.fault.Fault.{Fault}
use Rattle.em_log.specs.Declarations.{atomic_of, is_number}
use Rattle.em_laws.proofs.Cores.{Compared, Same, Other, compared, some-inj}
use Rattle.em_atomic.specs.Steps.{AtomicStep, Grabbed, Given}
use Rattle.em_atomic.specs.Holding.{held, holder}
use Rattle.em_atomic.specs.State.{AtomicState, shape}
use Rattle.em_atomic.specs.Stands as atomic
use Rattle.em_context_parts.specs.AtomicSteps.{grabbed_steps}
use Rattle.em_queues.specs.declared.set.QueueSet.{QueueSet}
use Rattle.em_queues.specs.Sets.{contains}
use Rattle.em_desk.specs.declared.atomic_queues.AtomicQueues.{AtomicQueues}
use Rattle.em_desk.specs.Atomics.{context_at, is_held, atomic_shape, AtomicsStand}

or-true : (b : Bool) → true ≡ (b || true)
or-true true = refl
or-true false = refl

or-false : (b : Bool) → b ≡ (b || false)
or-false true = refl
or-false false = refl

and-true : (b : Bool) → b ≡ (b && true)
and-true true = refl
and-true false = refl

and-false : (b : Bool) → false ≡ (b && false)
and-false true = refl
and-false false = refl

turned : (a b : ℕ) → (b == a) ≡ (a == b)
turned a b = by_test (compared a b)
  where
    by_test : Compared a b → (b == a) ≡ (a == b)
    by_test (Same t e) = eq-eqb b a (sym e) ∙ sym t
    by_test (Other f ne) = ne_eqb b a (λ e. ne (sym e)) ∙ sym f

-- the sets

held-grabbed : (k : Declarations) (s : List AtomicStep) (a c q : ℕ) → is_held k (Grabbed a c ∷ s) q ≡ (is_held k s q || is_number a (atomic_of k q))
held-grabbed k s a c q = by_context (atomic_of k q)
  where
    by_test : (b : ℕ) (t : Bool) → is_some (if t then Some c else holder s b) ≡ (is_some (holder s b) || t)
    by_test b true = or-true (is_some (holder s b))
    by_test b false = or-false (is_some (holder s b))

    by_context : (o : Option ℕ) → option_map_or (λ b. is_some (if a == b then Some c else holder s b)) o false
        ≡ (option_map_or (λ b. is_some (holder s b)) o false || is_number a o)
    by_context None = refl
    by_context (Some b) = by_test b (a == b)

held-given : (k : Declarations) (s : List AtomicStep) (a c : ℕ) (cells : List ℕ) (q : ℕ) → held s c ≡ Some a
    → is_held k (Given c cells ∷ s) q ≡ (is_held k s q && not (is_number a (atomic_of k q)))
held-given k s a c cells q mine = by_context (atomic_of k q)
  where
    by_test : (b : ℕ) (t : Bool) → is_some (if t then None else holder s b) ≡ (is_some (holder s b) && not t)
    by_test b true = and-false (is_some (holder s b))
    by_test b false = and-true (is_some (holder s b))

    by_context : (o : Option ℕ) → option_map_or (λ b. is_some (if is_number b (held s c) then None else holder s b)) o false
        ≡ (option_map_or (λ b. is_some (holder s b)) o false && not (is_number a o))
    by_context None = refl
    by_context (Some b) =
        ap (λ (o : Option ℕ). is_some (if is_number b o then None else holder s b)) mine
        ∙ (ap (λ (t : Bool). is_some (if t then None else holder s b)) (turned a b) ∙ by_test b (a == b))

-- what is held is there

within-grabbed : (n : ℕ) (s : List AtomicStep) (a c d b : ℕ) → a < n → (held s d ≡ Some b → b < n) → held (Grabbed a c ∷ s) d ≡ Some b → b < n
within-grabbed n s a c d b lt older is = by_test (c == d) is
  where
    by_test : (t : Bool) → (if t then Some a else held s d) ≡ Some b → b < n
    by_test true h = subst (λ (x : ℕ). x < n) (some-inj _ _ h) lt
    by_test false h = older h

within-given : (n : ℕ) (s : List AtomicStep) (c : ℕ) (cells : List ℕ) (d b : ℕ) → (held s d ≡ Some b → b < n) → held (Given c cells ∷ s) d ≡ Some b → b < n
within-given n s c cells d b older is = by_test (c == d) is
  where
    by_test : (t : Bool) → (if t then None else held s d) ≡ Some b → b < n
    by_test true h = absurd (cc h)
    by_test false h = older h

-- a core takes hold of the context of a queue
pub grabbed : (k : Declarations) (v : AtomicQueues) (x : AtomicState) (now set : QueueSet) (s : List AtomicStep) (a c q : ℕ) → AtomicsStand k v s
    → Some a ≡ context_at v.of_queue.items q → ((t : List AtomicStep) → atomic.Stands v.contexts t → atomic.Stands x (Grabbed a c ∷ t)) → shape x ≡ shape v.contexts
    → set ≡ get_or v.members.items a set → ((r : ℕ) → contains now r ≡ (contains v.held r || contains set r))
    → AtomicsStand k (record v { contexts = x; held = now }) (grabbed_steps (atomic_of k q) c s)
grabbed k v x now set s a c q st is stands same at union =
    subst (λ (o : Option ℕ). AtomicsStand k (record v { contexts = x; held = now }) (grabbed_steps o c s)) (sym mine)
    (record {
      contexts = stands s st.contexts;
      shape = same ∙ st.shape;
      of_queue = st.of_queue;
      within = st.within;
      count = st.count;
      members = st.members;
      held = λ r. union r ∙ ((λ i. st.held r i || inside r i) ∙ sym (held-grabbed k s a c r));
      holdings = λ d b. within-grabbed (atomic_shape k).contexts s a c d b below (st.holdings d b);
    })
  where
    mine : atomic_of k q ≡ Some a
    mine = sym (is ∙ st.of_queue q)

    below : a < (atomic_shape k).contexts
    below = st.within q a mine

    inside : (r : ℕ) → contains set r ≡ is_number a (atomic_of k r)
    inside r = st.members a r set (let count = st.count in let lt = below in omega (arith, count, lt)) at

-- and gives it back

given-ok : {A : Type 0} (r : Result A Fault) (new old : Type 0) (held_now : Option ℕ) (a : ℕ) → Some a ≡ held_now
    → MatchResult r (λ _. IsSome held_now) (λ f. (f ≡ Fault.NotAtomic) × (held_now ≡ None)) → MatchResult r (λ _. new) (λ _. old) → new
given-ok (Ok x) new old h a is answer stands = stands
given-ok (Err f) new old h a is answer stands = let none = answer.1 in absurd (cc (is, none))

pub given : {A : Type 0} (k : Declarations) (v : AtomicQueues) (x : AtomicState) (now set : QueueSet) (r : Result A Fault) (s : List AtomicStep) (a c : ℕ) (cells : List ℕ) → AtomicsStand k v s
    → ((t : List AtomicStep) → atomic.Stands v.contexts t → Some a ≡ held t c)
    → ((t : List AtomicStep) → atomic.Stands v.contexts t → MatchResult r (λ _. IsSome (held t c)) (λ f. (f ≡ Fault.NotAtomic) × (held t c ≡ None)))
    → ((t : List AtomicStep) → atomic.Stands v.contexts t → MatchResult r (λ _. atomic.Stands x (Given c cells ∷ t)) (λ _. atomic.Stands x t)) → shape x ≡ shape v.contexts
    → set ≡ get_or v.members.items a set → ((q : ℕ) → contains now q ≡ (contains v.held q && not (contains set q)))
    → AtomicsStand k (record v { contexts = x; held = now }) (Given c cells ∷ s)
given k v x now set r s a c cells st holds answer stands same at less =
    record {
      contexts = given-ok r (atomic.Stands x (Given c cells ∷ s)) (atomic.Stands x s) (held s c) a (holds s st.contexts) (answer s st.contexts) (stands s st.contexts);
      shape = same ∙ st.shape;
      of_queue = st.of_queue;
      within = st.within;
      count = st.count;
      members = st.members;
      held = λ q. less q ∙ ((λ i. st.held q i && not (inside q i)) ∙ sym (held-given k s a c cells q mine));
      holdings = λ d b. within-given (atomic_shape k).contexts s c cells d b (st.holdings d b);
    }
  where
    mine : held s c ≡ Some a
    mine = sym (holds s st.contexts)

    inside : (q : ℕ) → contains set q ≡ is_number a (atomic_of k q)
    inside q = st.members a q set (let count = st.count in let lt = st.holdings c a mine in omega (arith, count, lt)) at
