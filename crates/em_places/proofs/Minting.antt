-- Parked handles sit after mintings.
use Rattle.std.proofs.Common.{◌≡◌, ◌≢◌, ℕ, suc, ◌+◌, ◌≤◌, ◌<◌, ◌==◌, Bool, true, false, ◌||◌, List, [], ◌∷◌, drop, Option, Some, None, refl, sym, ◌∙◌, subst, ap, if◌then◌else◌, arith}
use Rattle.em_laws.proofs.Acks.{has-cons}
use Rattle.std.specs.List.{find}
use Rattle.std.specs.Option.{option_map, option_map_or}
use Rattle.std.proofs.lemmas.Bool.{eq-eqb}
use Rattle.em_log.specs.declared.declarations.Declarations.{Declarations}
use Rattle.em_log.specs.declared.entry.Event.{Event}
use Rattle.em_log.specs.declared.entry.What.{What}
use Rattle.em_log.specs.declared.ids.Limits.{Limits}
use Rattle.em_log.specs.declared.ids.Kind.{Kind}
use Rattle.em_log.specs.declared.ids.PoolId.{PoolId}
use Rattle.em_log.specs.declared.ids.QueueId.{QueueId}
use Rattle.em_log.specs.declared.ids.Stamp.{Stamp}
use Rattle.em_log.specs.History.{Past, entry_by, has, index_of}
use Rattle.em_log.specs.Declarations.{kind_of, is_output, is_unscheduled, is_number, indices_of_pool}
use Rattle.em_log.specs.Contexts.{context_object}
use Rattle.em_log.specs.Handles.{Minting, minting, next_handle, generation, last_handle, Spending, spending}
use Rattle.em_log.specs.Arrivals.{Item, is_for, arrivals}
use Rattle.em_log.specs.Places.{gone, waiting, taken, kept, has_item, place, is_free}
use Rattle.em_log.specs.Leads.{item_again, kept_again, claimed_from, claimed, dequeued}
use Rattle.em_log.specs.Lawful.{AllAllowed}
use Rattle.em_log.specs.Laws.{handles_of}
use Rattle.em_moments.proofs.Moments.{AllocMoment, StartMoment, ClaimMoment, DequeueMoment}
use Rattle.em_pool.specs.declared.place.Place.{Place}
use Rattle.em_laws.specs.Minted.{HasSmallIndices}
use Rattle.em_laws.proofs.Cores.{Compared, Same, Other, compared, if-same, some-inj}
use Rattle.em_laws.proofs.Counts.{occ, has-occ}
use Rattle.em_laws.proofs.Fresh.{free-small, handle-index}
use Rattle.em_laws.proofs.Lists.{for-queue, waiting-for}
use Rattle.em_laws.proofs.Served.{cons-some}
use Rattle.em_parts.specs.PoolSteps.{pool_steps}
use Rattle.em_pool.specs.Spots.{spot}
use Rattle.em_places.specs.Parked.{Parked, InContext, InQueue, InTaken, InOrder, InOperation, InGroup, InObject, InPool, free_after, Sits, AllSit}
use Rattle.em_arrivals.proofs.Arrivals.{items-occ, waiting-once, waiting-apart, taken-once}
use Rattle.em_places.proofs.FreeAfter.{free-pull}
use Rattle.em_places.proofs.Unmoved.{same-handle, same-place, MintSits, mint-keeps, mint-aside, mint-context, next-index, apart-lists, taken-inj, waiting-inj, kept-inj}
use Rattle.em_arrivals.proofs.Lists.{drop-more, has_item-drop}

-- an event that is free by the history is free by the steps
abbrev pub FreeAlike : Declarations → Past → Type 0
FreeAlike k past = (i : ℕ) → is_free (place k past i) ≡ true → spot (pool_steps k past) i ≡ Place.Free

-- an event that was free, and is not the one that is minted
mint-pool : (k : Declarations) (past : Past) (d : ℕ) (e : Event) (h : ℕ) (p : Place) (m : Minting) (s : Spending) → spending past e.handle.0 ≡ None → AllSit k past
    → (if index_of e.handle.0 == index_of h then Some e.handle.0 else last_handle past (index_of h)) ≡ Some h
    → (if e.handle.0 == h then Some (record { core = d; event = e }) else minting past h) ≡ Some m → spending past h ≡ Some s → free_after k past h s.what ≡ true → p ≡ Place.Free
    → MintSits k past d e h p
mint-pool k past d e h p m s fresh older last minted spent free eq = by_handle (compared e.handle.0 h)
  where
    by_index : e.handle.0 ≢ h → (e.handle.0 == h) ≡ false → Compared (index_of e.handle.0) (index_of h) → MintSits k past d e h p
    by_index ne f (Same t same) = absurd (ne (some-inj _ _ (rw t at last)))
    by_index ne f (Other t other) =
        mint-keeps k past d e h p (older h p (InPool m s (rw t at last) (rw f at minted) spent free eq)) other

    by_handle : Compared e.handle.0 h → MintSits k past d e h p
    by_handle (Same t same) = let none : spending past h ≡ None = ap (spending past) (sym same) ∙ fresh in absurd (cc (none, spent))
    by_handle (Other f ne) = by_index ne f (compared (index_of e.handle.0) (index_of h))

found-is : (p : ℕ → Bool) (is : List ℕ) (i : ℕ) → find p is ≡ Some i → p i ≡ true
found-is p [] i e = absurd cc
found-is p (x ∷ xs) i e = by_test (p x) refl e (found-is p xs i)
  where
    by_test : (b : Bool) → p x ≡ b → (if b then Some x else find p xs) ≡ Some i → (find p xs ≡ Some i → p i ≡ true) → p i ≡ true
    by_test true at e later = let same : x ≡ i = some-inj x i e in ap p (sym same) ∙ at
    by_test false at e later = later e

pub sits-alloc : (k : Declarations) (past : Past) (d : ℕ) (a : PoolId) (e : Event) → HasSmallIndices k → AllocMoment k past d a.0 e → FreeAlike k past → spending past e.handle.0 ≡ None → AllSit k past
    → AllSit k (entry_by d (What.Alloc a e) ∷ past)
sits-alloc k past d a e small m free fresh older h p parked = by_parked parked
  where
    lt : m.index < 65536
    lt = free-small k past a.0 m.index small m.free

    at : spot (pool_steps k past) (index_of e.handle.0) ≡ Place.Free
    at = ap (spot (pool_steps k past)) (ap index_of m.handle ∙ handle-index (generation past m.index + 1) m.index lt)
        ∙ free m.index (found-is (λ i. is_free (place k past i)) (indices_of_pool k a.0) m.index m.free)

    given : MintSits k past d e h p → Sits k (entry_by d (What.Alloc a e) ∷ past) h p
    given s = record { last = s.last; spot = s.spot }

    other : Parked k past h p → p ≢ Place.Free → Sits k (entry_by d (What.Alloc a e) ∷ past) h p
    other q ne = given (mint-aside k past d e Place.Free at h p (older h p q) ne)

    by_parked : Parked k (entry_by d (What.Alloc a e) ∷ past) h p → Sits k (entry_by d (What.Alloc a e) ∷ past) h p
    by_parked (InContext v is un eq) =
        given (mint-context k past d e h p v older is un eq (λ f r s re. mint-aside k past d e Place.Free at f r s (λ z. absurd (cc (re, z)))))
    by_parked (InQueue q c plain is eq) = other (InQueue q c plain is eq) (λ z. absurd (cc (eq, z)))
    by_parked (InTaken c is eq) = other (InTaken c (subst (λ xs. has_item xs h ≡ true) (if-same (d == c) (taken k past c)) is) eq) (λ z. absurd (cc (eq, z)))
    by_parked (InOrder s f q t st is what not_yet eq) = other (InOrder s f q t st is what not_yet eq) (λ z. absurd (cc (eq, z)))
    by_parked (InOperation n o is un there eq) = other (InOperation n o is un there eq) (λ z. absurd (cc (eq, z)))
    by_parked (InGroup g on there eq) = other (InGroup g on there eq) (λ z. absurd (cc (eq, z)))
    by_parked (InObject x there eq) = other (InObject x there eq) (λ z. absurd (cc (eq, z)))
    by_parked (InPool v s last is spent free eq) =
        given (mint-pool k past d e h p v s fresh older last is spent (free-pull k past (entry_by d (What.Alloc a e) ∷ past) h s.what (λ q e. e) (λ n. refl) (λ g a. refl) free) eq)

-- starts

head-has : (x : Item) (xs : List Item) → has_item (x ∷ xs) x.handle ≡ true
head-has x xs = rw (eq-eqb x.handle x.handle refl) refl

head-once : (h : ℕ) (x : Item) (xs : List Item) → x.handle ≡ h → has_item xs h ≡ true → occ h (handles_of (x ∷ xs)) ≤ 1 → ⊥
head-once h x xs same there once =
    let more = items-occ h xs there in
    let whole : occ h (handles_of (x ∷ xs)) ≡ suc (occ h (handles_of xs)) = rw (eq-eqb x.handle h same) refl in
    omega (arith, once, more, whole)

pub sits-start : (k : Declarations) (l : Limits) (past : Past) (d : ℕ) (r : QueueId) (e : Event) (st : Option Stamp) → AllAllowed k l past → StartMoment k past d r.0 e st → spending past e.handle.0 ≡ None → AllSit k past
    → AllSit k (entry_by d (What.Start r e st) ∷ past)
sits-start k l past d r e st all m fresh older h p parked = by_parked parked
  where
    f : ℕ
    f = m.item.handle

    has_f : has_item (taken k past d) f ≡ true
    has_f = ap (λ xs. has_item xs f) m.taken ∙ head-has m.item m.rest

    sits_f : Sits k past f (Place.Taken (record { 0 = d }))
    sits_f = older f _ (InTaken d has_f refl)

    index : index_of e.handle.0 ≡ index_of f
    index = ap (λ (v : Event). index_of v.handle.0) m.event ∙ next-index past f

    at : spot (pool_steps k past) (index_of e.handle.0) ≡ Place.Taken (record { 0 = d })
    at = ap (spot (pool_steps k past)) index ∙ sits_f.spot

    given : MintSits k past d e h p → Sits k (entry_by d (What.Start r e st) ∷ past) h p
    given s = record { last = s.last; spot = s.spot }

    other : Parked k past h p → p ≢ Place.Taken (record { 0 = d }) → Sits k (entry_by d (What.Start r e st) ∷ past) h p
    other q ne = given (mint-aside k past d e (Place.Taken (record { 0 = d })) at h p (older h p q) ne)

    in_rest : has_item (drop 1 (taken k past d)) h ≡ true → p ≡ Place.Taken (record { 0 = d }) → Sits k (entry_by d (What.Start r e st) ∷ past) h p
    in_rest is eq =
        let sits = older h p (InTaken d (has_item-drop h 1 (taken k past d) is) eq) in
        let there : has_item m.rest h ≡ true = sym (ap (λ xs. has_item (drop 1 xs) h) m.taken) ∙ is in
        let some : taken k past d ≢ [] = cons-some m.item (taken k past d) m.rest m.taken in
        given (mint-keeps k past d e h p sits (λ same.
        let one : f ≡ h = same-handle k past h f p _ sits sits_f (sym index ∙ same) in
        let own : is_for k r.0 d r.0 d ≡ true = own-list in
        let once = taken-once k l past all h r.0 d m.queue some own in
        head-once h m.item m.rest one there (subst (λ xs. occ h (handles_of xs) ≤ 1) m.taken once)))
      where
        own-list : is_for k r.0 d r.0 d ≡ true
        own-list = rw (eq-eqb r.0 r.0 refl, eq-eqb d d refl) (or-true _)
          where
            or-true : (b : Bool) → (b || true) ≡ true
            or-true true = refl
            or-true false = refl

    by_taken : (c : ℕ) → Compared d c → has_item (if d == c then drop 1 (taken k past c) else taken k past c) h ≡ true → p ≡ Place.Taken (record { 0 = c })
        → Sits k (entry_by d (What.Start r e st) ∷ past) h p
    by_taken c (Same t same) is eq =
        in_rest (subst (λ (i : ℕ). has_item (drop 1 (taken k past i)) h ≡ true) (sym same) (rw t at is)) (eq ∙ ap (λ (i : ℕ). Place.Taken (record { 0 = i })) (sym same))
    by_taken c (Other t ne) is eq = other (InTaken c (rw t at is) eq) (λ z. ne (sym (taken-inj c d (sym eq ∙ z))))

    by_parked : Parked k (entry_by d (What.Start r e st) ∷ past) h p → Sits k (entry_by d (What.Start r e st) ∷ past) h p
    by_parked (InContext v is un eq) =
        given (mint-context k past d e h p v older is un eq (λ g s sits re. mint-aside k past d e _ at g s sits (λ z. absurd (cc (re, z)))))
    by_parked (InQueue q c plain is eq) = other (InQueue q c plain is eq) (λ z. absurd (cc (eq, z)))
    by_parked (InTaken c is eq) = by_taken c (compared d c) is eq
    by_parked (InOrder s g q t sx is what not_yet eq) = other (InOrder s g q t sx is what not_yet eq) (λ z. absurd (cc (eq, z)))
    by_parked (InOperation n o is un there eq) = other (InOperation n o is un there eq) (λ z. absurd (cc (eq, z)))
    by_parked (InGroup g on there eq) = other (InGroup g on there eq) (λ z. absurd (cc (eq, z)))
    by_parked (InObject x there eq) = other (InObject x there eq) (λ z. absurd (cc (eq, z)))
    by_parked (InPool v s last is spent free eq) =
        given (mint-pool k past d e h p v s fresh older last is spent (free-pull k past (entry_by d (What.Start r e st) ∷ past) h s.what (λ q e. e) (λ n. refl) (λ g a. refl) free) eq)

-- dequeues

record DequeuedFrom (past : Past) (xs : List Item) (e : Event) : Type 0 where
  item : Item
  rest : List Item
  is : xs ≡ item ∷ rest
  event : e ≡ item_again past item

dequeued-from : (past : Past) (xs : List Item) (e : Event) → Some e ≡ dequeued past xs → DequeuedFrom past xs e
dequeued-from past [] e is = absurd cc
dequeued-from past (x ∷ xs) e is = record { item = x; rest = xs; is = refl; event = some-inj _ _ is }

unscheduled-plain : (k : Declarations) (q : ℕ) → is_unscheduled (kind_of k q) ≡ true → is_output (kind_of k q) ≡ false
unscheduled-plain k q is = by_kind (kind_of k q) is
  where
    by_kind : (v : Kind) → is_unscheduled v ≡ true → is_output v ≡ false
    by_kind Kind.Unscheduled h = refl
    by_kind Kind.Output h = absurd cc
    by_kind Kind.Atomic h = absurd cc
    by_kind Kind.Parallel h = absurd cc
    by_kind Kind.Ordered h = absurd cc
    by_kind Kind.Local h = absurd cc

pub sits-dequeue : (k : Declarations) (l : Limits) (past : Past) (d : ℕ) (r : QueueId) (e : Event) → AllAllowed k l past → DequeueMoment k past d r.0 (Some e) → spending past e.handle.0 ≡ None → AllSit k past
    → AllSit k (entry_by d (What.Dequeue r (Some e)) ∷ past)
sits-dequeue k l past d r e all m fresh older h p parked = by_parked parked
  where
    from : DequeuedFrom past (waiting k past r.0 d) e
    from = dequeued-from past (waiting k past r.0 d) e m.event

    f : ℕ
    f = from.item.handle

    has_f : has_item (waiting k past r.0 d) f ≡ true
    has_f = ap (λ xs. has_item xs f) from.is ∙ head-has from.item from.rest

    sits_f : Sits k past f (Place.Waiting (record { 0 = r.0 }))
    sits_f = older f _ (InQueue r.0 d (unscheduled-plain k r.0 m.unscheduled) has_f refl)

    index : index_of e.handle.0 ≡ index_of f
    index = ap (λ (v : Event). index_of v.handle.0) from.event ∙ next-index past f

    at : spot (pool_steps k past) (index_of e.handle.0) ≡ Place.Waiting (record { 0 = r.0 })
    at = ap (spot (pool_steps k past)) index ∙ sits_f.spot

    given : MintSits k past d e h p → Sits k (entry_by d (What.Dequeue r (Some e)) ∷ past) h p
    given s = record { last = s.last; spot = s.spot }

    other : Parked k past h p → p ≢ Place.Waiting (record { 0 = r.0 }) → Sits k (entry_by d (What.Dequeue r (Some e)) ∷ past) h p
    other q ne = given (mint-aside k past d e (Place.Waiting (record { 0 = r.0 })) at h p (older h p q) ne)

    in_list : (q c : ℕ) → is_output (kind_of k q) ≡ false → p ≡ Place.Waiting (record { 0 = q }) → (b : Bool) → is_for k q c r.0 d ≡ b
        → has_item (drop (if b then suc (gone k past q c) else gone k past q c) (arrivals k past q c)) h ≡ true → Sits k (entry_by d (What.Dequeue r (Some e)) ∷ past) h p
    in_list q c plain eq true own is =
        let same : r.0 ≡ q = for-queue k q c r.0 d own in
        let mine : is_for k q c q d ≡ true = subst (λ (i : ℕ). is_for k q c i d ≡ true) same own in
        let waits : waiting k past q c ≡ from.item ∷ from.rest = sym (ap (λ (i : ℕ). waiting k past i d) same ∙ waiting-for k past q c d mine) ∙ from.is in
        let more : gone k past q c + 1 ≡ suc (gone k past q c) = omega arith in
        let left : drop (suc (gone k past q c)) (arrivals k past q c) ≡ drop 1 (waiting k past q c) =
        ap (λ (i : ℕ). drop i (arrivals k past q c)) (sym more) ∙ sym (drop-more (gone k past q c) 1 (arrivals k past q c)) in
        let here : has_item (drop 1 (waiting k past q c)) h ≡ true = subst (λ xs. has_item xs h ≡ true) left is in
        let there : has_item from.rest h ≡ true = subst (λ xs. has_item (drop 1 xs) h ≡ true) waits here in
        let sits = older h p (InQueue q c plain (has_item-drop h 1 (waiting k past q c) here) eq) in
        given (mint-keeps k past d e h p sits (λ at_one.
        let one : f ≡ h = same-handle k past h f p _ sits sits_f (sym index ∙ at_one) in
        head-once h from.item from.rest one there (subst (λ xs. occ h (handles_of xs) ≤ 1) waits (waiting-once k l past all h q c))))
    in_list q c plain eq false own is =
        let sits = older h p (InQueue q c plain is eq) in
        given (mint-keeps k past d e h p sits (λ at_one.
        let one : f ≡ h = same-handle k past h f p _ sits sits_f (sym index ∙ at_one) in
        let same : r.0 ≡ q = waiting-inj r.0 q (same-place k past h f p _ sits sits_f (sym index ∙ at_one) ∙ eq) in
        let none : is_for k r.0 c r.0 d ≡ false = subst (λ (i : ℕ). is_for k i c r.0 d ≡ false) (sym same) own in
        waiting-apart k l past all h r.0 d r.0 c (λ s b a z. apart-lists k r.0 d c s b none a z)
        (subst (λ (i : ℕ). has_item (waiting k past r.0 d) i ≡ true) one has_f) (subst (λ (i : ℕ). has_item (waiting k past i c) h ≡ true) (sym same) is)))

    by_parked : Parked k (entry_by d (What.Dequeue r (Some e)) ∷ past) h p → Sits k (entry_by d (What.Dequeue r (Some e)) ∷ past) h p
    by_parked (InContext v is un eq) =
        given (mint-context k past d e h p v older is un eq (λ g s sits re. mint-aside k past d e _ at g s sits (λ z. absurd (cc (re, z)))))
    by_parked (InQueue q c plain is eq) = in_list q c plain eq (is_for k q c r.0 d) refl is
    by_parked (InTaken c is eq) = other (InTaken c (subst (λ xs. has_item xs h ≡ true) (if-same (d == c) (taken k past c)) is) eq) (λ z. absurd (cc (eq, z)))
    by_parked (InOrder s g q t sx is what not_yet eq) = other (InOrder s g q t sx is what not_yet eq) (λ z. absurd (cc (eq, z)))
    by_parked (InOperation n o is un there eq) = other (InOperation n o is un there eq) (λ z. absurd (cc (eq, z)))
    by_parked (InGroup g on there eq) = other (InGroup g on there eq) (λ z. absurd (cc (eq, z)))
    by_parked (InObject x there eq) = other (InObject x there eq) (λ z. absurd (cc (eq, z)))
    by_parked (InPool v s last is spent free eq) =
        given (mint-pool k past d e h p v s fresh older last is spent (free-pull k past (entry_by d (What.Dequeue r (Some e)) ∷ past) h s.what (λ q e. e) (λ n. refl) (λ g a. refl) free) eq)

-- claims

record ClaimedFrom (k : Declarations) (past : Past) (d : ℕ) (e : Event) : Type 0 where
  object : ℕ
  is : context_object k past d ≡ Some object
  handle : ℕ
  rest : List ℕ
  kept : kept k past object ≡ handle ∷ rest
  minted : e.handle.0 ≡ next_handle past (index_of handle)

claimed-from : (k : Declarations) (past : Past) (d : ℕ) (e : Event) → Some e ≡ claimed k past d → ClaimedFrom k past d e
claimed-from k past d e is = by_object (context_object k past d) refl is
  where
    by_minting : (x f : ℕ) (fs : List ℕ) → context_object k past d ≡ Some x → kept k past x ≡ f ∷ fs → (m : Option Minting) → Some e ≡ option_map (kept_again past f) m → ClaimedFrom k past d e
    by_minting x f fs at has_kept None is = absurd cc
    by_minting x f fs at has_kept (Some m) is =
        record { object = x; is = at; handle = f; rest = fs; kept = has_kept; minted = ap (λ (v : Event). v.handle.0) (some-inj _ _ is) }

    by_kept : (x : ℕ) → context_object k past d ≡ Some x → (fs : List ℕ) → kept k past x ≡ fs → Some e ≡ claimed_from past fs → ClaimedFrom k past d e
    by_kept x at [] has_kept is = absurd cc
    by_kept x at (f ∷ fs) has_kept is = by_minting x f fs at has_kept (minting past f) is

    by_object : (o : Option ℕ) → context_object k past d ≡ o → Some e ≡ option_map_or (λ x. claimed_from past (kept k past x)) o None → ClaimedFrom k past d e
    by_object None at is = absurd cc
    by_object (Some x) at is = by_kept x at (kept k past x) refl is

first-once : (h f : ℕ) (fs : List ℕ) → f ≡ h → has fs h ≡ true → occ h (f ∷ fs) ≤ 1 → ⊥
first-once h f fs same there once =
    let more = has-occ h fs there in
    let whole : occ h (f ∷ fs) ≡ suc (occ h fs) = rw (eq-eqb f h same) refl in
    omega (arith, once, more, whole)

pub sits-claim : (k : Declarations) (past : Past) (d : ℕ) (e : Event) → ClaimMoment k past d (Some e) → ((x h : ℕ) → occ h (kept k past x) ≤ 1) → spending past e.handle.0 ≡ None → AllSit k past
    → AllSit k (entry_by d (What.Claim (Some e)) ∷ past)
sits-claim k past d e m once fresh older h p parked = by_parked parked
  where
    from : ClaimedFrom k past d e
    from = claimed-from k past d e m.event

    f : ℕ
    f = from.handle

    has_f : has (kept k past from.object) f ≡ true
    has_f = ap (λ xs. has xs f) from.kept ∙ (rw (eq-eqb f f refl) refl)

    sits_f : Sits k past f (Place.Kept (record { 0 = from.object }))
    sits_f = older f _ (InObject from.object has_f refl)

    index : index_of e.handle.0 ≡ index_of f
    index = ap index_of from.minted ∙ next-index past f

    at : spot (pool_steps k past) (index_of e.handle.0) ≡ Place.Kept (record { 0 = from.object })
    at = ap (spot (pool_steps k past)) index ∙ sits_f.spot

    given : MintSits k past d e h p → Sits k (entry_by d (What.Claim (Some e)) ∷ past) h p
    given s = record { last = s.last; spot = s.spot }

    other : Parked k past h p → p ≢ Place.Kept (record { 0 = from.object }) → Sits k (entry_by d (What.Claim (Some e)) ∷ past) h p
    other q ne = given (mint-aside k past d e (Place.Kept (record { 0 = from.object })) at h p (older h p q) ne)

    by_object : (x : ℕ) → Compared x from.object → has (if is_number x (context_object k past d) then drop 1 (kept k past x) else kept k past x) h ≡ true
        → p ≡ Place.Kept (record { 0 = x }) → Sits k (entry_by d (What.Claim (Some e)) ∷ past) h p
    by_object x (Same t same) there eq =
        let object_is : context_object k past d ≡ Some x = from.is ∙ ap (λ (i : ℕ). Some i) (sym same) in
        let on : is_number x (context_object k past d) ≡ true = ap (is_number x) object_is ∙ eq-eqb x x refl in
        let list : kept k past x ≡ f ∷ from.rest = ap (kept k past) same ∙ from.kept in
        let rest : has from.rest h ≡ true = sym (ap (λ xs. has (drop 1 xs) h) list) ∙ (rw on at there) in
        let sits = older h p (InObject x (ap (λ xs. has xs h) list ∙ has-cons f from.rest h rest) eq) in
        given (mint-keeps k past d e h p sits (λ at_one.
        let one : f ≡ h = same-handle k past h f p _ sits sits_f (sym index ∙ at_one) in
        first-once h f from.rest one rest (subst (λ xs. occ h xs ≤ 1) list (once x h))))
    by_object x (Other t ne) there eq =
        let off : is_number x (context_object k past d) ≡ false = ap (is_number x) from.is ∙ t in
        other (InObject x (rw off at there) eq) (λ z. ne (kept-inj x from.object (sym eq ∙ z)))

    by_parked : Parked k (entry_by d (What.Claim (Some e)) ∷ past) h p → Sits k (entry_by d (What.Claim (Some e)) ∷ past) h p
    by_parked (InContext v is un eq) =
        given (mint-context k past d e h p v older is un eq (λ g s sits re. mint-aside k past d e _ at g s sits (λ z. absurd (cc (re, z)))))
    by_parked (InQueue q c plain is eq) = other (InQueue q c plain is eq) (λ z. absurd (cc (eq, z)))
    by_parked (InTaken c is eq) = other (InTaken c (subst (λ xs. has_item xs h ≡ true) (if-same (d == c) (taken k past c)) is) eq) (λ z. absurd (cc (eq, z)))
    by_parked (InOrder s g q t sx is what not_yet eq) = other (InOrder s g q t sx is what not_yet eq) (λ z. absurd (cc (eq, z)))
    by_parked (InOperation n o is un there eq) = other (InOperation n o is un there eq) (λ z. absurd (cc (eq, z)))
    by_parked (InGroup g on there eq) = other (InGroup g on there eq) (λ z. absurd (cc (eq, z)))
    by_parked (InObject x there eq) = by_object x (compared x from.object) there eq
    by_parked (InPool v s last is spent free eq) =
        given (mint-pool k past d e h p v s fresh older last is spent (free-pull k past (entry_by d (What.Claim (Some e)) ∷ past) h s.what (λ q e. e) (λ n. refl) (λ g a. refl) free) eq)
