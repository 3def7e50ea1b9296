-- Parked handles sit after takes, and after what is taken is given back.
use Rattle.std.proofs.Common.{◌≡◌, ℕ, ◌+◌, ◌-◌, ◌==◌, Bool, true, false, List, [], ◌∷◌, length, map, take, drop, Option, Some, None, refl, sym, ◌∙◌, subst, ap, if◌then◌else◌, arith}
use Rattle.std.specs.Option.{option_and_then}
use Rattle.em_log.specs.declared.declarations.Declarations.{Declarations}
use Rattle.em_log.specs.declared.entry.What.{What}
use Rattle.em_log.specs.declared.ids.Cells.{Cells}
use Rattle.em_log.specs.declared.ids.Limits.{Limits}
use Rattle.em_log.specs.declared.ids.QueueId.{QueueId}
use Rattle.em_log.specs.History.{Past, entry_by, index_of}
use Rattle.em_log.specs.Declarations.{kind_of, is_output, atomic_of}
use Rattle.em_log.specs.Contexts.{receives_from, take_queue}
use Rattle.em_log.specs.Handles.{last_handle}
use Rattle.em_log.specs.Order.{ticket_of_send}
use Rattle.em_log.specs.Arrivals.{Item, is_for, arrivals}
use Rattle.em_log.specs.Places.{gone, waiting, taken, has_item}
use Rattle.em_log.specs.Atomic.{if_holder, received_atomic, holds}
use Rattle.em_log.specs.Lawful.{AllAllowed}
use Rattle.em_moments.proofs.Moments.{TakeMoment, UntakeMoment, EndAtomicMoment}
use Rattle.em_pool.specs.declared.place.Place.{Place}
use Rattle.em_laws.proofs.Cores.{Compared, Same, Other, compared}
use Rattle.em_laws.proofs.Lists.{for-queue, waiting-for}
use Rattle.em_laws.proofs.Started.{receives-queue}
use Rattle.em_parts.specs.PoolSteps.{Move, moved, item_move, back_moves, pool_steps}
use Rattle.em_pool.specs.Spots.{spot}
use Rattle.em_places.specs.Parked.{Parked, InContext, InQueue, InTaken, InOrder, InOperation, InGroup, InObject, InPool, free_after, Sits, AllSit}
use Rattle.em_parts.proofs.QueueLists.{served-output}
use Rattle.em_arrivals.proofs.Arrivals.{waiting-once, waiting-apart, front-apart, given-back}
use Rattle.em_places.proofs.Moves.{touches, untouched, moved-to, items-to, touched-item, item-touched}
use Rattle.em_places.proofs.FreeAfter.{free-pull}
use Rattle.em_places.proofs.Unmoved.{same-handle, same-place, apart-lists, taken-inj, waiting-inj, not-before}
use Rattle.em_arrivals.proofs.Lists.{drop-more, has_item-take, has_item-drop, InEither, InFirst, InSecond, in-either}

-- after these items have moved
record MovedSits (k : Declarations) (past : Past) (ms : List Move) (h : ℕ) (p : Place) : Type 0 where
  last : last_handle past (index_of h) ≡ Some h
  spot : spot (moved ms (pool_steps k past)) (index_of h) ≡ p

-- a handle of an index that does not move
unmoved : (k : Declarations) (past : Past) (ms : List Move) (h : ℕ) (p : Place) → Sits k past h p → touches ms (index_of h) ≡ false → MovedSits k past ms h p
unmoved k past ms h p s none = record { last = s.last; spot = untouched ms (pool_steps k past) (index_of h) none ∙ s.spot }

-- either it does not move, or it is one of the items
by-touch : (k : Declarations) (past : Past) (to src : Place) (xs : List Item) (h : ℕ) (p : Place) → ((f : ℕ) → has_item xs f ≡ true → Sits k past f src) → Sits k past h p
    → (has_item xs h ≡ true → p ≡ src → MovedSits k past (map (item_move to) xs) h p) → MovedSits k past (map (item_move to) xs) h p
by-touch k past to src xs h p source s moves = by_test (touches (map (item_move to) xs) (index_of h)) refl
  where
    by_test : (b : Bool) → touches (map (item_move to) xs) (index_of h) ≡ b → MovedSits k past (map (item_move to) xs) h p
    by_test false is = unmoved k past (map (item_move to) xs) h p s is
    by_test true is =
        let t = touched-item to xs (index_of h) is in
        let u = source t.handle t.among in
        let same = same-handle k past h t.handle p src s u t.index in
        moves (subst (λ (i : ℕ). has_item xs i ≡ true) same t.among) (sym (same-place k past h t.handle p src s u t.index))

moves-there : (k : Declarations) (past : Past) (to src : Place) (xs : List Item) (h : ℕ) → ((f : ℕ) → has_item xs f ≡ true → Sits k past f src) → has_item xs h ≡ true
    → MovedSits k past (map (item_move to) xs) h to
moves-there k past to src xs h source is =
    let s = source h is in
    record { last = s.last; spot = moved-to (map (item_move to) xs) (pool_steps k past) (index_of h) to (items-to to xs (index_of h)) (item-touched to xs h is) }

pub sits-take : (k : Declarations) (l : Limits) (past : Past) (d : ℕ) (r : QueueId) (n : ℕ) (t : Option ℕ) → AllAllowed k l past → TakeMoment k l past d r.0 n t → AllSit k past
    → AllSit k (entry_by d (What.Take r n t) ∷ past)
sits-take k l past d r n t all m older h p parked = by_parked parked
  where
    free-kept : (v : What) → free_after k (entry_by d (What.Take r n t) ∷ past) h v ≡ true → free_after k past h v ≡ true
    free-kept v free = free-pull k past (entry_by d (What.Take r n t) ∷ past) h v (λ q e. e) (λ n. refl) (λ g a. refl) free

    ws : List Item
    ws = waiting k past r.0 d

    to : Place
    to = Place.Taken (record { 0 = d })

    source : (f : ℕ) → has_item (take n ws) f ≡ true → Sits k past f (Place.Waiting (record { 0 = r.0 }))
    source f is = older f _ (InQueue r.0 d (served-output (kind_of k r.0) m.ready.served) (has_item-take f n ws is) refl)

    given : MovedSits k past (map (item_move to) (take n ws)) h p → Sits k (entry_by d (What.Take r n t) ∷ past) h p
    given s = record { last = s.last; spot = s.spot }

    other : Parked k past h p → (p ≡ Place.Waiting (record { 0 = r.0 }) → ⊥) → Sits k (entry_by d (What.Take r n t) ∷ past) h p
    other q ne = given (by-touch k past to _ (take n ws) h p source (older h p q) (λ is e. absurd (ne e)))

    in_list : (q c : ℕ) → is_output (kind_of k q) ≡ false → p ≡ Place.Waiting (record { 0 = q }) → (b : Bool) → is_for k q c r.0 d ≡ b
        → has_item (drop (if b then gone k past q c + n else gone k past q c) (arrivals k past q c)) h ≡ true → Sits k (entry_by d (What.Take r n t) ∷ past) h p
    in_list q c plain eq true own is =
        let same : r.0 ≡ q = for-queue k q c r.0 d own in
        let mine : is_for k q c q d ≡ true = subst (λ (i : ℕ). is_for k q c i d ≡ true) same own in
        let waits : ws ≡ waiting k past q c = ap (λ (i : ℕ). waiting k past i d) same ∙ waiting-for k past q c d mine in
        let here : has_item (drop n (waiting k past q c)) h ≡ true = subst (λ xs. has_item xs h ≡ true) (sym (drop-more (gone k past q c) n (arrivals k past q c))) is in
        given (by-touch k past to _ (take n ws) h p source (older h p (InQueue q c plain (has_item-drop h n (waiting k past q c) here) eq))
        (λ front e. absurd (front-apart h n (waiting k past q c) (waiting-once k l past all h q c) (subst (λ xs. has_item (take n xs) h ≡ true) waits front) here)))
    in_list q c plain eq false own is =
        given (by-touch k past to _ (take n ws) h p source (older h p (InQueue q c plain is eq))
        (λ front e.
        let same : q ≡ r.0 = waiting-inj q r.0 (sym eq ∙ e) in
        let none : is_for k r.0 c r.0 d ≡ false = subst (λ (i : ℕ). is_for k i c r.0 d ≡ false) same own in
        absurd (waiting-apart k l past all h r.0 d r.0 c (λ s b a z. apart-lists k r.0 d c s b none a z) (has_item-take h n ws front)
        (subst (λ (i : ℕ). has_item (waiting k past i c) h ≡ true) same is))))

    by_taken : (c : ℕ) → Compared d c → has_item (if d == c then take n (waiting k past r.0 c) else taken k past c) h ≡ true → p ≡ Place.Taken (record { 0 = c })
        → Sits k (entry_by d (What.Take r n t) ∷ past) h p
    by_taken c (Same u same) is eq =
        let here : has_item (take n ws) h ≡ true = subst (λ (i : ℕ). has_item (take n (waiting k past r.0 i)) h ≡ true) (sym same) (rw u at is) in
        let s = moves-there k past to _ (take n ws) h source here in
        let e : to ≡ p = ap (λ (i : ℕ). Place.Taken (record { 0 = i })) same ∙ sym eq in
        record { last = s.last; spot = s.spot ∙ e }
    by_taken c (Other u ne) is eq = other (InTaken c (rw u at is) eq) (λ z. absurd (cc (eq, z)))

    by_parked : Parked k (entry_by d (What.Take r n t) ∷ past) h p → Sits k (entry_by d (What.Take r n t) ∷ past) h p
    by_parked (InContext v is un eq) = other (InContext v is un eq) (λ z. absurd (cc (eq, z)))
    by_parked (InQueue q c plain is eq) = in_list q c plain eq (is_for k q c r.0 d) refl is
    by_parked (InTaken c is eq) = by_taken c (compared d c) is eq
    by_parked (InOrder s g q u sx is what not_yet eq) = other (InOrder s g q u sx is what (not-before past d (What.Take r n t) (ticket_of_send s.before s.core u) not_yet) eq) (λ z. absurd (cc (eq, z)))
    by_parked (InOperation j o is un there eq) = other (InOperation j o is un there eq) (λ z. absurd (cc (eq, z)))
    by_parked (InGroup g on there eq) = other (InGroup g on there eq) (λ z. absurd (cc (eq, z)))
    by_parked (InObject x there eq) = other (InObject x there eq) (λ z. absurd (cc (eq, z)))
    by_parked (InPool v s last is spent free eq) = other (InPool v s last is spent (free-kept s.what free) eq) (λ z. absurd (cc (eq, z)))

-- giving back

-- what is taken of the list goes back to it
given-list : (k : Declarations) (l : Limits) (past : Past) (d r n h : ℕ) (p : Place) → AllAllowed k l past → take_queue past d ≡ Some r → n ≡ length (taken k past d) → AllSit k past
    → (q c : ℕ) → is_output (kind_of k q) ≡ false → p ≡ Place.Waiting (record { 0 = q }) → (b : Bool) → is_for k q c r d ≡ b
    → has_item (drop (if b then gone k past q c - n else gone k past q c) (arrivals k past q c)) h ≡ true
    → MovedSits k past (map (item_move (Place.Waiting (record { 0 = r }))) (taken k past d)) h p
given-list k l past d r n h p all queue size older q c plain eq b own is = by_for b own is (taken k past d) refl
  where
    to : Place
    to = Place.Waiting (record { 0 = r })

    source : (f : ℕ) → has_item (taken k past d) f ≡ true → Sits k past f (Place.Taken (record { 0 = d }))
    source f there = older f _ (InTaken d there refl)

    waited : has_item (waiting k past q c) h ≡ true → MovedSits k past (map (item_move to) (taken k past d)) h p
    waited there = by-touch k past to _ (taken k past d) h p source (older h p (InQueue q c plain there eq)) (λ front e. absurd (cc (eq, e)))

    by_either : is_for k q c r d ≡ true → InEither h (taken k past d) (waiting k past q c) → MovedSits k past (map (item_move to) (taken k past d)) h p
    by_either own (InSecond there) = waited there
    by_either own (InFirst there) =
        let s = moves-there k past to _ (taken k past d) h source there in
        let e : to ≡ p = ap (λ (i : ℕ). Place.Waiting (record { 0 = i })) (for-queue k q c r d own) ∙ sym eq in
        record { last = s.last; spot = s.spot ∙ e }

    by_for : (b : Bool) → is_for k q c r d ≡ b → has_item (drop (if b then gone k past q c - n else gone k past q c) (arrivals k past q c)) h ≡ true
        → (xs : List Item) → taken k past d ≡ xs → MovedSits k past (map (item_move to) (taken k past d)) h p
    by_for false own is xs are = waited is
    by_for true own is [] are =
        let nothing : n ≡ 0 = size ∙ ap length are in
        let same : gone k past q c - n ≡ gone k past q c = omega (arith, nothing) in
        waited (subst (λ (i : ℕ). has_item (drop i (arrivals k past q c)) h ≡ true) same is)
    by_for true own is (x ∷ xs) are =
        let back = given-back k l past all q c d r x xs queue are own in
        let same : gone k past q c - n ≡ gone k past q c - length (taken k past d) = ap (λ (i : ℕ). gone k past q c - i) size in
        by_either own (in-either h (taken k past d) (waiting k past q c) (subst (λ ys. has_item ys h ≡ true) (ap (λ (i : ℕ). drop i (arrivals k past q c)) same ∙ back) is))

given-other : (k : Declarations) (past : Past) (d r h : ℕ) (p : Place) → AllSit k past → Parked k past h p → (p ≡ Place.Taken (record { 0 = d }) → ⊥)
    → MovedSits k past (map (item_move (Place.Waiting (record { 0 = r }))) (taken k past d)) h p
given-other k past d r h p older q ne =
    by-touch k past (Place.Waiting (record { 0 = r })) (Place.Taken (record { 0 = d })) (taken k past d) h p (λ f there. older f _ (InTaken d there refl)) (older h p q) (λ is e. absurd (ne e))

-- what another core has taken
others-taken : (k : Declarations) (past : Past) (d c h : ℕ) (p : Place) → Compared d c → has_item (if d == c then [] else taken k past c) h ≡ true → p ≡ Place.Taken (record { 0 = c })
    → Parked k past h p × (p ≡ Place.Taken (record { 0 = d }) → ⊥)
others-taken k past d c h p (Same u same) is eq = absurd (cc (rw u at is))
others-taken k past d c h p (Other u ne) is eq = (InTaken c (rw u at is) eq, λ z. ne (sym (taken-inj c d (sym eq ∙ z))))

pub sits-untake : (k : Declarations) (l : Limits) (past : Past) (d : ℕ) (r : QueueId) (n : ℕ) → AllAllowed k l past → UntakeMoment k past d r.0 n → AllSit k past
    → AllSit k (entry_by d (What.Untake r n) ∷ past)
sits-untake k l past d r n all m older h p parked = by_parked parked
  where
    free-kept : (v : What) → free_after k (entry_by d (What.Untake r n) ∷ past) h v ≡ true → free_after k past h v ≡ true
    free-kept v free = free-pull k past (entry_by d (What.Untake r n) ∷ past) h v (λ q e. e) (λ n. refl) (λ g a. refl) free

    given : MovedSits k past (map (item_move (Place.Waiting (record { 0 = r.0 }))) (taken k past d)) h p → Sits k (entry_by d (What.Untake r n) ∷ past) h p
    given s = record { last = s.last; spot = s.spot }

    other : Parked k past h p → (p ≡ Place.Taken (record { 0 = d }) → ⊥) → Sits k (entry_by d (What.Untake r n) ∷ past) h p
    other q ne = given (given-other k past d r.0 h p older q ne)

    by_parked : Parked k (entry_by d (What.Untake r n) ∷ past) h p → Sits k (entry_by d (What.Untake r n) ∷ past) h p
    by_parked (InContext v is un eq) = other (InContext v is un eq) (λ z. absurd (cc (eq, z)))
    by_parked (InQueue q c plain is eq) =
        given (given-list k l past d r.0 n h p all m.queue (m.size ∙ sym (ap length m.taken)) older q c plain eq (is_for k q c r.0 d) refl is)
    by_parked (InTaken c is eq) = let o = others-taken k past d c h p (compared d c) is eq in other o.0 o.1
    by_parked (InOrder s g q u sx is what not_yet eq) = other (InOrder s g q u sx is what not_yet eq) (λ z. absurd (cc (eq, z)))
    by_parked (InOperation j o is un there eq) = other (InOperation j o is un there eq) (λ z. absurd (cc (eq, z)))
    by_parked (InGroup g on there eq) = other (InGroup g on there eq) (λ z. absurd (cc (eq, z)))
    by_parked (InObject x there eq) = other (InObject x there eq) (λ z. absurd (cc (eq, z)))
    by_parked (InPool v s last is spent free eq) = other (InPool v s last is spent (free-kept s.what free) eq) (λ z. absurd (cc (eq, z)))

pub sits-end_atomic : (k : Declarations) (l : Limits) (past : Past) (d rest : ℕ) (cells : Cells) → AllAllowed k l past → EndAtomicMoment k past d rest cells → AllSit k past
    → AllSit k (entry_by d (What.EndAtomic rest cells) ∷ past)
sits-end_atomic k l past d rest cells all m older h p parked = by_queue (receives_from past d) refl
  where
    free-kept : (v : What) → free_after k (entry_by d (What.EndAtomic rest cells) ∷ past) h v ≡ true → free_after k past h v ≡ true
    free-kept v free = free-pull k past (entry_by d (What.EndAtomic rest cells) ∷ past) h v (λ q e. e) (λ n. refl) (λ g a. refl) free

    now : Past
    now = entry_by d (What.EndAtomic rest cells) ∷ past

    by_parked : (r : ℕ) → receives_from past d ≡ Some r → Parked k now h p → Sits k now h p
    by_parked r from parked = by_kind parked
      where
        given : MovedSits k past (map (item_move (Place.Waiting (record { 0 = r }))) (taken k past d)) h p → Sits k now h p
        given s = record { last = s.last; spot = ap (λ o. spot (moved (back_moves o (taken k past d)) (pool_steps k past)) (index_of h)) from ∙ s.spot }

        other : Parked k past h p → (p ≡ Place.Taken (record { 0 = d }) → ⊥) → Sits k now h p
        other q ne = given (given-other k past d r h p older q ne)

        by_kind : Parked k now h p → Sits k now h p
        by_kind (InContext v is un eq) = other (InContext v is un eq) (λ z. absurd (cc (eq, z)))
        by_kind (InQueue q c plain is eq) =
            let here : has_item (drop (if is_for k q c r d then gone k past q c - rest else gone k past q c) (arrivals k past q c)) h ≡ true = rw from at is in
            given (given-list k l past d r rest h p all (receives-queue k l past all d r from) m.counted older q c plain eq (is_for k q c r d) refl here)
        by_kind (InTaken c is eq) = let o = others-taken k past d c h p (compared d c) is eq in other o.0 o.1
        by_kind (InOrder s g q u sx is what not_yet eq) = other (InOrder s g q u sx is what not_yet eq) (λ z. absurd (cc (eq, z)))
        by_kind (InOperation j o is un there eq) = other (InOperation j o is un there eq) (λ z. absurd (cc (eq, z)))
        by_kind (InGroup g on there eq) = other (InGroup g on there eq) (λ z. absurd (cc (eq, z)))
        by_kind (InObject x there eq) = other (InObject x there eq) (λ z. absurd (cc (eq, z)))
        by_kind (InPool v s last is spent free eq) = other (InPool v s last is spent (free-kept s.what free) eq) (λ z. absurd (cc (eq, z)))

    by_queue : (o : Option ℕ) → receives_from past d ≡ o → Sits k now h p
    by_queue None from =
        let no_atomic : received_atomic k past d ≡ None = ap (option_and_then (atomic_of k)) from in
        let free : holds k past d ≡ None = ap (option_and_then (if_holder k past d)) no_atomic in
        absurd (cc (free, m.holds))
    by_queue (Some r) from = by_parked r from parked
