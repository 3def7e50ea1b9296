-- Where the steps of the pools say that each event is, for every history.
use Rattle.std.proofs.Common.{◌≡◌, ℕ, ◌==◌, Bool, true, false, List, [], ◌∷◌, length, map, take, Option, Some, None, refl, sym, ◌∙◌, subst, ap, if◌then◌else◌, arith}
use Rattle.std.specs.Option.{option_map_or}
use Rattle.std.proofs.lemmas.Bool.{eq-eqb}
use Rattle.em_log.specs.declared.declarations.Declarations.{Declarations}
use Rattle.em_log.specs.declared.entry.Event.{Event}
use Rattle.em_log.specs.declared.entry.What.{What}
use Rattle.em_log.specs.declared.ids.Limits.{Limits}
use Rattle.em_log.specs.declared.ids.Note.{Note}
use Rattle.em_log.specs.History.{Past, entry_by, index_of, minted_in}
use Rattle.em_log.specs.Declarations.{kind_of, is_output}
use Rattle.em_log.specs.Contexts.{receives_from}
use Rattle.em_log.specs.Handles.{Minting, minting_by, minting, last_handle_by, last_handle, Spending, spending, rule}
use Rattle.em_log.specs.Operations.{operation, notes_of, done}
use Rattle.em_log.specs.Order.{open_ticket, enters, ticket_of_send, let_in}
use Rattle.em_log.specs.Arrivals.{Item}
use Rattle.em_log.specs.EventGroups.{applications, busy, applied_notes}
use Rattle.em_log.specs.Places as log
use Rattle.em_log.specs.Lawful.{AllAllowed}
use Rattle.em_log.specs.Laws.{AreDifferent}
use Rattle.em_moments.proofs.Asked.{and-true}
use Rattle.em_moments.proofs.Moments.{Moment, allowed-moment}
use Rattle.em_pool.specs.declared.place.Place.{Place}
use Rattle.em_pool.specs.declared.place.Spend.{Spend}
use Rattle.em_pool.specs.State.{is_held_by}
use Rattle.em_pool.specs.Steps.{Spent, Lost}
use Rattle.em_laws.specs.Minted.{HasSmallIndices, with_handle, minted}
use Rattle.em_laws.proofs.Cores.{none-some, eqb-eq}
use Rattle.em_laws.proofs.Dones.{done-completes}
use Rattle.em_laws.proofs.Fresh.{minted-once}
use Rattle.em_laws.proofs.Respects.{done-now}
use Rattle.em_parts.specs.PoolSteps.{moved, item_move, sent_move, freed_move, back_moves, out_moves, pool_steps}
use Rattle.em_pool.specs.Spots.{spot}
use Rattle.em_places.specs.Parked.{completed_free, noted_free, free_after, Parked, InContext, InQueue, InTaken, InOrder, InOperation, InGroup, InObject, InPool, Sits, AllSit}
use Rattle.em_arrivals.proofs.Released.{LetIn, let-in-all}
use Rattle.em_parts.proofs.QueueLists.{served-output}
use Rattle.em_places.proofs.Moves.{touches, untouched, touched-item, touched-sent}
use Rattle.em_places.proofs.Minting.{FreeAlike}
use Rattle.em_places.proofs.Spending.{in-hand}
use Rattle.em_places.proofs.Notes.{AllNoted, all-in-hand, touched-note, same-touches, noted-untouched, done-noted, group-noted}
use Rattle.em_places.proofs.Ends.{let-delayed}
use Rattle.em_places.proofs.Entries.{KeptOnce, next-kept_once, next-sits}
use Rattle.em_arrivals.proofs.Lists.{has_item-take}

-- an event that was never minted is free

abbrev pub Unminted : Declarations → Past → ℕ → Type 0
Unminted k past i = last_handle past i ≡ None → spot (pool_steps k past) i ≡ Place.Free

-- an index at which a handle sits was minted
sits-minted : (k : Declarations) (past : Past) (f i : ℕ) (p : Place) → Sits k past f p → index_of f ≡ i → last_handle past i ≡ None → ⊥
sits-minted k past f i p s is none = none-some f (sym none ∙ (ap (last_handle past) (sym is) ∙ s.last))

false-from : (b : Bool) → (b ≡ true → ⊥) → b ≡ false
false-from true f = absurd (f refl)
false-from false f = refl

no-items : (k : Declarations) (past : Past) (to src : Place) (xs : List Item) (i : ℕ) → ((f : ℕ) → log.has_item xs f ≡ true → Sits k past f src) → last_handle past i ≡ None
    → touches (map (item_move to) xs) i ≡ false
no-items k past to src xs i sits none = false-from _ (λ is. let t = touched-item to xs i is in sits-minted k past t.handle i src (sits t.handle t.among) t.index none)

no-notes : (k : Declarations) (past : Past) (ns : List Note) (i : ℕ) → AllNoted k past ns → last_handle past i ≡ None → touches (map freed_move ns) i ≡ false
no-notes k past ns i noted none = false-from _ (λ is. let t = touched-note ns i is in sits-minted k past t.handle i _ (noted t.handle t.among) t.index none)

no-sents : (k : Declarations) (l : Limits) (past now : Past) (d i : ℕ) → AllAllowed k l past → AllSit k past → last_handle past i ≡ None
    → touches (map (sent_move k) (let_in past now (open_ticket past d))) i ≡ false
no-sents k l past now d i all older none = false-from _ (λ is.
    let t = touched-sent k (LetIn past now) (let_in past now (open_ticket past d)) i (let-in-all k l past now (open_ticket past d) all) is in
    sits-minted k past t.sent.handle i _ (let-delayed k past now t.sent t.holds older) t.index none)

no-hand : (k : Declarations) (past : Past) (d f i : ℕ) → rule past d f ≡ None → AllSit k past → last_handle past i ≡ None → (index_of f == i) ≡ false
no-hand k past d f i ok older none = false-from _ (λ is. let h = in-hand k past d f ok older in sits-minted k past f i _ h.sits (eqb-eq _ i is) none)

-- an entry that mints another index
pub not-minted : (e : Event) (i : ℕ) (was : Option ℕ) → last_handle_by i (Some e) was ≡ None → ((index_of e.handle.0 == i) ≡ false) × (was ≡ None)
not-minted e i was none = by_test (index_of e.handle.0 == i) refl none
  where
    by_test : (b : Bool) → (index_of e.handle.0 == i) ≡ b → (if b then Some e.handle.0 else was) ≡ None → ((index_of e.handle.0 == i) ≡ false) × (was ≡ None)
    by_test true is none = absurd cc
    by_test false is none = (is, none)

unminted-next : (k : Declarations) (l : Limits) (past : Past) (d : ℕ) (w : What) (i : ℕ) → AllAllowed k l past → Moment k l past d w → AllSit k past → Unminted k past i → Unminted k (entry_by d w ∷ past) i
unminted-next k l past d (What.Take r n t) i all m older was none =
    untouched _ (pool_steps k past) i (no-items k past _ (Place.Waiting (record { 0 = r.0 })) (take n (log.waiting k past r.0 d)) i
    (λ f is. older f _ (InQueue r.0 d (served-output (kind_of k r.0) m.ready.served) (has_item-take f n (log.waiting k past r.0 d) is) refl)) none) ∙ was none
unminted-next k l past d (What.Start r e st) i all m older was none = let n = not-minted e i (last_handle past i) none in rw n.0 (was n.1)
unminted-next k l past d (What.Untake r n) i all m older was none =
    untouched _ (pool_steps k past) i (no-items k past _ (Place.Taken (record { 0 = d })) (log.taken k past d) i (λ f is. older f _ (InTaken d is refl)) none) ∙ was none
unminted-next k l past d (What.EndAtomic rest cells) i all m older was none = by_queue (receives_from past d)
  where
    by_queue : (o : Option ℕ) → spot (moved (back_moves o (log.taken k past d)) (pool_steps k past)) i ≡ Place.Free
    by_queue None = was none
    by_queue (Some r) = untouched _ (pool_steps k past) i (no-items k past _ (Place.Taken (record { 0 = d })) (log.taken k past d) i (λ f is. older f _ (InTaken d is refl)) none) ∙ was none
unminted-next k l past d (What.End lost cells) i all m older was none =
    let free : spot (Lost d (length past) ∷ pool_steps k past) i ≡ Place.Free = ap (λ v. if is_held_by d v then Place.Lost else v) (was none) in
    let now : Past = entry_by d (What.End lost cells) ∷ past in
    untouched (map (sent_move k) (let_in past now (open_ticket past d))) (Lost d (length past) ∷ pool_steps k past) i (no-sents k l past now d i all older none) ∙ free
unminted-next k l past d What.EndOrdered i all m older was none =
    let now : Past = entry_by d What.EndOrdered ∷ past in
    untouched (map (sent_move k) (let_in past now (open_ticket past d))) (pool_steps k past) i (no-sents k l past now d i all older none) ∙ was none
unminted-next k l past d (What.Alloc a e) i all m older was none = let n = not-minted e i (last_handle past i) none in rw n.0 (was n.1)
unminted-next k l past d (What.Free f) i all m older was none = let n = no-hand k past d f.0 i m.rule older none in rw n (was none)
unminted-next k l past d (What.Keep f) i all m older was none = let n = no-hand k past d f.0 i m.rule older none in rw n (was none)
unminted-next k l past d (What.Send f q t st) i all m older was none =
    by_enters (enters past (ticket_of_send past d t)) (is_output (kind_of k q.0)) refl
  where
    n : (index_of f.0 == i) ≡ false
    n = no-hand k past d f.0 i m.rule older none

    by_enters : (b o : Bool) → is_output (kind_of k q.0) ≡ o
        → spot (moved (out_moves k (if b then record { queue = q.0; core = d; handle = f.0; stamp = st } ∷ [] else [])) (Spent d f.0 (if b then Spend.Sent q else Spend.Delayed q) (length past) ∷ pool_steps k past)) i ≡ Place.Free
    by_enters false o is = rw n (was none)
    by_enters true true is = rw (is, n) (was none)
    by_enters true false is = rw (is, n) (was none)
unminted-next k l past d (What.Claim (Some e)) i all m older was none = let n = not-minted e i (last_handle past i) none in rw n.0 (was n.1)
unminted-next k l past d (What.Dequeue r (Some e)) i all m older was none = let n = not-minted e i (last_handle past i) none in rw n.0 (was n.1)
unminted-next k l past d (What.Begin op job notes) i all m older was none =
    let hands = all-in-hand k past d notes m.usable older in
    let off : touches (map freed_move notes) i ≡ false = false-from _ (λ is. let t = touched-note notes i is in sits-minted k past t.handle i _ ((hands t.handle t.among).sits) t.index none) in
    noted-untouched d (length past) notes (pool_steps k past) i off ∙ was none
unminted-next k l past d (What.Apply g a c notes) i all m older was none =
    let hands = all-in-hand k past d notes m.usable older in
    let off : touches (map freed_move notes) i ≡ false = false-from _ (λ is. let t = touched-note notes i is in sits-minted k past t.handle i _ ((hands t.handle t.among).sits) t.index none) in
    noted-untouched d (length past) notes (pool_steps k past) i off ∙ was none
unminted-next k l past d (What.Done op true) i all m older was none =
    let q = done-now k past op.0 true (done-completes k l past d op true all m) in
    let now : Past = entry_by d (What.Done op true) ∷ past in
    untouched _ (pool_steps k past) i (same-touches k now (notes_of (operation past op.0)) i ∙ no-notes k past (notes_of (operation past op.0)) i (done-noted k past op.0 q older) none) ∙ was none
unminted-next k l past d (What.Done op false) i all m older was none =
    let q = done-now k past op.0 false (done-completes k l past d op false all m) in
    untouched _ (pool_steps k past) i (no-notes k past (notes_of (operation past op.0)) i (done-noted k past op.0 q older) none) ∙ was none
unminted-next k l past d (What.Notify g a) i all m older was none =
    let on = (and-true (busy past g.0) (applications past g.0 == a) m.current).0 in
    let now : Past = entry_by d (What.Notify g a) ∷ past in
    untouched _ (pool_steps k past) i (same-touches k now (applied_notes past g.0) i ∙ no-notes k past (applied_notes past g.0) i (group-noted k past g.0 on older) none) ∙ was none
unminted-next k l past d (What.Abort g) i all m older was none =
    untouched _ (pool_steps k past) i (no-notes k past (applied_notes past g.0) i (group-noted k past g.0 m.busy older) none) ∙ was none
unminted-next k l past d w i all m older was none = was none

-- the last handle of an index was minted
pub last-minted : (past : Past) (i h : ℕ) → last_handle past i ≡ Some h → (index_of h ≡ i) × ((m : Minting) × (minting past h ≡ Some m))
last-minted [] i h is = absurd (none-some h is)
last-minted (e ∷ past) i h is = by_mint (minted_in e.what) is (last-minted past i h)
  where
    Known : Option Event → Type 0
    Known o = (index_of h ≡ i) × ((m : Minting) × (minting_by h e.core.0 o (minting past h) ≡ Some m))

    older : (v : Event) → (index_of h ≡ i) × ((m : Minting) × (minting past h ≡ Some m)) → Known (Some v)
    older v k = (k.0, by_test (v.handle.0 == h))
      where
        by_test : (b : Bool) → (m : Minting) × ((if b then Some (record { core = e.core.0; event = v }) else minting past h) ≡ Some m)
        by_test true = (record { core = e.core.0; event = v }, refl)
        by_test false = k.1

    by_mint : (o : Option Event) → last_handle_by i o (last_handle past i) ≡ Some h → (last_handle past i ≡ Some h → (index_of h ≡ i) × ((m : Minting) × (minting past h ≡ Some m))) → Known o
    by_mint None is later = later is
    by_mint (Some v) is later = by_test (index_of v.handle.0 == i) refl is
      where
        by_test : (b : Bool) → (index_of v.handle.0 == i) ≡ b → (if b then Some v.handle.0 else last_handle past i) ≡ Some h → Known (Some v)
        by_test false own is = older v (later is)
        by_test true own is =
            let same : v.handle.0 ≡ h = cc in
            (ap index_of (sym same) ∙ eqb-eq _ i own, (record { core = e.core.0; event = v }, rw (eq-eqb v.handle.0 h same) refl))

-- an event that is free by the history is free by the steps

pub entered-free : (k : Declarations) (past : Past) (h q : ℕ) → log.is_free (log.entered_place k past h q) ≡ true → is_output (kind_of k q) ≡ true
entered-free k past h q free = by_kind (is_output (kind_of k q)) (log.taker k past h) free
  where
    by_kind : (b : Bool) (o : Option ℕ) → log.is_free (if b then log.Free else option_map_or log.Taken o (log.Waiting q)) ≡ true → b ≡ true
    by_kind true o f = refl
    by_kind false None f = absurd cc
    by_kind false (Some c) f = absurd cc

completed-frees : (k : Declarations) (past : Past) (h : ℕ) (o : Option ℕ) → log.is_free (log.completed_place k past h o) ≡ true → completed_free k past h o ≡ true
completed-frees k past h None free = absurd cc
completed-frees k past h (Some q) free = by_entered (log.has_entered k past h q) refl free
  where
    by_entered : (b : Bool) → log.has_entered k past h q ≡ b → log.is_free (if b then log.entered_place k past h q else log.Lost) ≡ true → completed_free k past h (Some q) ≡ true
    by_entered false is f = absurd cc
    by_entered true is f = let out = entered-free k past h q f in rw (is, out) refl

noted-frees : (k : Declarations) (past : Past) (h : ℕ) (notes : List Note) (o : Option Bool) → log.is_free (log.noted_place k past h notes o) ≡ true → noted_free k past h notes o ≡ true
noted-frees k past h notes None free = absurd cc
noted-frees k past h notes (Some true) free = completed-frees k past h (log.note_queue h notes) free
noted-frees k past h notes (Some false) free = refl

after-frees : (k : Declarations) (past : Past) (h : ℕ) (before : Past) (d : ℕ) (w : What) → log.is_free (log.place_after k past h before d w) ≡ true → free_after k past h w ≡ true
after-frees k past h before d (What.Free f) free = refl
after-frees k past h before d (What.Send f q t s) free = by_entered (log.has_entered k past h q.0) refl free
  where
    by_entered : (b : Bool) → log.has_entered k past h q.0 ≡ b → log.is_free (if b then log.entered_place k past h q.0 else log.Delayed q.0) ≡ true → free_after k past h (What.Send f q t s) ≡ true
    by_entered false is f = absurd cc
    by_entered true is f = let out = entered-free k past h q.0 f in rw (is, out) refl
after-frees k past h before d (What.Begin op job notes) free = noted-frees k past h notes (done past op.0) free
after-frees k past h before d (What.Apply g a n notes) free = noted-frees k past h notes (log.application_end past g.0 a) free
after-frees k past h before d w free = absurd cc

free-alike : (k : Declarations) (past : Past) → AllSit k past → ((i : ℕ) → Unminted k past i) → FreeAlike k past
free-alike k past sit un i free = by_last (last_handle past i) refl
  where
    spent : (h : ℕ) → last_handle past i ≡ Some h → (m : Minting) → minting past h ≡ Some m → (o : Option Spending) → spending past h ≡ o → log.is_free (log.place_of k past h (Some m) o) ≡ true
        → index_of h ≡ i → spot (pool_steps k past) i ≡ Place.Free
    spent h last m is None at f index = absurd cc
    spent h last m is (Some s) at f index =
        let own : last_handle past (index_of h) ≡ Some h = ap (last_handle past) index ∙ last in
        let sits = sit h Place.Free (InPool m s own is at (after-frees k past h s.before s.core s.what f) refl) in
        ap (spot (pool_steps k past)) (sym index) ∙ sits.spot

    by_last : (o : Option ℕ) → last_handle past i ≡ o → spot (pool_steps k past) i ≡ Place.Free
    by_last None at = un i at
    by_last (Some h) at =
        let k2 = last-minted past i h at in
        let m = k2.1.0 in
        let here : log.is_free (log.place_of k past h (Some m) (spending past h)) ≡ true =
        ap (λ o. log.is_free (log.place_of k past h o (spending past h))) (sym k2.1.1) ∙ (ap (λ o. log.is_free (log.place_by k past o)) (sym at) ∙ free) in
        spent h at m k2.1.1 (spending past h) refl here k2.0

-- every history

pub record Bridged (k : Declarations) (past : Past) : Type 0 where
  pub sit : AllSit k past
  pub once : KeptOnce k past
  pub unminted : (i : ℕ) → Unminted k past i

bridged-first : (k : Declarations) → Bridged k []
bridged-first k = record { sit = λ h p q. absurd (nothing h p q); once = λ x h. omega arith; unminted = λ i none. refl }
  where
    nothing : (h : ℕ) (p : Place) → Parked k [] h p → ⊥
    nothing h p (InContext m is un eq) = none-some m is
    nothing h p (InQueue q c plain is eq) = cc is
    nothing h p (InTaken c is eq) = cc is
    nothing h p (InOrder s f q t st is what off eq) = none-some s is
    nothing h p (InOperation n o is un there eq) = none-some o is
    nothing h p (InGroup g on there eq) = cc on
    nothing h p (InObject x there eq) = cc there
    nothing h p (InPool m s last is spent free eq) = none-some m is

pub bridged : (k : Declarations) (l : Limits) (past : Past) → HasSmallIndices k → AllAllowed k l past → Bridged k past
bridged k l [] small all = bridged-first k
bridged k l (e ∷ past) small all =
    let was = bridged k l past small all.1 in
    let m = allowed-moment k l past e all.1 all.0 in
    let fresh : AreDifferent (with_handle (minted_in e.what) (minted past)) = minted-once k l (e ∷ past) small all in
    record {
      sit = next-sits k l past e.core.0 e.what small all.1 m (λ v is. subst (λ o. AreDifferent (with_handle o (minted past))) is fresh) (free-alike k past was.sit was.unminted) was.once was.sit;
      once = next-kept_once k l past e.core.0 e.what m was.sit was.once;
      unminted = λ i. unminted-next k l past e.core.0 e.what i all.1 m was.sit (was.unminted i);
    }

pub parked-sit : (k : Declarations) (l : Limits) (past : Past) → HasSmallIndices k → AllAllowed k l past → AllSit k past
parked-sit k l past small all = (bridged k l past small all).sit

pub free-is-free : (k : Declarations) (l : Limits) (past : Past) → HasSmallIndices k → AllAllowed k l past → (i : ℕ) → log.is_free (log.place k past i) ≡ true → spot (pool_steps k past) i ≡ Place.Free
free-is-free k l past small all = let b = bridged k l past small all in free-alike k past b.sit b.unminted
