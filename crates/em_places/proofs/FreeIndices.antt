-- An event that is free by the steps is free by the history.
use Rattle.std.proofs.Common.{◌≡◌, ℕ, zero, suc, ◌+◌, ◌≤◌, ◌<◌, ◌==◌, Bool, true, false, not, ◌&&◌, ◌||◌, List, [], ◌∷◌, ◌++◌, length, map, take, Option, Some, None, refl, sym, ◌∙◌, subst, ap, if◌then◌else◌, arith}
use Rattle.em_laws.proofs.Usable.{Usable, usable-after}
use Rattle.std.proofs.lemmas.Bool.{or_left, or_right, and_from}
use Rattle.std.specs.List.{list_any}
use Rattle.std.proofs.lemmas.Bool.{eq-eqb}
use Rattle.em_log.specs.declared.declarations.Declarations.{Declarations}
use Rattle.em_log.specs.declared.entry.Entry.{Entry}
use Rattle.em_log.specs.declared.entry.Event.{Event}
use Rattle.em_log.specs.declared.entry.What.{What}
use Rattle.em_log.specs.declared.ids.Limits.{Limits}
use Rattle.em_log.specs.declared.ids.Note.{Note}
use Rattle.em_log.specs.declared.ids.OpId.{OpId}
use Rattle.em_log.specs.declared.ids.EventGroupId.{EventGroupId}
use Rattle.em_log.specs.History.{Past, entry_by, has, index_of, note_words}
use Rattle.em_log.specs.Declarations.{numbers_from, below, kind_of, is_output, is_local}
use Rattle.em_log.specs.Contexts.{receives_from}
use Rattle.em_log.specs.Handles.{Minting, minting, last_handle, Spending, spending}
use Rattle.em_log.specs.Operations.{operation, notes_of, done}
use Rattle.em_log.specs.States.{closed}
use Rattle.em_log.specs.Order.{Sent, Ticket, is_ticket, ticket_of_send, sends_under, sends_under_all, open_ticket, enters, let_in}
use Rattle.em_log.specs.Arrivals.{Item, item, is_for, note_entering, with_sent, open_notes, entering, arrivals}
use Rattle.em_log.specs.EventGroups.{applications, busy, applied_notes}
use Rattle.em_log.specs.Places.{waiting, taken, has_item, has_entered, note_queue, application_end}
use Rattle.em_log.specs.Lawful.{AllAllowed}
use Rattle.em_moments.proofs.Asked.{and-true}
use Rattle.em_moments.proofs.Moments.{Moment, allowed-moment}
use Rattle.em_pool.specs.declared.place.Place.{Place}
use Rattle.em_laws.proofs.Cores.{Compared, Same, Other, compared, some-inj, eqb-eq}
use Rattle.em_laws.proofs.Spent.{spending-kept, unended, usable, spends-now, notes-spent, applied-spent}
use Rattle.em_laws.proofs.Respects.{DoneNow, done-now}
use Rattle.em_laws.proofs.Dones.{done-completes}
use Rattle.em_parts.specs.PoolSteps.{moved, item_move, sent_move, note_move, freed_move, back_moves, out_moves, entry_place, note_place, pool_steps}
use Rattle.em_pool.specs.Spots.{spot}
use Rattle.em_places.specs.Parked.{completed_free, noted_free, free_after, AllSit}
use Rattle.em_places.proofs.Parked.{last-minted, parked-sit}
use Rattle.em_places.proofs.FreeAfter.{free-pull}
use Rattle.em_places.proofs.Spending.{in-hand}
use Rattle.em_laws.specs.Minted.{HasSmallIndices}
use Rattle.em_pool.specs.State.{is_held_by}
use Rattle.em_pool.specs.declared.place.Spend.{Spend}
use Rattle.em_arrivals.proofs.Released.{LetIn, let-in-all}
use Rattle.em_places.proofs.SpentHandles.{spent-minted, begun-of, applied-list}
use Rattle.em_places.proofs.Ends.{let-enters, let-delayed}
use Rattle.em_places.proofs.Notes.{TouchedNote, touched-note, same-touches, noted-untouched, noted-touched, AllNotes, notes-map, OneQueue, one-queue, notes-to, done-once, done-noted, group-noted, AllNoted}
use Rattle.em_places.proofs.Unmoved.{same-handle}
use Rattle.em_laws.proofs.Counts.{occ}
use Rattle.em_pool.specs.Steps.{PoolStep, Spent, Lost}
use Rattle.em_places.proofs.Moves.{touches, untouched, moved-to, items-to, touched-sent}
use Rattle.em_arrivals.proofs.Lists.{came, with-came, AllSent, all-append, all-map, has_item-left, has_item-right}

-- what comes is in the lists

any-from : (p : ℕ → Bool) (c a n : ℕ) → p c ≡ true → a ≤ c → c < a + n → list_any p (numbers_from a n) ≡ true
any-from p c a zero is low high = absurd (omega arith)
any-from p c a (suc n) is low high = by_test (compared a c) (any-from p c (suc a) n is)
  where
    by_test : Compared a c → (suc a ≤ c → c < suc a + n → list_any p (numbers_from (suc a) n) ≡ true) → list_any p (numbers_from a (suc n)) ≡ true
    by_test (Same t e) later = or_left (p a) _ (ap p e ∙ is)
    by_test (Other f ne) later = or_right (p a) _ (later (omega (arith, ne)) (omega arith))

own-list : (k : Declarations) (q d : ℕ) → is_for k q d q d ≡ true
own-list k q d = rw (eq-eqb q q refl, eq-eqb d d refl) (or_right (not (is_local (kind_of k q))) true refl)

item-has : (past : Past) (s : Sent) (m : Minting) → minting past s.handle ≡ Some m → has_item (item past s) s.handle ≡ true
item-has past s m is = rw is (rw (eq-eqb s.handle s.handle refl) refl)

-- each of these was minted, and sent by a core of the graph
record IsWell (k : Declarations) (past : Past) (s : Sent) : Type 0 where
  origin : Minting
  minted : minting past s.handle ≡ Some origin
  core : s.core < k.cores

IsIn : Declarations → Past → List Sent → Sent → Type 0
IsIn k past ss s = has_item (came k past s.queue s.core ss) s.handle ≡ true

all-in : (k : Declarations) (past : Past) (ss : List Sent) → AllSent (IsWell k past) ss → AllSent (IsIn k past ss) ss
unfolding IsIn
all-in k past [] a = tt
all-in k past (s ∷ ss) a = (
  has_item-left s.handle _ (came k past s.queue s.core ss) (rw (own-list k s.queue s.core) (item-has past s a.0.origin a.0.minted)),
  all-map (IsIn k past ss) (IsIn k past (s ∷ ss)) ss (λ v is. has_item-right v.handle (if is_for k v.queue v.core s.queue s.core then item past s else []) (came k past v.queue v.core ss) is) (all-in k past ss a.1),
)

came-enters : (k : Declarations) (past : Past) (e : Entry) (h q c : ℕ) → c < k.cores → has_item (came k past q c (entering k past e)) h ≡ true → has_entered k (e ∷ past) h q ≡ true
came-enters k past e h q c lt is =
    any-from (λ b. has_item (arrivals k (e ∷ past) q b) h) c 0 k.cores
    (ap (λ xs. has_item xs h) (with-came k past q c (arrivals k past q c) (entering k past e)) ∙ has_item-right h (arrivals k past q c) (came k past q c (entering k past e)) is)
    (omega arith) (omega (arith, lt))

-- what has entered stays

entered-more : (k : Declarations) (past : Past) (e : Entry) (h q : ℕ) (cs : List ℕ) → list_any (λ c. has_item (arrivals k past q c) h) cs ≡ true → list_any (λ c. has_item (arrivals k (e ∷ past) q c) h) cs ≡ true
entered-more k past e h q [] is = absurd cc
entered-more k past e h q (c ∷ cs) is = by_test (has_item (arrivals k past q c) h) refl is (entered-more k past e h q cs)
  where
    by_test : (b : Bool) → has_item (arrivals k past q c) h ≡ b → (b || list_any (λ c. has_item (arrivals k past q c) h) cs) ≡ true
        → (list_any (λ c. has_item (arrivals k past q c) h) cs ≡ true → list_any (λ c. has_item (arrivals k (e ∷ past) q c) h) cs ≡ true) → list_any (λ c. has_item (arrivals k (e ∷ past) q c) h) (c ∷ cs) ≡ true
    by_test true at is later =
        or_left _ _ (ap (λ xs. has_item xs h) (with-came k past q c (arrivals k past q c) (entering k past e)) ∙ has_item-left h (arrivals k past q c) (came k past q c (entering k past e)) at)
    by_test false at is later = or_right (has_item (arrivals k (e ∷ past) q c) h) _ (later is)

pub entered-kept : (k : Declarations) (past : Past) (e : Entry) (h q : ℕ) → has_entered k past h q ≡ true → has_entered k (e ∷ past) h q ≡ true
entered-kept k past e h q is = entered-more k past e h q (below k.cores) is

-- free again

pub data FreeAt (k : Declarations) (past : Past) (i : ℕ) : Type 0 where
  Never : last_handle past i ≡ None → FreeAt k past i
  Again : (h : ℕ) (m : Minting) (s : Spending) → last_handle past i ≡ Some h → minting past h ≡ Some m → spending past h ≡ Some s → free_after k past h s.what ≡ true → FreeAt k past i

free-at-kept : (k : Declarations) (past : Past) (d : ℕ) (w : What) (i : ℕ) → last_handle (entry_by d w ∷ past) i ≡ last_handle past i → ((h : ℕ) → last_handle past i ≡ Some h → minting (entry_by d w ∷ past) h ≡ minting past h)
    → ((h : ℕ) (v : What) → free_after k past h v ≡ true → free_after k (entry_by d w ∷ past) h v ≡ true) → FreeAt k past i → FreeAt k (entry_by d w ∷ past) i
free-at-kept k past d w i last same mono (Never none) = Never (last ∙ none)
free-at-kept k past d w i last same mono (Again h m s is minted spent free) = Again h m s (last ∙ is) (same h is ∙ minted) (spending-kept past d w h s spent) (mono h s.what free)

completed-mono : (k : Declarations) (past : Past) (e : Entry) (h : ℕ) (o : Option ℕ) → completed_free k past h o ≡ true → completed_free k (e ∷ past) h o ≡ true
completed-mono k past e h None free = absurd cc
completed-mono k past e h (Some q) free = let b = and-true (has_entered k past h q) (is_output (kind_of k q)) free in and_from _ _ (entered-kept k past e h q b.0) b.1

noted-mono : (k : Declarations) (past : Past) (e : Entry) (h : ℕ) (notes : List Note) (o r : Option Bool) → ((b : Bool) → o ≡ Some b → r ≡ Some b) → noted_free k past h notes o ≡ true → noted_free k (e ∷ past) h notes r ≡ true
noted-mono k past e h notes None r keeps free = absurd cc
noted-mono k past e h notes (Some true) r keeps free = subst (λ v. noted_free k (e ∷ past) h notes v ≡ true) (sym (keeps true refl)) (completed-mono k past e h (note_queue h notes) free)
noted-mono k past e h notes (Some false) r keeps free = subst (λ v. noted_free k (e ∷ past) h notes v ≡ true) (sym (keeps false refl)) refl

free-mono : (k : Declarations) (past : Past) (e : Entry) → ((n : ℕ) (b : Bool) → done past n ≡ Some b → done (e ∷ past) n ≡ Some b) → ((g a : ℕ) (b : Bool) → application_end past g a ≡ Some b → application_end (e ∷ past) g a ≡ Some b)
    → (h : ℕ) (v : What) → free_after k past h v ≡ true → free_after k (e ∷ past) h v ≡ true
free-mono k past e dones apps h (What.Free f) free = refl
free-mono k past e dones apps h (What.Send f q t s) free = completed-mono k past e h (Some q.0) free
free-mono k past e dones apps h (What.Begin op job notes) free = noted-mono k past e h notes (done past op.0) (done (e ∷ past) op.0) (dones op.0) free
free-mono k past e dones apps h (What.Apply g a n notes) free = noted-mono k past e h notes (application_end past g.0 a) (application_end (e ∷ past) g.0 a) (apps g.0 a) free
free-mono k past e dones apps h v free = absurd cc

done-stays : (k : Declarations) (l : Limits) (past : Past) (d : ℕ) (op : OpId) (ok : Bool) → AllAllowed k l past → Moment k l past d (What.Done op ok) → (n : ℕ) (b : Bool) → done past n ≡ Some b
    → done (entry_by d (What.Done op ok) ∷ past) n ≡ Some b
done-stays k l past d op ok all m n b is = by_test (compared op.0 n)
  where
    by_test : Compared op.0 n → done (entry_by d (What.Done op ok) ∷ past) n ≡ Some b
    by_test (Same t e) =
        let none : done past n ≡ None = ap (done past) (sym e) ∙ (done-now k past op.0 ok (done-completes k l past d op ok all m)).undone in absurd (cc (none, is))
    by_test (Other f ne) = rw f is

notify-stays : (k : Declarations) (l : Limits) (past : Past) (d : ℕ) (g : EventGroupId) (a : ℕ) → AllAllowed k l past → Moment k l past d (What.Notify g a) → (i c : ℕ) (b : Bool) → application_end past i c ≡ Some b
    → application_end (entry_by d (What.Notify g a) ∷ past) i c ≡ Some b
notify-stays k l past d g a all m i c b is = by_test ((g.0 == i) && (a == c)) refl
  where
    by_test : (v : Bool) → ((g.0 == i) && (a == c)) ≡ v → (if v then Some true else application_end past i c) ≡ Some b
    by_test false t = is
    by_test true t =
        let both = and-true (g.0 == i) (a == c) t in
        let on = and-true (busy past g.0) (applications past g.0 == a) m.current in
        let group : g.0 ≡ i = eqb-eq g.0 i both.0 in
        let here : applications past i ≡ c = ap (applications past) (sym group) ∙ (eqb-eq _ a on.1 ∙ eqb-eq a c both.1) in
        let none : application_end past i c ≡ None = (unended k l past all i c).current (ap (busy past) (sym group) ∙ on.0) here in absurd (cc (none, is))

abort-stays : (k : Declarations) (l : Limits) (past : Past) (d : ℕ) (g : EventGroupId) → AllAllowed k l past → busy past g.0 ≡ true → (i c : ℕ) (b : Bool) → application_end past i c ≡ Some b
    → application_end (entry_by d (What.Abort g) ∷ past) i c ≡ Some b
abort-stays k l past d g all active i c b is = by_test ((g.0 == i) && (applications past i == c)) refl
  where
    by_test : (v : Bool) → ((g.0 == i) && (applications past i == c)) ≡ v → (if v then Some false else application_end past i c) ≡ Some b
    by_test false t = is
    by_test true t =
        let both = and-true (g.0 == i) (applications past i == c) t in
        let group : g.0 ≡ i = eqb-eq g.0 i both.0 in
        let none : application_end past i c ≡ None = (unended k l past all i c).current (ap (busy past) (sym group) ∙ active) (eqb-eq _ c both.1) in absurd (cc (none, is))

-- mintings
mint-back : (k : Declarations) (past : Past) (d : ℕ) (w : What) (e : Event) (i : ℕ) → ((h : ℕ) (v : What) → free_after k past h v ≡ true → free_after k (entry_by d w ∷ past) h v ≡ true)
    → ((j : ℕ) → last_handle (entry_by d w ∷ past) j ≡ (if index_of e.handle.0 == j then Some e.handle.0 else last_handle past j))
    → ((h : ℕ) → minting (entry_by d w ∷ past) h ≡ (if e.handle.0 == h then Some (record { core = d; event = e }) else minting past h))
    → (spot (pool_steps k past) i ≡ Place.Free → FreeAt k past i) → (if index_of e.handle.0 == i then Place.Held (record { 0 = d }) else spot (pool_steps k past) i) ≡ Place.Free → FreeAt k (entry_by d w ∷ past) i
mint-back k past d w e i mono last minted old free = by_test (compared (index_of e.handle.0) i)
  where
    by_test : Compared (index_of e.handle.0) i → FreeAt k (entry_by d w ∷ past) i
    by_test (Same t is) = absurd (let h : Place.Held (record { 0 = d }) ≡ Place.Free = rw t at free in cc h)
    by_test (Other f ne) =
        free-at-kept k past d w i (last i ∙ (rw f refl)) (λ h is. minted h ∙ by_handle h is (compared e.handle.0 h)) mono (old (rw f at free))
      where
        by_handle : (h : ℕ) → last_handle past i ≡ Some h → Compared e.handle.0 h → (if e.handle.0 == h then Some (record { core = d; event = e }) else minting past h) ≡ minting past h
        by_handle h is (Same t same) = absurd (ne (ap index_of same ∙ (last-minted past i h is).0))
        by_handle h is (Other f2 ne2) = rw f2 refl

-- items that move
items-back : (k : Declarations) (past : Past) (to : Place) (xs : List Item) (i : ℕ) → (to ≡ Place.Free → ⊥) → spot (moved (map (item_move to) xs) (pool_steps k past)) i ≡ Place.Free → spot (pool_steps k past) i ≡ Place.Free
items-back k past to xs i not_free free = by_test (touches (map (item_move to) xs) i) refl
  where
    by_test : (b : Bool) → touches (map (item_move to) xs) i ≡ b → spot (pool_steps k past) i ≡ Place.Free
    by_test false is = sym (untouched (map (item_move to) xs) (pool_steps k past) i is) ∙ free
    by_test true is = absurd (not_free (sym (moved-to (map (item_move to) xs) (pool_steps k past) i to (items-to to xs i) is) ∙ free))

-- what is let in

under-cores : (k : Declarations) (l : Limits) (past : Past) → AllAllowed k l past → (q m : ℕ) → AllSent (λ s. s.core < k.cores) (sends_under past q m)
under-cores k l [] all q m = tt
under-cores k l (e ∷ past) all q m = by_what e.what (under-cores k l past all.1 q m)
  where
    by_what : (w : What) → AllSent (λ s. s.core < k.cores) (sends_under past q m) → AllSent (λ s. s.core < k.cores) (sends_under (entry_by e.core.0 w ∷ past) q m)
    by_what (What.Send f r t st) older = by_ticket (is_ticket q m (ticket_of_send past e.core.0 t))
      where
        by_ticket : (b : Bool) → AllSent (λ s. s.core < k.cores) (if b then sends_under past q m ++ record { queue = r.0; core = e.core.0; handle = f.0; stamp = st } ∷ [] else sends_under past q m)
        by_ticket true = all-append (λ s. s.core < k.cores) (sends_under past q m) (record { queue = r.0; core = e.core.0; handle = f.0; stamp = st } ∷ []) older (all.0.core, tt)
        by_ticket false = older
    by_what w older = older

all-cores : (k : Declarations) (l : Limits) (past : Past) (q : ℕ) (ms : List ℕ) → AllAllowed k l past → AllSent (λ s. s.core < k.cores) (sends_under_all past q ms)
all-cores k l past q [] all = tt
all-cores k l past q (m ∷ ms) all = all-append (λ s. s.core < k.cores) (sends_under past q m) (sends_under_all past q ms) (under-cores k l past all q m) (all-cores k l past q ms all)

let-cores : (k : Declarations) (l : Limits) (past now : Past) (o : Option Ticket) → AllAllowed k l past → AllSent (λ s. s.core < k.cores) (let_in past now o)
let-cores k l past now None all = tt
let-cores k l past now (Some t) all = all-cores k l past t.queue _ all

all-both : (P Q : Sent → Type 0) (ss : List Sent) → AllSent P ss → AllSent Q ss → AllSent (λ s. P s × Q s) ss
all-both P Q [] a b = tt
all-both P Q (s ∷ ss) a b = ((a.0, b.0), all-both P Q ss a.1 b.1)

-- what is let in and free
record LetFree (k : Declarations) (past now : Past) (ss : List Sent) (i : ℕ) : Type 0 where
  sent : Sent
  let_in : LetIn past now sent
  well : IsWell k past sent
  among : IsIn k past ss sent
  output : is_output (kind_of k sent.queue) ≡ true
  index : index_of sent.handle ≡ i

entry-free : (k : Declarations) (q : ℕ) → entry_place k q ≡ Place.Free → is_output (kind_of k q) ≡ true
entry-free k q e = by_kind (is_output (kind_of k q)) e
  where
    by_kind : (b : Bool) → (if b then Place.Free else Place.Waiting (record { 0 = q })) ≡ Place.Free → b ≡ true
    by_kind true e = refl
    by_kind false e = absurd cc

let-free : (k : Declarations) (l : Limits) (past now : Past) (o : Option Ticket) (base : List PoolStep) (i : ℕ) → AllAllowed k l past → Usable past → AllSit k past → touches (map (sent_move k) (let_in past now o)) i ≡ true
    → spot (moved (map (sent_move k) (let_in past now o)) base) i ≡ Place.Free → LetFree k past now (let_in past now o) i
let-free k l past now o base i all uses older touched free =
    let ss : List Sent = let_in past now o in
    let lets = let-in-all k l past now o all in
    let well : AllSent (IsWell k past) ss = all-map (λ s. LetIn past now s × (s.core < k.cores)) (IsWell k past) ss (λ s b.
    let m = spent-minted past s.handle b.0.sent.how uses b.0.sent.spent in record { origin = m.0; minted = m.1; core = b.1 }) (all-both (LetIn past now) (λ s. s.core < k.cores) ss lets (let-cores k l past now o all)) in
    let both = all-both (LetIn past now) (λ s. IsWell k past s × IsIn k past ss s) ss lets (all-both (IsWell k past) (IsIn k past ss) ss well (all-in k past ss well)) in
    let t = touched-sent k (λ s. LetIn past now s × (IsWell k past s × IsIn k past ss s)) ss i both touched in
    let moves = let-enters k past now ss base t.sent t.sent.handle lets older t.holds.0 refl (ap (touches (map (sent_move k) ss)) t.index ∙ touched) in
    record {
      sent = t.sent;
      let_in = t.holds.0;
      well = t.holds.1.0;
      among = t.holds.1.1;
      output = entry-free k t.sent.queue (sym moves.spot ∙ (ap (spot (moved (map (sent_move k) ss) base)) t.index ∙ free));
      index = t.index;
    }

-- it is free again
let-again : (k : Declarations) (past : Past) (e : Entry) (ss : List Sent) (i : ℕ) → entering k past e ≡ ss → (t : LetFree k past (e ∷ past) ss i) → free_after k (e ∷ past) t.sent.handle t.let_in.sent.how.what ≡ true
unfolding IsIn
let-again k past e ss i is t =
    let u = t.let_in.sent in
    let came_in : has_item (came k past t.sent.queue t.sent.core (entering k past e)) t.sent.handle ≡ true = ap (λ xs. has_item (came k past t.sent.queue t.sent.core xs) t.sent.handle) is ∙ t.among in
    let entered : has_entered k (e ∷ past) t.sent.handle t.sent.queue ≡ true = came-enters k past e t.sent.handle t.sent.queue t.sent.core t.well.core came_in in
    let here : (has_entered k (e ∷ past) t.sent.handle t.sent.queue && is_output (kind_of k t.sent.queue)) ≡ true = and_from _ _ entered t.output in
    let there : free_after k (e ∷ past) t.sent.handle (What.Send u.handle u.to u.number u.stamp) ≡ true =
    ap (λ (q : ℕ). has_entered k (e ∷ past) t.sent.handle q && is_output (kind_of k q)) u.queue ∙ here in
    ap (free_after k (e ∷ past) t.sent.handle) u.what ∙ there

-- notes

note-queue-some : (ns : List Note) (f : ℕ) → has (note_words ns) f ≡ true → (q : ℕ) × (note_queue f ns ≡ Some q)
note-queue-some [] f is = absurd cc
note-queue-some (n ∷ ns) f is = by_test (compared n.word f) (note-queue-some ns f)
  where
    by_test : Compared n.word f → (has (note_words ns) f ≡ true → (q : ℕ) × (note_queue f ns ≡ Some q)) → (q : ℕ) × (note_queue f (n ∷ ns) ≡ Some q)
    by_test (Same t e) later = (n.queue.0, rw t refl)
    by_test (Other t ne) later = let r = later (rw t at is) in (r.0, rw t r.1)

notes-came : (k : Declarations) (past now : Past) (d : ℕ) (ns : List Note) (f q : ℕ) (m : Minting) → note_queue f ns ≡ Some q → closed k now q ≡ None → minting past f ≡ Some m
    → has_item (came k past q d (open_notes k now d ns)) f ≡ true
notes-came k past now d [] f q m at unclosed minted = absurd cc
notes-came k past now d (n ∷ ns) f q m at unclosed minted = by_test (compared n.word f) (notes-came k past now d ns f q m)
  where
    rec : Sent
    rec = record { queue = n.queue.0; core = d; handle = n.word; stamp = None }

    first : n.word ≡ f → n.queue.0 ≡ q → has_item (came k past q d (rec ∷ open_notes k now d ns)) f ≡ true
    first e same =
        let list : is_for k q d n.queue.0 d ≡ true = ap (λ (i : ℕ). is_for k q d i d) same ∙ own-list k q d in
        let there : has_item (item past rec) f ≡ true = ap (has_item (item past rec)) (sym e) ∙ item-has past rec m (ap (minting past) e ∙ minted) in
        has_item-left f _ (came k past q d (open_notes k now d ns)) (rw list there)

    rest : (o : Option ℕ) → has_item (came k past q d (open_notes k now d ns)) f ≡ true → has_item (came k past q d (with_sent (note_entering d n o) (open_notes k now d ns))) f ≡ true
    rest None is = has_item-right f (if is_for k q d n.queue.0 d then item past rec else []) (came k past q d (open_notes k now d ns)) is
    rest (Some why) is = is

    by_test : Compared n.word f → (note_queue f ns ≡ Some q → closed k now q ≡ None → minting past f ≡ Some m → has_item (came k past q d (open_notes k now d ns)) f ≡ true)
        → has_item (came k past q d (open_notes k now d (n ∷ ns))) f ≡ true
    by_test (Same t e) later =
        let same : n.queue.0 ≡ q = some-inj _ _ (rw t at at) in
        let on : closed k now n.queue.0 ≡ None = ap (closed k now) same ∙ unclosed in
        rw on (first e same)
    by_test (Other t ne) later = rest (closed k now n.queue.0) (later (rw t at at) unclosed minted)

-- a note that is free after a completion went to an output
record NoteFree (k : Declarations) (past now : Past) (d : ℕ) (ns : List Note) (i : ℕ) : Type 0 where
  handle : ℕ
  among : has (note_words ns) handle ≡ true
  index : index_of handle ≡ i
  queue : ℕ
  to : note_queue handle ns ≡ Some queue
  unclosed : closed k now queue ≡ None
  output : is_output (kind_of k queue) ≡ true

note-free : (k : Declarations) (past now : Past) (d : ℕ) (ns : List Note) (i : ℕ) → ((h : ℕ) → occ h (note_words ns) ≤ 1) → AllNoted k past ns → touches (map freed_move ns) i ≡ true
    → spot (moved (map (note_move k now) ns) (pool_steps k past)) i ≡ Place.Free → NoteFree k past now d ns i
note-free k past now d ns i once noted touched free =
    let t = touched-note ns i touched in
    let q = note-queue-some ns t.handle t.among in
    let sits = noted t.handle t.among in
    let all_to : AllNotes (λ n. index_of n.word ≡ i → (note_move k now n).to ≡ note_place k q.0 (closed k now q.0)) ns =
    notes-map (OneQueue ns) (λ n. index_of n.word ≡ i → (note_move k now n).to ≡ note_place k q.0 (closed k now q.0)) ns (λ n one is.
    let word : n.word ≡ t.handle = same-handle k past t.handle n.word _ _ sits (noted n.word one.among) (is ∙ sym t.index) in
    let queue : n.queue.0 ≡ q.0 = some-inj _ _ (sym one.queue ∙ (ap (λ (x : ℕ). note_queue x ns) word ∙ q.1)) in
    ap (λ (x : ℕ). note_place k x (closed k now x)) queue) (one-queue ns once) in
    let at : note_place k q.0 (closed k now q.0) ≡ Place.Free =
    sym (moved-to (map (note_move k now) ns) (pool_steps k past) i _ (notes-to k now ns i _ all_to) (same-touches k now ns i ∙ touched)) ∙ free in
    by_closed t q (closed k now q.0) refl at
  where
    by_closed : (t : TouchedNote ns i) (q : (q : ℕ) × (note_queue t.handle ns ≡ Some q)) (o : Option ℕ) → closed k now q.0 ≡ o → note_place k q.0 o ≡ Place.Free → NoteFree k past now d ns i
    by_closed t q (Some why) is e = absurd cc
    by_closed t q None is e = record { handle = t.handle; among = t.among; index = t.index; queue = q.0; to = q.1; unclosed = is; output = entry-free k q.0 e }

-- every entry

free-at-next : (k : Declarations) (l : Limits) (past : Past) (d : ℕ) (w : What) (i : ℕ) → d < k.cores → AllAllowed k l past → Usable past → Moment k l past d w → AllSit k past → (spot (pool_steps k past) i ≡ Place.Free → FreeAt k past i)
    → spot (pool_steps k (entry_by d w ∷ past)) i ≡ Place.Free → FreeAt k (entry_by d w ∷ past) i
free-at-next k l past d (What.Take r n t) i lt all uses m sit old free =
    free-at-kept k past d (What.Take r n t) i refl (λ h is. refl) (λ h v f. free-pull k (entry_by d (What.Take r n t) ∷ past) past h v (λ q e. e) (λ n. refl) (λ g a. refl) f)
    (old (items-back k past (Place.Taken (record { 0 = d })) (take n (waiting k past r.0 d)) i (λ e. absurd (cc e)) free))
free-at-next k l past d (What.Untake r n) i lt all uses m sit old free =
    free-at-kept k past d (What.Untake r n) i refl (λ h is. refl) (λ h v f. free-pull k (entry_by d (What.Untake r n) ∷ past) past h v (λ q e. e) (λ n. refl) (λ g a. refl) f)
    (old (items-back k past (Place.Waiting r) (taken k past d) i (λ e. absurd (cc e)) free))
free-at-next k l past d (What.EndAtomic rest cells) i lt all uses m sit old free =
    free-at-kept k past d (What.EndAtomic rest cells) i refl (λ h is. refl) (λ h v f. free-pull k (entry_by d (What.EndAtomic rest cells) ∷ past) past h v (λ q e. e) (λ n. refl) (λ g a. refl) f)
    (old (by_queue (receives_from past d) free))
  where
    by_queue : (o : Option ℕ) → spot (moved (back_moves o (taken k past d)) (pool_steps k past)) i ≡ Place.Free → spot (pool_steps k past) i ≡ Place.Free
    by_queue None f = f
    by_queue (Some r) f = items-back k past (Place.Waiting (record { 0 = r })) (taken k past d) i (λ e. absurd (cc e)) f
free-at-next k l past d (What.Start r e st) i lt all uses m sit old free =
    mint-back k past d (What.Start r e st) e i (λ h v f. free-pull k (entry_by d (What.Start r e st) ∷ past) past h v (λ q e. e) (λ n. refl) (λ g a. refl) f) (λ j. refl) (λ h. refl) old free
free-at-next k l past d (What.Alloc a e) i lt all uses m sit old free =
    mint-back k past d (What.Alloc a e) e i (λ h v f. free-pull k (entry_by d (What.Alloc a e) ∷ past) past h v (λ q e. e) (λ n. refl) (λ g a. refl) f) (λ j. refl) (λ h. refl) old free
free-at-next k l past d (What.Claim (Some e)) i lt all uses m sit old free =
    mint-back k past d (What.Claim (Some e)) e i (λ h v f. free-pull k (entry_by d (What.Claim (Some e)) ∷ past) past h v (λ q e. e) (λ n. refl) (λ g a. refl) f) (λ j. refl) (λ h. refl) old free
free-at-next k l past d (What.Dequeue r (Some e)) i lt all uses m sit old free =
    mint-back k past d (What.Dequeue r (Some e)) e i (λ h v f. free-pull k (entry_by d (What.Dequeue r (Some e)) ∷ past) past h v (λ q e. e) (λ n. refl) (λ g a. refl) f) (λ j. refl) (λ h. refl) old free
free-at-next k l past d (What.Free f) i lt all uses m sit old free = by_test (compared (index_of f.0) i)
  where
    w : What
    w = What.Free f

    by_test : Compared (index_of f.0) i → FreeAt k (entry_by d w ∷ past) i
    by_test (Same t e) =
        let u = usable past d f.0 m.rule in
        let hand = in-hand k past d f.0 m.rule sit in
        Again f.0 u.origin (record { before = past; core = d; what = w }) (ap (last_handle past) (sym e) ∙ hand.sits.last) u.minted
        (spends-now past d w f.0 u.unspent (rw (eq-eqb f.0 f.0 refl) refl)) refl
    by_test (Other t ne) =
        free-at-kept k past d w i refl (λ h is. refl) (λ h v x. free-pull k (entry_by d w ∷ past) past h v (λ q e. e) (λ n. refl) (λ g a. refl) x) (old (rw t at free))
free-at-next k l past d (What.Keep f) i lt all uses m sit old free = by_test (compared (index_of f.0) i)
  where
    w : What
    w = What.Keep f

    by_test : Compared (index_of f.0) i → FreeAt k (entry_by d w ∷ past) i
    by_test (Same t e) = absurd (let h : Place.Kept _ ≡ Place.Free = rw t at free in cc h)
    by_test (Other t ne) =
        free-at-kept k past d w i refl (λ h is. refl) (λ h v x. free-pull k (entry_by d w ∷ past) past h v (λ q e. e) (λ n. refl) (λ g a. refl) x) (old (rw t at free))
free-at-next k l past d (What.Send f q t st) i lt all uses m sit old free = by_test (compared (index_of f.0) i)
  where
    w : What
    w = What.Send f q t st

    e : Entry
    e = entry_by d w

    rec : Sent
    rec = record { queue = q.0; core = d; handle = f.0; stamp = st }

    again : enters past (ticket_of_send past d t) ≡ true → is_output (kind_of k q.0) ≡ true → index_of f.0 ≡ i → FreeAt k (e ∷ past) i
    again on out same =
        let u = usable past d f.0 m.rule in
        let hand = in-hand k past d f.0 m.rule sit in
        let one : has_item (came k past q.0 d (rec ∷ [])) f.0 ≡ true = has_item-left f.0 _ [] (rw (own-list k q.0 d) (item-has past rec u.origin u.minted)) in
        let came_in : has_item (came k past q.0 d (entering k past e)) f.0 ≡ true = ap (λ b. has_item (came k past q.0 d (if b then rec ∷ [] else [])) f.0) on ∙ one in
        Again f.0 u.origin (record { before = past; core = d; what = w }) (ap (last_handle past) (sym same) ∙ hand.sits.last) u.minted
        (spends-now past d w f.0 u.unspent (rw (eq-eqb f.0 f.0 refl) refl)) (and_from _ _ (came-enters k past e f.0 q.0 d lt came_in) out)

    own : index_of f.0 ≡ i → (index_of f.0 == i) ≡ true → (b o : Bool) → enters past (ticket_of_send past d t) ≡ b → is_output (kind_of k q.0) ≡ o
        → spot (moved (out_moves k (if b then rec ∷ [] else [])) (Spent d f.0 (if b then Spend.Sent q else Spend.Delayed q) (length past) ∷ pool_steps k past)) i ≡ Place.Free → FreeAt k (e ∷ past) i
    own same te false o is out x = absurd (let h : Place.Delayed q ≡ Place.Free = rw te at x in cc h)
    own same te true false is out x = absurd (let h : Place.Waiting q ≡ Place.Free = rw (out, te) at x in cc h)
    own same te true true is out x = again is out same

    other : (index_of f.0 == i) ≡ false → (b o : Bool) → is_output (kind_of k q.0) ≡ o
        → spot (moved (out_moves k (if b then rec ∷ [] else [])) (Spent d f.0 (if b then Spend.Sent q else Spend.Delayed q) (length past) ∷ pool_steps k past)) i ≡ Place.Free → spot (pool_steps k past) i ≡ Place.Free
    other te false o out x = rw te at x
    other te true false out x = rw (out, te) at x
    other te true true out x = rw (out, te) at x

    by_test : Compared (index_of f.0) i → FreeAt k (e ∷ past) i
    by_test (Same te same) = own same te (enters past (ticket_of_send past d t)) (is_output (kind_of k q.0)) refl refl free
    by_test (Other te ne) =
        free-at-kept k past d w i refl (λ h is. refl) (free-mono k past e (λ n b x. x) (λ g a b x. x)) (old (other te (enters past (ticket_of_send past d t)) (is_output (kind_of k q.0)) refl free))
free-at-next k l past d (What.End lost cells) i lt all uses m sit old free = by_touch (touches (map (sent_move k) ss) i) refl
  where
    w : What
    w = What.End lost cells

    now : Past
    now = entry_by d w ∷ past

    ss : List Sent
    ss = let_in past now (open_ticket past d)

    base : List PoolStep
    base = Lost d (length past) ∷ pool_steps k past

    by_held : (b : Bool) → (if b then Place.Lost else spot (pool_steps k past) i) ≡ Place.Free → spot (pool_steps k past) i ≡ Place.Free
    by_held true x = absurd cc
    by_held false x = x

    by_touch : (b : Bool) → touches (map (sent_move k) ss) i ≡ b → FreeAt k now i
    by_touch false is =
        free-at-kept k past d w i refl (λ h is. refl) (free-mono k past (entry_by d w) (λ n b x. x) (λ g a b x. x))
        (old (by_held (is_held_by d (spot (pool_steps k past) i)) (sym (untouched (map (sent_move k) ss) base i is) ∙ free)))
    by_touch true is =
        let t = let-free k l past now (open_ticket past d) base i all uses sit is free in
        let sits = let-delayed k past now t.sent t.let_in sit in
        Again t.sent.handle t.well.origin t.let_in.sent.how (ap (last_handle past) (sym t.index) ∙ sits.last) t.well.minted (spending-kept past d w t.sent.handle t.let_in.sent.how t.let_in.sent.spent)
        (let-again k past (entry_by d w) ss i refl t)
free-at-next k l past d What.EndOrdered i lt all uses m sit old free = by_touch (touches (map (sent_move k) ss) i) refl
  where
    w : What
    w = What.EndOrdered

    now : Past
    now = entry_by d w ∷ past

    ss : List Sent
    ss = let_in past now (open_ticket past d)

    by_touch : (b : Bool) → touches (map (sent_move k) ss) i ≡ b → FreeAt k now i
    by_touch false is =
        free-at-kept k past d w i refl (λ h is. refl) (free-mono k past (entry_by d w) (λ n b x. x) (λ g a b x. x)) (old (sym (untouched (map (sent_move k) ss) (pool_steps k past) i is) ∙ free))
    by_touch true is =
        let t = let-free k l past now (open_ticket past d) (pool_steps k past) i all uses sit is free in
        let sits = let-delayed k past now t.sent t.let_in sit in
        Again t.sent.handle t.well.origin t.let_in.sent.how (ap (last_handle past) (sym t.index) ∙ sits.last) t.well.minted (spending-kept past d w t.sent.handle t.let_in.sent.how t.let_in.sent.spent)
        (let-again k past (entry_by d w) ss i refl t)
free-at-next k l past d (What.Begin op job notes) i lt all uses m sit old free = by_touch (touches (map freed_move notes) i) refl
  where
    w : What
    w = What.Begin op job notes

    by_touch : (b : Bool) → touches (map freed_move notes) i ≡ b → FreeAt k (entry_by d w ∷ past) i
    by_touch true is = absurd (let h : Place.Noted ≡ Place.Free = sym (noted-touched d (length past) notes (pool_steps k past) i is) ∙ free in cc h)
    by_touch false is =
        free-at-kept k past d w i refl (λ h is. refl) (λ h v x. free-pull k (entry_by d w ∷ past) past h v (λ q e. e) (λ n. refl) (λ g a. refl) x)
        (old (sym (noted-untouched d (length past) notes (pool_steps k past) i is) ∙ free))
free-at-next k l past d (What.Apply g a c notes) i lt all uses m sit old free = by_touch (touches (map freed_move notes) i) refl
  where
    w : What
    w = What.Apply g a c notes

    by_touch : (b : Bool) → touches (map freed_move notes) i ≡ b → FreeAt k (entry_by d w ∷ past) i
    by_touch true is = absurd (let h : Place.Noted ≡ Place.Free = sym (noted-touched d (length past) notes (pool_steps k past) i is) ∙ free in cc h)
    by_touch false is =
        free-at-kept k past d w i refl (λ h is. refl) (λ h v x. free-pull k (entry_by d w ∷ past) past h v (λ q e. e) (λ n. refl) (λ g a. refl) x)
        (old (sym (noted-untouched d (length past) notes (pool_steps k past) i is) ∙ free))
free-at-next k l past d (What.Done op ok) i lt all uses m sit old free = by_ok ok refl m free
  where
    ns : List Note
    ns = notes_of (operation past op.0)

    q : DoneNow past op.0
    q = done-now k past op.0 ok (done-completes k l past d op ok all m)

    noted : AllNoted k past ns
    noted = done-noted k past op.0 q sit

    -- the operation's note is free again
    again : (ok : Bool) (f : ℕ) → has (note_words ns) f ≡ true → index_of f ≡ i
        → ((b : Spending) (o : OpId) (notes : List Note) → notes ≡ ns → done (entry_by d (What.Done op ok) ∷ past) o.0 ≡ Some ok → noted_free k (entry_by d (What.Done op ok) ∷ past) f notes (Some ok) ≡ true)
        → FreeAt k (entry_by d (What.Done op ok) ∷ past) i
    again ok f there index freed =
        let b = (notes-spent k l past all op.0 q.started q.begun).spent f (sym (ap (λ o. has (note_words (notes_of o)) f) q.begun) ∙ there) in
        let s : Spending = record { before = b.before; core = b.core; what = What.Begin b.op b.job b.notes } in
        let mi = spent-minted past f s uses b.spent in
        let bo = begun-of k l past f s b.op b.job b.notes all b.spent refl in
        let same : b.notes ≡ ns = sym bo.2 ∙ (ap notes_of (sym bo.1) ∙ ap (λ (n : ℕ). notes_of (operation past n)) b.number) in
        let now : done (entry_by d (What.Done op ok) ∷ past) b.op.0 ≡ Some ok = rw (eq-eqb op.0 b.op.0 (sym b.number)) refl in
        Again f mi.0 s (ap (last_handle past) (sym index) ∙ (noted f there).last) mi.1 b.spent
        (ap (noted_free k (entry_by d (What.Done op ok) ∷ past) f b.notes) now ∙ freed s b.op b.notes same now)

    by_ok : (v : Bool) → ok ≡ v → Moment k l past d (What.Done op v) → spot (pool_steps k (entry_by d (What.Done op v) ∷ past)) i ≡ Place.Free → FreeAt k (entry_by d (What.Done op v) ∷ past) i
    by_ok true eq m free = by_touch (touches (map freed_move ns) i) refl
      where
        now : Past
        now = entry_by d (What.Done op true) ∷ past

        by_touch : (b : Bool) → touches (map freed_move ns) i ≡ b → FreeAt k now i
        by_touch false is =
            free-at-kept k past d (What.Done op true) i refl (λ h is. refl) (free-mono k past (entry_by d (What.Done op true)) (done-stays k l past d op true all m) (λ g a b x. x))
            (old (sym (untouched (map (note_move k now) ns) (pool_steps k past) i (same-touches k now ns i ∙ is)) ∙ free))
        by_touch true is =
            let t = note-free k past now d ns i (done-once k l past op.0 all q) noted is free in
            again true t.handle t.among t.index (λ s o notes same dn.
            let b = (notes-spent k l past all op.0 q.started q.begun).spent t.handle (sym (ap (λ v. has (note_words (notes_of v)) t.handle) q.begun) ∙ t.among) in
            let mi = spent-minted past t.handle _ uses b.spent in
            let inside = came-enters k past (entry_by d (What.Done op true)) t.handle t.queue d lt (notes-came k past now d ns t.handle t.queue mi.0 t.to t.unclosed mi.1) in
            let at : note_queue t.handle notes ≡ Some t.queue = ap (note_queue t.handle) same ∙ t.to in
            ap (completed_free k now t.handle) at ∙ and_from _ _ inside t.output)
    by_ok false eq m free = by_touch (touches (map freed_move ns) i) refl
      where
        now : Past
        now = entry_by d (What.Done op false) ∷ past

        by_touch : (b : Bool) → touches (map freed_move ns) i ≡ b → FreeAt k now i
        by_touch false is =
            free-at-kept k past d (What.Done op false) i refl (λ h is. refl) (free-mono k past (entry_by d (What.Done op false)) (done-stays k l past d op false all m) (λ g a b x. x))
            (old (sym (untouched (map freed_move ns) (pool_steps k past) i is) ∙ free))
        by_touch true is = let t = touched-note ns i is in again false t.handle t.among t.index (λ s o notes same dn. refl)
free-at-next k l past d (What.Notify g a) i lt all uses m sit old free = by_touch (touches (map freed_move ns) i) refl
  where
    now : Past
    now = entry_by d (What.Notify g a) ∷ past

    ns : List Note
    ns = applied_notes past g.0

    on : (busy past g.0 ≡ true) × ((applications past g.0 == a) ≡ true)
    on = and-true (busy past g.0) (applications past g.0 == a) m.current

    noted : AllNoted k past ns
    noted = group-noted k past g.0 on.0 sit

    by_touch : (b : Bool) → touches (map freed_move ns) i ≡ b → FreeAt k now i
    by_touch false is =
        free-at-kept k past d (What.Notify g a) i refl (λ h is. refl) (free-mono k past (entry_by d (What.Notify g a)) (λ n b x. x) (notify-stays k l past d g a all m))
        (old (sym (untouched (map (note_move k now) ns) (pool_steps k past) i (same-touches k now ns i ∙ is)) ∙ free))
    by_touch true is =
        let t = note-free k past now d ns i ((applied-spent k l past all g.0).once) noted is free in
        let b = (applied-spent k l past all g.0).spent t.handle t.among in
        let s : Spending = record { before = b.before; core = b.core; what = What.Apply b.group b.app b.count b.notes } in
        let mi = spent-minted past t.handle s uses b.spent in
        let here : applications past b.group.0 ≡ b.app = ap (applications past) b.same_group ∙ sym b.number in
        let list : ns ≡ b.notes = ap (applied_notes past) (sym b.same_group) ∙ applied-list k l past t.handle s b.group b.app b.count b.notes all b.spent refl here in
        let inside = came-enters k past (entry_by d (What.Notify g a)) t.handle t.queue d lt (notes-came k past now d ns t.handle t.queue mi.0 t.to t.unclosed mi.1) in
        let at : note_queue t.handle b.notes ≡ Some t.queue = ap (note_queue t.handle) (sym list) ∙ t.to in
        let ended : application_end now b.group.0 b.app ≡ Some true = rw (eq-eqb g.0 b.group.0 (sym b.same_group), eq-eqb a b.app (sym (eqb-eq _ a on.1) ∙ sym b.number)) refl in
        Again t.handle mi.0 s (ap (last_handle past) (sym t.index) ∙ (noted t.handle t.among).last) mi.1 b.spent
        (ap (noted_free k now t.handle b.notes) ended ∙ (ap (completed_free k now t.handle) at ∙ and_from _ _ inside t.output))
free-at-next k l past d (What.Abort g) i lt all uses m sit old free = by_touch (touches (map freed_move ns) i) refl
  where
    now : Past
    now = entry_by d (What.Abort g) ∷ past

    ns : List Note
    ns = applied_notes past g.0

    noted : AllNoted k past ns
    noted = group-noted k past g.0 m.busy sit

    by_touch : (b : Bool) → touches (map freed_move ns) i ≡ b → FreeAt k now i
    by_touch false is =
        free-at-kept k past d (What.Abort g) i refl (λ h is. refl) (free-mono k past (entry_by d (What.Abort g)) (λ n b x. x) (abort-stays k l past d g all m.busy))
        (old (sym (untouched (map freed_move ns) (pool_steps k past) i is) ∙ free))
    by_touch true is =
        let t = touched-note ns i is in
        let b = (applied-spent k l past all g.0).spent t.handle t.among in
        let s : Spending = record { before = b.before; core = b.core; what = What.Apply b.group b.app b.count b.notes } in
        let mi = spent-minted past t.handle s uses b.spent in
        let here : applications past b.group.0 ≡ b.app = ap (applications past) b.same_group ∙ sym b.number in
        let ended : application_end now b.group.0 b.app ≡ Some false = rw (eq-eqb g.0 b.group.0 (sym b.same_group), eq-eqb (applications past b.group.0) b.app here) refl in
        Again t.handle mi.0 s (ap (last_handle past) (sym t.index) ∙ (noted t.handle t.among).last) mi.1 b.spent (ap (noted_free k now t.handle b.notes) ended)
free-at-next k l past d w i lt all uses m sit old free =
    free-at-kept k past d w i refl (λ h is. refl) (λ h v x. free-pull k (entry_by d w ∷ past) past h v (λ q e. e) (λ n. refl) (λ g a. refl) x) (old free)

pub free-at : (k : Declarations) (l : Limits) (past : Past) (i : ℕ) → HasSmallIndices k → AllAllowed k l past → spot (pool_steps k past) i ≡ Place.Free → FreeAt k past i
free-at k l [] i small all free = Never refl
free-at k l (e ∷ past) i small all free =
    free-at-next k l past e.core.0 e.what i all.0.core all.1 (usable-after k l past small all.1) (allowed-moment k l past e all.1 all.0) (parked-sit k l past small all.1) (free-at k l past i small all.1) free
