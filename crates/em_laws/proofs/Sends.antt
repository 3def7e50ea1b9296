-- Each send has entered its queue exactly where the tickets before it have ended.
use Rattle.std.proofs.Common.{◌≡◌, ◌⊎◌, inl, inr, ℕ, zero, suc, ◌+◌, ◌-◌, ◌≤◌, ◌<◌, ◌==◌, Bool, true, false, ◌||◌, List, [], ◌∷◌, ◌++◌, Option, Some, None, refl, sym, ◌∙◌, subst, ap, if◌then◌else◌, arith}
use Rattle.std.specs.Prelude.{nat_le}
use Rattle.std.specs.List.{flat_map}
use Rattle.std.proofs.lemmas.List.{map-append, append_assoc}
use Rattle.std.proofs.lemmas.Bool.{eq-eqb}
use Rattle.em_log.specs.declared.declarations.Declarations.{Declarations}
use Rattle.em_log.specs.declared.entry.Entry.{Entry}
use Rattle.em_log.specs.declared.entry.What.{What}
use Rattle.em_log.specs.declared.ids.Handle.{Handle}
use Rattle.em_log.specs.declared.ids.QueueId.{QueueId}
use Rattle.em_log.specs.declared.ids.Stamp.{Stamp}
use Rattle.em_log.specs.declared.ids.Limits.{Limits}
use Rattle.em_log.specs.History.{Past, entry_by, has}
use Rattle.em_log.specs.Declarations.{numbers_from, below, kind_of, is_local}
use Rattle.em_log.specs.Handles.{Minting, minting, Spending, spends, spending}
use Rattle.em_log.specs.Order.{Ticket, Sent, with_number, ended, takes, released, run_from, open_ticket, ticket_of_send, enters, is_ticket, sends_under, sends_under_all, let_in}
use Rattle.em_log.specs.Arrivals.{Item, item, is_for, send_entering, entering_by, entering, with_items, arrivals}
use Rattle.em_log.specs.Lawful.{AllAllowed}
use Rattle.em_log.specs.Laws.{Each, handles_of, entered_in, StandsIn, EntersAsSent, EntersInTurn}
use Rattle.em_moments.proofs.Moments.{Moment, SendMoment, allowed-moment}
use Rattle.em_laws.proofs.Cores.{Compared, Same, Other, compared, some-inj, none-some}
use Rattle.em_laws.proofs.Lists.{grows-by, arrivals-grow}
use Rattle.em_laws.proofs.Counts.{occ-none, entered-in-le}
use Rattle.em_laws.proofs.Spent.{usable, spending-kept, spends-now, minting-kept}
use Rattle.em_laws.proofs.Tickets.{take-released, nat-le-is, nat-le-false, one_if}
use Rattle.em_laws.proofs.Entering.{times_allowed, entered-allowed}

-- members of lists

-- it is among what goes to queues
abbrev IsAmong : Sent → List Sent → Type 0
IsAmong s [] = ⊥
IsAmong s (x ∷ xs) = (x ≡ s) ⊎ IsAmong s xs

among-left : (s : Sent) (xs ys : List Sent) → IsAmong s xs → IsAmong s (xs ++ ys)
among-left s [] ys a = absurd a
among-left s (x ∷ xs) ys (inl e) = inl e
among-left s (x ∷ xs) ys (inr a) = inr (among-left s xs ys a)

among-right : (s : Sent) (xs ys : List Sent) → IsAmong s ys → IsAmong s (xs ++ ys)
among-right s [] ys a = a
among-right s (x ∷ xs) ys a = inr (among-right s xs ys a)

has-left : (h : ℕ) (xs ys : List ℕ) → has xs h ≡ true → has (xs ++ ys) h ≡ true
has-left h [] ys e = absurd cc
has-left h (x ∷ xs) ys e = by_test (x == h) e (has-left h xs ys)
  where
    by_test : (b : Bool) → (b || has xs h) ≡ true → (has xs h ≡ true → has (xs ++ ys) h ≡ true) → (b || has (xs ++ ys) h) ≡ true
    by_test true e later = refl
    by_test false e later = later e

has-right : (h : ℕ) (xs ys : List ℕ) → has ys h ≡ true → has (xs ++ ys) h ≡ true
has-right h [] ys e = e
has-right h (x ∷ xs) ys e = by_test (x == h) (has-right h xs ys e)
  where
    by_test : (b : Bool) → has (xs ++ ys) h ≡ true → (b || has (xs ++ ys) h) ≡ true
    by_test true later = refl
    by_test false later = later

items-right : (h : ℕ) (xs ys : List Item) → has (handles_of ys) h ≡ true → has (handles_of (xs ++ ys)) h ≡ true
items-right h xs ys e = rw (map-append (λ (x : Item). x.handle) xs ys) (has-right h (handles_of xs) (handles_of ys) e)

-- it stands in a longer list

stands-left : (xs ys : List Item) (h : ℕ) (s : Option Stamp) → StandsIn xs h s → StandsIn (xs ++ ys) h s
stands-left xs ys h s a = record {
  before = a.before;
  item = a.item;
  after = a.after ++ ys;
  list = ap (λ zs. zs ++ ys) a.list ∙ append_assoc a.before (a.item ∷ a.after) ys;
  handle = a.handle;
  stamp = a.stamp;
}

stands-right : (xs ys : List Item) (h : ℕ) (s : Option Stamp) → StandsIn ys h s → StandsIn (xs ++ ys) h s
stands-right xs ys h s a = record {
  before = xs ++ a.before;
  item = a.item;
  after = a.after;
  list = ap (λ zs. xs ++ zs) a.list ∙ sym (append_assoc xs a.before (a.item ∷ a.after));
  handle = a.handle;
  stamp = a.stamp;
}

item-stands : (past : Past) (s : Sent) (m : Minting) → minting past s.handle ≡ Some m → StandsIn (item past s) s.handle s.stamp
item-stands past s m is = record {
  before = [];
  item = record { handle = s.handle; kind = m.event.kind; words = m.event.words; stamp = s.stamp };
  after = [];
  list = rw is refl;
  handle = refl;
  stamp = refl;
}

-- and its handle is in the list
stands-has : (xs : List Item) (h : ℕ) (s : Option Stamp) → StandsIn xs h s → has (handles_of xs) h ≡ true
stands-has xs h s a =
    subst (λ ys. has (handles_of ys) h ≡ true) (sym a.list)
    (items-right h a.before (a.item ∷ a.after) (rw (eq-eqb a.item.handle h a.handle) refl))

-- what goes to a list is in it
goes-in : (k : Declarations) (past : Past) (q c : ℕ) (items : List Item) (ss : List Sent) (s : Sent) (m : Minting) → minting past s.handle ≡ Some m → IsAmong s ss
    → is_for k q c s.queue s.core ≡ true → StandsIn (with_items k past q c items ss) s.handle s.stamp
goes-in k past q c items [] s m is a own = absurd a
goes-in k past q c items (x ∷ xs) s m is (inl e) own =
    let here : StandsIn (items ++ item past s) s.handle s.stamp = stands-right items (item past s) s.handle s.stamp (item-stands past s m is) in
    let g = grows-by k past q c (items ++ item past s) xs in
    let there : StandsIn (with_items k past q c (items ++ item past s) xs) s.handle s.stamp =
    subst (λ ys. StandsIn ys s.handle s.stamp) (sym g.1) (stands-left (items ++ item past s) g.0 s.handle s.stamp here) in
    subst (λ (y : Sent). StandsIn (with_items k past q c (if is_for k q c y.queue y.core then items ++ item past y else items) xs) s.handle s.stamp) (sym e)
    (subst (λ (b : Bool). StandsIn (with_items k past q c (if b then items ++ item past s else items) xs) s.handle s.stamp) (sym own) there)
goes-in k past q c items (x ∷ xs) s m is (inr a) own =
    goes-in k past q c (if is_for k q c x.queue x.core then items ++ item past x else items) xs s m is a own

stands-still : (k : Declarations) (past : Past) (e : Entry) (q c h : ℕ) (s : Option Stamp) → StandsIn (arrivals k past q c) h s → StandsIn (arrivals k (e ∷ past) q c) h s
stands-still k past e q c h s is =
    let g = arrivals-grow k past e q c in subst (λ ys. StandsIn ys h s) (sym g.1) (stands-left (arrivals k past q c) g.0 h s is)

among-all : (past : Past) (s : Sent) (q i a n : ℕ) → IsAmong s (sends_under past q i) → a ≤ i → i < a + n → IsAmong s (sends_under_all past q (numbers_from a n))
among-all past s q i a zero is low high = absurd (omega arith)
among-all past s q i a (suc n) is low high = by_test (compared a i) (among-all past s q i (suc a) n is)
  where
    by_test : Compared a i → (suc a ≤ i → i < suc a + n → IsAmong s (sends_under_all past q (numbers_from (suc a) n))) → IsAmong s (sends_under past q a ++ sends_under_all past q (numbers_from (suc a) n))
    by_test (Same _ e) later = among-left s (sends_under past q a) _ (subst (λ m. IsAmong s (sends_under past q m)) (sym e) is)
    by_test (Other _ ne) later = among-right s (sends_under past q a) _ (later (omega (arith, ne)) (omega arith))

-- what stands of a send

record SendStands (k : Declarations) (past : Past) (h : ℕ) (before : Past) (d : ℕ) (f : Handle) (q : QueueId) (t : Option ℕ) (st : Option Stamp) : Type 0 where
  same : f.0 ≡ h
  core : d < k.cores
  origin : Minting
  minted : minting past f.0 ≡ Some origin
  under : (tk : Ticket) → ticket_of_send before d t ≡ Some tk → IsAmong (record { queue = q.0; core = d; handle = f.0; stamp = st }) (sends_under past tk.queue tk.number)
  inside : enters past (ticket_of_send before d t) ≡ true → (c : ℕ) → is_for k q.0 c q.0 d ≡ true → StandsIn (arrivals k past q.0 c) f.0 st

abbrev Stands : Declarations → Past → ℕ → Past → ℕ → What → Type 0
Stands k past h before d (What.Send f q t st) = SendStands k past h before d f q t st
Stands k past h before d w = Unit {0}

under-kept : (past : Past) (d : ℕ) (w : What) (s : Sent) (q m : ℕ) → IsAmong s (sends_under past q m) → IsAmong s (sends_under (entry_by d w ∷ past) q m)
under-kept past d (What.Send f r t st) s q m a = by_test (is_ticket q m (ticket_of_send past d t))
  where
    by_test : (b : Bool) → IsAmong s (if b then sends_under past q m ++ record { queue = r.0; core = d; handle = f.0; stamp = st } ∷ [] else sends_under past q m)
    by_test true = among-left s (sends_under past q m) _ a
    by_test false = a
under-kept past d w s q m a = a

-- where a held send comes to enter, its ticket's queue has a ticket ended
lets-in : (k : Declarations) (past : Past) (d : ℕ) (w : What) (o : Option Ticket) (tk : Ticket) (s : Sent) → IsAmong s (sends_under past tk.queue tk.number)
    → ((q : ℕ) → released (entry_by d w ∷ past) q ≡ run_from (takes past q) 0 (with_number q o (ended past q)))
    → enters past (Some tk) ≡ false → enters (entry_by d w ∷ past) (Some tk) ≡ true → IsAmong s (let_in past (entry_by d w ∷ past) o)
lets-in k past d w None tk s a is before after = absurd (cc (before, after, ap (nat_le tk.number) (is tk.queue)))
lets-in k past d w (Some u) tk s a is before after = by_queue (compared u.queue tk.queue)
  where
    now : Past
    now = entry_by d w ∷ past

    by_queue : Compared u.queue tk.queue → IsAmong s (let_in past now (Some u))
    by_queue (Same t e) =
        let gt = nat-le-false tk.number (released past tk.queue) before in
        let le = nat-le-is tk.number (released now tk.queue) after in
        let here = ap (released past) e in
        let there = ap (released now) e in
        let mine : IsAmong s (sends_under past u.queue tk.number) = subst (λ (i : ℕ). IsAmong s (sends_under past i tk.number)) (sym e) a in
        among-all past s u.queue tk.number (suc (released past u.queue)) (released now u.queue - released past u.queue) mine (omega (arith, gt, here)) (omega (arith, gt, le, here, there))
    by_queue (Other t ne) =
        let same : released now tk.queue ≡ released past tk.queue = is tk.queue ∙ (rw t refl) in
        absurd (cc (before, after, ap (nat_le tk.number) same))

-- a held send that comes to enter is let in now
comes-in : (k : Declarations) (l : Limits) (past : Past) (d : ℕ) (w : What) (tk : Ticket) (s : Sent) → AllAllowed k l past → IsAmong s (sends_under past tk.queue tk.number)
    → enters past (Some tk) ≡ false → enters (entry_by d w ∷ past) (Some tk) ≡ true → IsAmong s (entering_by k past (entry_by d w ∷ past) d w)
comes-in k l past d What.EndOrdered tk s all a before after = lets-in k past d What.EndOrdered (open_ticket past d) tk s a (λ q. refl) before after
comes-in k l past d (What.End lost cells) tk s all a before after = lets-in k past d (What.End lost cells) (open_ticket past d) tk s a (λ q. refl) before after
comes-in k l past d (What.Take r n t) tk s all a before after =
    let same = take-released k l past d r n t tk.queue all in absurd (cc (before, after, ap (nat_le tk.number) same))
comes-in k l past d w tk s all a before after = let same : enters past (Some tk) ≡ true = after in absurd (cc (before, same))

stands-kept : (k : Declarations) (l : Limits) (past : Past) (d : ℕ) (w : What) (h : ℕ) (before : Past) (c : ℕ) (f : Handle) (q : QueueId) (t : Option ℕ) (st : Option Stamp) → AllAllowed k l past
    → SendStands k past h before c f q t st → SendStands k (entry_by d w ∷ past) h before c f q t st
stands-kept k l past d w h before c f q t st all was =
    let m = minting-kept past d w f.0 was.origin was.minted in
    record {
      same = was.same;
      core = was.core;
      origin = m.0;
      minted = m.1;
      under = λ tk is. under-kept past d w (record { queue = q.0; core = c; handle = f.0; stamp = st }) tk.queue tk.number (was.under tk is);
      inside = λ after b own. by_before (enters past (ticket_of_send before c t)) refl (ticket_of_send before c t) refl after b own;
    }
  where
    rec : Sent
    rec = record { queue = q.0; core = c; handle = f.0; stamp = st }

    by_before : (v : Bool) → enters past (ticket_of_send before c t) ≡ v → (o : Option Ticket) → ticket_of_send before c t ≡ o → enters (entry_by d w ∷ past) (ticket_of_send before c t) ≡ true
        → (b : ℕ) → is_for k q.0 b q.0 c ≡ true → StandsIn (arrivals k (entry_by d w ∷ past) q.0 b) f.0 st
    by_before true on o is after b own = stands-still k past (entry_by d w) q.0 b f.0 st (was.inside on b own)
    by_before false off None is after b own = absurd (cc (off, ap (enters past) is))
    by_before false off (Some tk) is after b own =
        let a = comes-in k l past d w tk rec all (was.under tk is) (sym (ap (enters past) is) ∙ off) (sym (ap (enters (entry_by d w ∷ past)) is) ∙ after) in
        goes-in k past q.0 b (arrivals k past q.0 b) (entering k past (entry_by d w)) rec was.origin was.minted a own

any-kept : (k : Declarations) (l : Limits) (past : Past) (d : ℕ) (w : What) (h : ℕ) (before : Past) (c : ℕ) (v : What) → AllAllowed k l past
    → Stands k past h before c v → Stands k (entry_by d w ∷ past) h before c v
any-kept k l past d w h before c (What.Send f q t st) all was = stands-kept k l past d w h before c f q t st all was
any-kept k l past d w h before c v all was = tt

-- a send that is made now
stands-now : (k : Declarations) (l : Limits) (past : Past) (d : ℕ) (f : Handle) (q : QueueId) (t : Option ℕ) (st : Option Stamp) (h : ℕ) → d < k.cores → SendMoment k past d f.0 q.0 t st
    → spends past d (What.Send f q t st) h ≡ true → SendStands k (entry_by d (What.Send f q t st) ∷ past) h past d f q t st
stands-now k l past d f q t st h lt m spent =
    let u = usable past d f.0 m.rule in
    record {
      same = by_test (compared f.0 h) spent;
      core = lt;
      origin = u.origin;
      minted = u.minted;
      under = λ tk is. rw (is, eq-eqb tk.queue tk.queue refl, eq-eqb tk.number tk.number refl) (among-right rec (sends_under past tk.queue tk.number) (rec ∷ []) (inl refl));
      inside = λ after c own. goes-in k past q.0 c (arrivals k past q.0 c) (send_entering past d (What.Send f q t st)) rec u.origin u.minted (by_ticket (ticket_of_send past d t) refl after) own;
    }
  where
    rec : Sent
    rec = record { queue = q.0; core = d; handle = f.0; stamp = st }

    by_test : Compared f.0 h → ((f.0 == h) || false) ≡ true → f.0 ≡ h
    by_test (Same _ e) is = e
    by_test (Other u _) is = absurd (cc (rw u at is))

    by_ticket : (o : Option Ticket) → ticket_of_send past d t ≡ o → enters (entry_by d (What.Send f q t st) ∷ past) (ticket_of_send past d t) ≡ true
        → IsAmong rec (if enters past (ticket_of_send past d t) then rec ∷ [] else [])
    by_ticket None is after = rw is (inl refl)
    by_ticket (Some tk) is after =
        let on : enters past (Some tk) ≡ true = sym (ap (enters (entry_by d (What.Send f q t st) ∷ past)) is) ∙ after in
        let here : enters past (ticket_of_send past d t) ≡ true = ap (enters past) is ∙ on in
        subst (λ b. IsAmong rec (if b then rec ∷ [] else [])) (sym here) (inl refl)

spent-now : (k : Declarations) (l : Limits) (past : Past) (d : ℕ) (w : What) (h : ℕ) → d < k.cores → Moment k l past d w → spends past d w h ≡ true → Stands k (entry_by d w ∷ past) h past d w
spent-now k l past d (What.Send f q t st) h lt m spent = stands-now k l past d f q t st h lt m spent
spent-now k l past d w h lt m spent = tt

next-stands : (k : Declarations) (l : Limits) (past : Past) (d : ℕ) (w : What) (h : ℕ) → d < k.cores → AllAllowed k l past → Moment k l past d w
    → ((s : Spending) → spending past h ≡ Some s → Stands k past h s.before s.core s.what)
    → (s : Spending) → spending (entry_by d w ∷ past) h ≡ Some s → Stands k (entry_by d w ∷ past) h s.before s.core s.what
next-stands k l past d w h lt all m older s is = by_spent (spending past h) refl
  where
    by_now : spending past h ≡ None → (b : Bool) → spends past d w h ≡ b → Stands k (entry_by d w ∷ past) h s.before s.core s.what
    by_now none true now =
        let one : record { before = past; core = d; what = w } ≡ s = some-inj _ _ (sym (spends-now past d w h none now) ∙ is) in
        subst (λ (v : Spending). Stands k (entry_by d w ∷ past) h v.before v.core v.what) one (spent-now k l past d w h lt m now)
    by_now none false now =
        let still : spending (entry_by d w ∷ past) h ≡ None = rw (none, now) refl in absurd (none-some s (sym still ∙ is))

    by_spent : (o : Option Spending) → spending past h ≡ o → Stands k (entry_by d w ∷ past) h s.before s.core s.what
    by_spent None none = by_now none (spends past d w h) refl
    by_spent (Some p) was =
        let one : p ≡ s = some-inj _ _ (sym (spending-kept past d w h p was) ∙ is) in
        subst (λ (v : Spending). Stands k (entry_by d w ∷ past) h v.before v.core v.what) one (any-kept k l past d w h p.before p.core p.what all (older p was))

stands : (k : Declarations) (l : Limits) (past : Past) → AllAllowed k l past → (h : ℕ) (s : Spending) → spending past h ≡ Some s → Stands k past h s.before s.core s.what
stands k l [] all h s is = absurd (none-some s is)
stands k l (e ∷ past) all h s is =
    next-stands k l past e.core.0 e.what h all.0.core all.1 (allowed-moment k l past e all.1 all.0) (stands k l past all.1 h) s is

-- the law

has-all : (h i : ℕ) (f : ℕ → List ℕ) (a n : ℕ) → has (f i) h ≡ true → a ≤ i → i < a + n → has (flat_map f (numbers_from a n)) h ≡ true
has-all h i f a zero is low high = absurd (omega arith)
has-all h i f a (suc n) is low high = by_test (compared a i) (has-all h i f (suc a) n is)
  where
    by_test : Compared a i → (suc a ≤ i → i < suc a + n → has (flat_map f (numbers_from (suc a) n)) h ≡ true) → has (f a ++ flat_map f (numbers_from (suc a) n)) h ≡ true
    by_test (Same _ e) later = has-left h (f a) _ (ap (λ j. has (f j) h) e ∙ is)
    by_test (Other _ ne) later = has-right h (f a) _ (later (omega (arith, ne)) (omega arith))

as-sent : (k : Declarations) (l : Limits) (now before : Past) (d : ℕ) (f : Handle) (q : QueueId) (t : Option ℕ) (st : Option Stamp) → AllAllowed k l now
    → spending now f.0 ≡ Some (record { before = before; core = d; what = What.Send f q t st }) → EntersAsSent k now before d f.0 q.0 t st
as-sent k l now before d f q t st all is = record { turn = by_enters (enters now (ticket_of_send before d t)) refl; stands = s.inside }
  where
    s : SendStands k now f.0 before d f q t st
    s = stands k l now all f.0 _ is

    by_kind : enters now (ticket_of_send before d t) ≡ true → (b : Bool) → is_local (kind_of k q.0) ≡ b
        → has (if b then flat_map (λ c. handles_of (arrivals k now q.0 c)) (below k.cores) else handles_of (arrivals k now q.0 0)) f.0 ≡ true
    by_kind on true local =
        has-all f.0 d (λ c. handles_of (arrivals k now q.0 c)) 0 k.cores
        (stands-has (arrivals k now q.0 d) f.0 st (s.inside on d (rw (local, eq-eqb q.0 q.0 refl, eq-eqb d d refl) refl))) (omega arith) (let lt = s.core in omega (arith, lt))
    by_kind on false plain = stands-has (arrivals k now q.0 0) f.0 st (s.inside on 0 (rw (plain, eq-eqb q.0 q.0 refl) refl))

    by_enters : (b : Bool) → enters now (ticket_of_send before d t) ≡ b → has (entered_in k now q.0) f.0 ≡ b
    by_enters true on = by_kind on (is_local (kind_of k q.0)) refl
    by_enters false off =
        let few = entered-in-le k now f.0 q.0 in
        let mine = entered-allowed k l now all f.0 in
        let none : times_allowed now (spending now f.0) ≡ 0 = ap (times_allowed now) is ∙ ap one_if off in
        occ-none f.0 (entered_in k now q.0) (omega (arith, few, mine, none))

turn : (k : Declarations) (l : Limits) (now before : Past) (d : ℕ) (w : What) → AllAllowed k l now → Moment k l before d w
    → ((h : ℕ) (s : Spending) → spending (entry_by d w ∷ before) h ≡ Some s → spending now h ≡ Some s) → EntersInTurn k now before d w
turn k l now before d (What.Send f q t st) all m kept =
    let u = usable before d f.0 m.rule in
    as-sent k l now before d f q t st all (kept f.0 _ (spends-now before d (What.Send f q t st) f.0 u.unspent (rw (eq-eqb f.0 f.0 refl) refl)))
turn k l now before d w all m kept = tt

turns : (k : Declarations) (l : Limits) (now past : Past) → AllAllowed k l now → AllAllowed k l past
    → ((h : ℕ) (s : Spending) → spending past h ≡ Some s → spending now h ≡ Some s) → Each (EntersInTurn k now) past
turns k l now [] all here kept = tt
turns k l now (e ∷ past) all here kept = (
  turn k l now past e.core.0 e.what all (allowed-moment k l past e here.1 here.0) kept,
  turns k l now past all here.1 (λ h s is. kept h s (spending-kept past e.core.0 e.what h s is)),
)

-- each send has entered its queue exactly where the tickets before it have ended, as it was sent
pub sends-in-turn : (k : Declarations) (l : Limits) (past : Past) → AllAllowed k l past → Each (EntersInTurn k past) past
sends-in-turn k l past all = turns k l past past all all (λ h s is. is)
