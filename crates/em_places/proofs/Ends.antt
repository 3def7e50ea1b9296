-- Parked handles sit after ends of contexts and of tickets.
use Rattle.std.proofs.Common.{◌≡◌, ℕ, ◌==◌, Bool, true, false, List, ◌∷◌, length, map, Option, Some, None, is_none, refl, sym, ◌∙◌, subst, ap, if◌then◌else◌}
use Rattle.em_log.specs.declared.declarations.Declarations.{Declarations}
use Rattle.em_log.specs.declared.entry.What.{What}
use Rattle.em_log.specs.declared.ids.Cells.{Cells}
use Rattle.em_log.specs.declared.ids.Handle.{Handle}
use Rattle.em_log.specs.declared.ids.Limits.{Limits}
use Rattle.em_log.specs.declared.ids.QueueId.{QueueId}
use Rattle.em_log.specs.declared.ids.Stamp.{Stamp}
use Rattle.em_log.specs.History.{Past, entry_by, has, index_of}
use Rattle.em_log.specs.Declarations.{kind_of, is_output}
use Rattle.em_log.specs.Handles.{Minting, minting, last_handle, Spending, spending, held, rule}
use Rattle.em_log.specs.Order.{Sent, open_ticket, ticket_of_send, enters, let_in}
use Rattle.em_log.specs.Places.{waiting, taken, has_item}
use Rattle.em_log.specs.Lawful.{AllAllowed}
use Rattle.em_moments.proofs.Moments.{Moment}
use Rattle.em_pool.specs.declared.place.Place.{Place}
use Rattle.em_pool.specs.State.{is_held_by}
use Rattle.em_pool.specs.Steps.{PoolStep, Lost}
use Rattle.em_laws.proofs.Cores.{Compared, Same, Other, compared, if-same, some-inj}
use Rattle.em_laws.proofs.Lists.{for-queue}
use Rattle.em_parts.specs.PoolSteps.{Move, moved, entry_place, sent_move, pool_steps}
use Rattle.em_pool.specs.Spots.{spot}
use Rattle.em_places.specs.Parked.{Parked, InContext, InQueue, InTaken, InOrder, InOperation, InGroup, InObject, InPool, free_after, Sits, AllSit}
use Rattle.em_arrivals.proofs.Arrivals.{waiting-now}
use Rattle.em_arrivals.proofs.Released.{LetIn, let-in-all}
use Rattle.em_places.proofs.Moves.{touches, untouched, moved-to, sents-to, touched-sent, came-sent}
use Rattle.em_places.proofs.FreeAfter.{FreeNow, FreeBefore, CameOut, free-now}
use Rattle.em_places.proofs.Unmoved.{same-handle, same-place, not-before, delayed-inj}
use Rattle.em_places.proofs.Spending.{spent-none, SpentBy, SpentBefore, SpentNow, spent-some}
use Rattle.em_laws.proofs.Usable.{Usable}
use Rattle.em_arrivals.proofs.Lists.{came, AllSent, all-map, InEither, InFirst, InSecond, in-either}

pub record LetSits (k : Declarations) (past : Past) (base : List PoolStep) (ms : List Move) (h : ℕ) (p : Place) : Type 0 where
  pub last : last_handle past (index_of h) ≡ Some h
  pub spot : spot (moved ms base) (index_of h) ≡ p

-- what is let in was held back
pub let-delayed : (k : Declarations) (past now : Past) (s : Sent) → LetIn past now s → AllSit k past → Sits k past s.handle (Place.Delayed (record { 0 = s.queue }))
let-delayed k past now s i older =
    let u = i.sent in
    older s.handle _ (InOrder u.how u.handle u.to u.number u.stamp u.spent u.what (ap (enters past) u.ticket ∙ i.before) (ap (λ (n : ℕ). Place.Delayed (record { 0 = n })) (sym u.queue)))

let-keep : (k : Declarations) (past now : Past) (ss : List Sent) (base : List PoolStep) (h : ℕ) (p : Place) → AllSent (LetIn past now) ss → AllSit k past → Sits k past h p → spot base (index_of h) ≡ p
    → ((s : Sent) → LetIn past now s → s.handle ≡ h → p ≡ Place.Delayed (record { 0 = s.queue }) → ⊥) → LetSits k past base (map (sent_move k) ss) h p
let-keep k past now ss base h p all older s here apart = by_test (touches (map (sent_move k) ss) (index_of h)) refl
  where
    by_test : (b : Bool) → touches (map (sent_move k) ss) (index_of h) ≡ b → LetSits k past base (map (sent_move k) ss) h p
    by_test false is = record { last = s.last; spot = untouched (map (sent_move k) ss) base (index_of h) is ∙ here }
    by_test true is =
        let t = touched-sent k (LetIn past now) ss (index_of h) all is in
        let sits = let-delayed k past now t.sent t.holds older in
        let one = same-handle k past h t.sent.handle p _ s sits t.index in
        absurd (apart t.sent t.holds one (sym (same-place k past h t.sent.handle p _ s sits t.index)))

pub let-enters : (k : Declarations) (past now : Past) (ss : List Sent) (base : List PoolStep) (s : Sent) (h : ℕ) → AllSent (LetIn past now) ss → AllSit k past → LetIn past now s → s.handle ≡ h
    → touches (map (sent_move k) ss) (index_of h) ≡ true → LetSits k past base (map (sent_move k) ss) h (entry_place k s.queue)
let-enters k past now ss base s h all older i same touched =
    let sits : Sits k past h (Place.Delayed (record { 0 = s.queue })) = subst (λ (n : ℕ). Sits k past n (Place.Delayed (record { 0 = s.queue }))) same (let-delayed k past now s i older) in
    let to : AllSent (λ v. index_of v.handle ≡ index_of h → (sent_move k v).to ≡ entry_place k s.queue) ss =
    all-map (LetIn past now) (λ v. index_of v.handle ≡ index_of h → (sent_move k v).to ≡ entry_place k s.queue) ss (λ v j is.
    ap (entry_place k) (delayed-inj v.queue s.queue (same-place k past h v.handle _ _ sits (let-delayed k past now v j older) is))) all in
    record { last = sits.last; spot = moved-to (map (sent_move k) ss) base (index_of h) (entry_place k s.queue) (sents-to k ss (index_of h) (entry_place k s.queue) to) touched }

-- what is held back still has not come
still-held : (past now : Past) (s : Spending) (f : Handle) (q : QueueId) (t : Option ℕ) (st : Option Stamp) (h : ℕ) → spending past h ≡ Some s → s.what ≡ What.Send f q t st
    → enters now (ticket_of_send s.before s.core t) ≡ false → (v : Sent) → LetIn past now v → v.handle ≡ h → ⊥
still-held past now s f q t st h is what off v i same =
    let u = i.sent in
    let one : u.how ≡ s = some-inj _ _ (sym u.spent ∙ (ap (spending past) same ∙ is)) in
    let sends : What.Send u.handle u.to u.number u.stamp ≡ What.Send f q t st = sym u.what ∙ (ap (λ (x : Spending). x.what) one ∙ what) in
    let ticket : ticket_of_send s.before s.core t ≡ ticket_of_send u.how.before u.how.core u.number =
    ap (ticket_of_send s.before s.core) (sym (ap ticket_in sends)) ∙ ap (λ (x : Spending). ticket_of_send x.before x.core u.number) (sym one) in
    let on : enters now (ticket_of_send s.before s.core t) ≡ true = ap (enters now) (ticket ∙ u.ticket) ∙ i.after in
    absurd (cc (on, off))
  where
    ticket_in : What → Option ℕ
    ticket_in (What.Send f q t st) = t
    ticket_in w = None

-- what waits after such an entry
let-waits : (k : Declarations) (past now : Past) (ss : List Sent) (base : List PoolStep) (h : ℕ) (p : Place) (r c : ℕ) → AllSent (LetIn past now) ss → AllSit k past
    → ((q : Parked k past h p) → spot base (index_of h) ≡ p) → is_output (kind_of k r) ≡ false → p ≡ Place.Waiting (record { 0 = r })
    → InEither h (waiting k past r c) (came k past r c ss) → LetSits k past base (map (sent_move k) ss) h p
let-waits k past now ss base h p r c all older here plain eq (InFirst is) =
    let q = InQueue r c plain is eq in
    let-keep k past now ss base h p all older (older h p q) (here q) (λ s i same z. absurd (cc (eq, z)))
let-waits k past now ss base h p r c all older here plain eq (InSecond is) =
    let s = came-sent k past (LetIn past now) ss r c h all is in
    let moves = let-enters k past now ss base s.sent h all older s.holds s.handle s.touched in
    let queue : s.sent.queue ≡ r = for-queue k r c s.sent.queue s.sent.core s.list in
    let off : is_output (kind_of k s.sent.queue) ≡ false = ap (λ (i : ℕ). is_output (kind_of k i)) queue ∙ plain in
    let whole : entry_place k s.sent.queue ≡ p = rw off (ap (λ (i : ℕ). Place.Waiting (record { 0 = i })) queue ∙ sym eq) in
    record { last = moves.last; spot = moves.spot ∙ whole }

-- what comes to an output is free
let-out : (k : Declarations) (past now : Past) (ss : List Sent) (base : List PoolStep) (h : ℕ) (p : Place) (r c : ℕ) → AllSent (LetIn past now) ss → AllSit k past
    → is_output (kind_of k r) ≡ true → p ≡ Place.Free → has_item (came k past r c ss) h ≡ true → LetSits k past base (map (sent_move k) ss) h p
let-out k past now ss base h p r c all older out eq is =
    let s = came-sent k past (LetIn past now) ss r c h all is in
    let moves = let-enters k past now ss base s.sent h all older s.holds s.handle s.touched in
    let queue : s.sent.queue ≡ r = for-queue k r c s.sent.queue s.sent.core s.list in
    let on : is_output (kind_of k s.sent.queue) ≡ true = ap (λ (i : ℕ). is_output (kind_of k i)) queue ∙ out in
    let whole : entry_place k s.sent.queue ≡ p = rw on (sym eq) in
    record { last = moves.last; spot = moves.spot ∙ whole }

pub sits-end_ordered : (k : Declarations) (l : Limits) (past : Past) (d : ℕ) → AllAllowed k l past → Moment k l past d What.EndOrdered → AllSit k past
    → AllSit k (entry_by d What.EndOrdered ∷ past)
sits-end_ordered k l past d all m older h p parked = by_parked parked
  where
    now : Past
    now = entry_by d What.EndOrdered ∷ past

    ss : List Sent
    ss = let_in past now (open_ticket past d)

    let_all : AllSent (LetIn past now) ss
    let_all = let-in-all k l past now (open_ticket past d) all

    given : LetSits k past (pool_steps k past) (map (sent_move k) ss) h p → Sits k now h p
    given s = record { last = s.last; spot = s.spot }

    other : Parked k past h p → ((s : Sent) → LetIn past now s → s.handle ≡ h → p ≡ Place.Delayed (record { 0 = s.queue }) → ⊥) → Sits k now h p
    other q apart = let s = older h p q in given (let-keep k past now ss (pool_steps k past) h p let_all older s s.spot apart)

    by_free : (v : Minting) (s : Spending) → last_handle past (index_of h) ≡ Some h → minting past h ≡ Some v → spending past h ≡ Some s → p ≡ Place.Free
        → FreeNow k past (entry_by d What.EndOrdered) h s.what → Sits k now h p
    by_free v s last is spent eq (FreeBefore u) = other (InPool v s last is spent u eq) (λ x i same z. absurd (cc (eq, z)))
    by_free v s last is spent eq (CameOut r c out u) = given (let-out k past now ss (pool_steps k past) h p r c let_all older out eq u)

    by_parked : Parked k now h p → Sits k now h p
    by_parked (InContext v is un eq) = other (InContext v is un eq) (λ s i same z. absurd (cc (eq, z)))
    by_parked (InQueue r c plain is eq) =
        given (let-waits k past now ss (pool_steps k past) h p r c let_all older (λ q. (older h p q).spot) plain eq
        (in-either h (waiting k past r c) (came k past r c ss) (subst (λ xs. has_item xs h ≡ true) (waiting-now k l past d What.EndOrdered r c all m) is)))
    by_parked (InTaken c is eq) = other (InTaken c (subst (λ xs. has_item xs h ≡ true) (if-same (d == c) (taken k past c)) is) eq) (λ s i same z. absurd (cc (eq, z)))
    by_parked (InOrder s f q t st is what off eq) =
        other (InOrder s f q t st is what (not-before past d What.EndOrdered _ off) eq) (λ v i same z. still-held past now s f q t st h is what off v i same)
    by_parked (InOperation n o is un there eq) = other (InOperation n o is un there eq) (λ s i same z. absurd (cc (eq, z)))
    by_parked (InGroup g on there eq) = other (InGroup g on there eq) (λ s i same z. absurd (cc (eq, z)))
    by_parked (InObject x there eq) = other (InObject x there eq) (λ s i same z. absurd (cc (eq, z)))
    by_parked (InPool v s last is spent free eq) = by_free v s last is spent eq (free-now k past (entry_by d What.EndOrdered) h s.what (λ n. refl) (λ g a. refl) free)

pub sits-end : (k : Declarations) (l : Limits) (past : Past) (d lost : ℕ) (cells : Option Cells) → AllAllowed k l past → Usable past → Moment k l past d (What.End lost cells) → AllSit k past
    → AllSit k (entry_by d (What.End lost cells) ∷ past)
sits-end k l past d lost cells all usable m older h p parked = by_parked parked
  where
    w : What
    w = What.End lost cells

    now : Past
    now = entry_by d w ∷ past

    ss : List Sent
    ss = let_in past now (open_ticket past d)

    base : List PoolStep
    base = Lost d (length past) ∷ pool_steps k past

    let_all : AllSent (LetIn past now) ss
    let_all = let-in-all k l past now (open_ticket past d) all

    given : LetSits k past base (map (sent_move k) ss) h p → Sits k now h p
    given s = record { last = s.last; spot = s.spot }

    kept_spot : Sits k past h p → is_held_by d p ≡ false → spot base (index_of h) ≡ p
    kept_spot s off = ap (λ v. if is_held_by d v then Place.Lost else v) s.spot ∙ (rw off refl)

    other : Parked k past h p → is_held_by d p ≡ false → ((s : Sent) → LetIn past now s → s.handle ≡ h → p ≡ Place.Delayed (record { 0 = s.queue }) → ⊥) → Sits k now h p
    other q off apart = let s = older h p q in given (let-keep k past now ss base h p let_all older s (kept_spot s off) apart)

    by_order : (s : Spending) (f : Handle) (q : QueueId) (t : Option ℕ) (st : Option Stamp) → SpentBy past (entry_by d w) (has (held past d) h) (spending past h) s → s.what ≡ What.Send f q t st
        → enters now (ticket_of_send s.before s.core t) ≡ false → p ≡ Place.Delayed q → Sits k now h p
    by_order s f q t st (SpentBefore is) what off eq =
        other (InOrder s f q t st is what (not-before past d w _ off) eq) (ap (is_held_by d) eq) (λ v i same z. still-held past now s f q t st h is what off v i same)
    by_order s f q t st (SpentNow b is) what off eq = absurd (let e : w ≡ What.Send f q t st = sym (ap (λ (v : Spending). v.what) is) ∙ what in cc e)

    by_context : (v : Minting) → minting past h ≡ Some v → (has (held past d) h ≡ false) × (spending past h ≡ None) → p ≡ Place.Held (record { 0 = v.core }) → Compared v.core d → Sits k now h p
    by_context v is both eq (Same t same) = absurd (let on = usable.held d h in let ok : is_none (rule past d h) ≡ true = rw (is, both.1, t) refl in cc (on, ok, both.0))
    by_context v is both eq (Other t ne) = other (InContext v is both.1 eq) (ap (is_held_by d) eq ∙ t) (λ s i same z. absurd (cc (eq, z)))

    by_pool : (v : Minting) (s : Spending) → last_handle past (index_of h) ≡ Some h → minting past h ≡ Some v → SpentBy past (entry_by d w) (has (held past d) h) (spending past h) s
        → free_after k now h s.what ≡ true → p ≡ Place.Free → Sits k now h p
    by_pool v s last is (SpentBefore t) free eq = by_free (free-now k past (entry_by d w) h s.what (λ n. refl) (λ g a. refl) free)
      where
        by_free : FreeNow k past (entry_by d w) h s.what → Sits k now h p
        by_free (FreeBefore u) = other (InPool v s last is t u eq) (ap (is_held_by d) eq) (λ x i same z. absurd (cc (eq, z)))
        by_free (CameOut r c out u) = given (let-out k past now ss base h p r c let_all older out eq u)
    by_pool v s last is (SpentNow b t) free eq =
        absurd (let off : free_after k now h w ≡ true = subst (λ (x : Spending). free_after k now h x.what ≡ true) t free in cc off)

    by_parked : Parked k now h p → Sits k now h p
    by_parked (InContext v is un eq) = by_context v is (spent-none (has (held past d) h) past (entry_by d w) (spending past h) un) eq (compared v.core d)
    by_parked (InQueue r c plain is eq) =
        given (let-waits k past now ss base h p r c let_all older (λ q. kept_spot (older h p q) (ap (is_held_by d) eq)) plain eq
        (in-either h (waiting k past r c) (came k past r c ss) (subst (λ xs. has_item xs h ≡ true) (waiting-now k l past d w r c all m) is)))
    by_parked (InTaken c is eq) =
        other (InTaken c (subst (λ xs. has_item xs h ≡ true) (if-same (d == c) (taken k past c)) is) eq) (ap (is_held_by d) eq) (λ s i same z. absurd (cc (eq, z)))
    by_parked (InOrder s f q t st is what off eq) = by_order s f q t st (spent-some _ past _ (spending past h) s is) what off eq
    by_parked (InOperation n o is un there eq) = other (InOperation n o is un there eq) (ap (is_held_by d) eq) (λ s i same z. absurd (cc (eq, z)))
    by_parked (InGroup g on there eq) = other (InGroup g on there eq) (ap (is_held_by d) eq) (λ s i same z. absurd (cc (eq, z)))
    by_parked (InObject x there eq) = other (InObject x there eq) (ap (is_held_by d) eq) (λ s i same z. absurd (cc (eq, z)))
    by_parked (InPool v s last is spent free eq) = by_pool v s last is (spent-some _ past _ (spending past h) s spent) free eq
