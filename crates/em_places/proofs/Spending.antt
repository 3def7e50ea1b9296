-- Parked handles sit after frees, keeps and sends.
use Rattle.std.proofs.Common.{◌≡◌, ℕ, ◌==◌, Bool, true, false, ◌||◌, List, [], ◌∷◌, ◌++◌, length, Option, Some, None, refl, sym, ◌∙◌, subst, ap, if◌then◌else◌, arith}
use Rattle.std.proofs.lemmas.Bool.{eq-eqb}
use Rattle.em_log.specs.declared.declarations.Declarations.{Declarations}
use Rattle.em_log.specs.declared.entry.Entry.{Entry}
use Rattle.em_log.specs.declared.entry.What.{What}
use Rattle.em_log.specs.declared.ids.Handle.{Handle}
use Rattle.em_log.specs.declared.ids.Limits.{Limits}
use Rattle.em_log.specs.declared.ids.QueueId.{QueueId}
use Rattle.em_log.specs.declared.ids.Stamp.{Stamp}
use Rattle.em_log.specs.History.{Past, entry_by, has, index_of}
use Rattle.em_log.specs.Declarations.{kind_of, is_output, is_number}
use Rattle.em_log.specs.Contexts.{context_object}
use Rattle.em_log.specs.Handles.{Minting, minting, last_handle, Spending, spent_by, spending, rule}
use Rattle.em_log.specs.Order.{Sent, ticket_of_send, enters}
use Rattle.em_log.specs.Arrivals.{send_entering}
use Rattle.em_log.specs.Places.{waiting, taken, kept, has_item, has_entered}
use Rattle.em_log.specs.Answers.{object_id}
use Rattle.em_log.specs.Lawful.{AllAllowed}
use Rattle.em_moments.proofs.Asked.{and-true}
use Rattle.em_moments.proofs.Moments.{FreeMoment, KeepMoment, SendMoment}
use Rattle.em_pool.specs.declared.place.Place.{Place}
use Rattle.em_pool.specs.declared.place.Spend.{Spend}
use Rattle.em_pool.specs.Steps.{Spent}
use Rattle.em_laws.proofs.Cores.{Compared, Same, Other, compared, if-same, some-inj}
use Rattle.em_laws.proofs.Lists.{for-queue}
use Rattle.em_laws.proofs.Spent.{usable}
use Rattle.em_laws.proofs.Entering.{times_allowed}
use Rattle.em_arrivals.proofs.Entered.{entered-let}
use Rattle.em_parts.specs.PoolSteps.{moved, entry_place, out_moves, pool_steps}
use Rattle.em_pool.specs.Spots.{spot}
use Rattle.em_places.specs.Parked.{Parked, InContext, InQueue, InTaken, InOrder, InOperation, InGroup, InObject, InPool, free_after, Sits, AllSit}
use Rattle.em_arrivals.proofs.Arrivals.{waiting-now}
use Rattle.em_places.proofs.Moves.{came-sent}
use Rattle.em_places.proofs.FreeAfter.{free-pull, Enters, EnteredBefore, CameNow, enters-by, FreeNow, FreeBefore, CameOut, free-now}
use Rattle.em_places.proofs.Unmoved.{same-handle, same-place, not-before}
use Rattle.em_arrivals.proofs.Lists.{came, AllSent, InEither, InFirst, InSecond, in-either}

-- a handle that may be used sits with a core
pub record InHand (k : Declarations) (past : Past) (f : ℕ) : Type 0 where
  pub core : ℕ
  pub sits : Sits k past f (Place.Held (record { 0 = core }))

pub in-hand : (k : Declarations) (past : Past) (c f : ℕ) → rule past c f ≡ None → AllSit k past → InHand k past f
in-hand k past c f ok older =
    let u = usable past c f ok in record { core = u.origin.core; sits = older f _ (InContext u.origin u.minted u.unspent refl) }

pub spent-none : (b : Bool) (past : Past) (e : Entry) (o : Option Spending) → spent_by b past e o ≡ None → (b ≡ false) × (o ≡ None)
spent-none false past e o is = (refl, is)
spent-none true past e None is = absurd cc
spent-none true past e (Some s) is = absurd cc

pub data SpentBy (past : Past) (e : Entry) (b : Bool) (o : Option Spending) (s : Spending) : Type 0 where
  SpentBefore : o ≡ Some s → SpentBy past e b o s
  SpentNow : b ≡ true → s ≡ record { before = past; core = e.core.0; what = e.what } → SpentBy past e b o s

pub spent-some : (b : Bool) (past : Past) (e : Entry) (o : Option Spending) (s : Spending) → spent_by b past e o ≡ Some s → SpentBy past e b o s
spent-some false past e o s is = SpentBefore is
spent-some true past e None s is = SpentNow refl (sym (some-inj _ _ is))
spent-some true past e (Some t) s is = SpentBefore is

pub one-named : (f h : ℕ) → has (f ∷ []) h ≡ true → f ≡ h
one-named f h is = by_test (compared f h) is
  where
    by_test : Compared f h → has (f ∷ []) h ≡ true → f ≡ h
    by_test (Same t e) is = e
    by_test (Other t ne) is = absurd (cc (rw t at is))

record SpendSits (k : Declarations) (past : Past) (f : ℕ) (to : Place) (h : ℕ) (p : Place) : Type 0 where
  last : last_handle past (index_of h) ≡ Some h
  spot : (if index_of f == index_of h then to else spot (pool_steps k past) (index_of h)) ≡ p

spend-keeps : (k : Declarations) (past : Past) (f : ℕ) (to : Place) (h : ℕ) (p : Place) → Sits k past h p → (index_of f ≡ index_of h → ⊥) → SpendSits k past f to h p
spend-keeps k past f to h p s apart = by_test (compared (index_of f) (index_of h))
  where
    by_test : Compared (index_of f) (index_of h) → SpendSits k past f to h p
    by_test (Same t is) = absurd (apart is)
    by_test (Other t ne) = record { last = s.last; spot = rw t s.spot }

spend-aside : (k : Declarations) (past : Past) (f : ℕ) (to : Place) (h : ℕ) (p : Place) → InHand k past f → Sits k past h p → ((c : ℕ) → p ≡ Place.Held (record { 0 = c }) → ⊥)
    → SpendSits k past f to h p
spend-aside k past f to h p hand s ne = spend-keeps k past f to h p s (λ is. ne hand.core (sym (same-place k past h f p _ s hand.sits is)))

spend-context : (k : Declarations) (past : Past) (f : ℕ) (to : Place) (h : ℕ) (p : Place) (m : Minting) (d : ℕ) (w : What) → InHand k past f → AllSit k past → minting past h ≡ Some m
    → spent_by (has (f ∷ []) h) past (entry_by d w) (spending past h) ≡ None → p ≡ Place.Held (record { 0 = m.core }) → SpendSits k past f to h p
spend-context k past f to h p m d w hand older minted un eq =
    let both = spent-none (has (f ∷ []) h) past (entry_by d w) (spending past h) un in
    let s = older h p (InContext m minted both.1 eq) in
    spend-keeps k past f to h p s (λ is.
    let one : f ≡ h = same-handle k past h f p _ s hand.sits is in
    let on : has (f ∷ []) h ≡ true = rw (eq-eqb f h one) refl in
    cc (on, both.0))

spend-now : (k : Declarations) (past : Past) (f : ℕ) (to : Place) (h : ℕ) → InHand k past f → f ≡ h → SpendSits k past f to h to
spend-now k past f to h hand is =
    record {
      last = subst (λ (i : ℕ). last_handle past (index_of i) ≡ Some i) is hand.sits.last;
      spot = rw (eq-eqb (index_of f) (index_of h) (ap index_of is)) refl;
    }

pub sits-free : (k : Declarations) (past : Past) (d : ℕ) (f : Handle) → FreeMoment k past d f.0 → AllSit k past → AllSit k (entry_by d (What.Free f) ∷ past)
sits-free k past d f m older h p parked = by_parked parked
  where
    hand : InHand k past f.0
    hand = in-hand k past d f.0 m.rule older

    given : SpendSits k past f.0 Place.Free h p → Sits k (entry_by d (What.Free f) ∷ past) h p
    given s = record { last = s.last; spot = s.spot }

    other : Parked k past h p → ((c : ℕ) → p ≡ Place.Held (record { 0 = c }) → ⊥) → Sits k (entry_by d (What.Free f) ∷ past) h p
    other q ne = given (spend-aside k past f.0 Place.Free h p hand (older h p q) ne)

    before : (s : Spending) (g : Handle) (q : QueueId) (t : Option ℕ) (st : Option Stamp) → SpentBy past (entry_by d (What.Free f)) (has (f.0 ∷ []) h) (spending past h) s → s.what ≡ What.Send g q t st
        → enters (entry_by d (What.Free f) ∷ past) (ticket_of_send s.before s.core t) ≡ false → p ≡ Place.Delayed q → Sits k (entry_by d (What.Free f) ∷ past) h p
    before s g q t st (SpentBefore is) what off eq = other (InOrder s g q t st is what (not-before past d (What.Free f) _ off) eq) (λ c z. absurd (cc (eq, z)))
    before s g q t st (SpentNow b is) what off eq = absurd (let e : What.Free f ≡ What.Send g q t st = sym (ap (λ (v : Spending). v.what) is) ∙ what in cc e)

    by_pool : (v : Minting) (s : Spending) → last_handle past (index_of h) ≡ Some h → minting past h ≡ Some v → SpentBy past (entry_by d (What.Free f)) (has (f.0 ∷ []) h) (spending past h) s
        → free_after k (entry_by d (What.Free f) ∷ past) h s.what ≡ true → p ≡ Place.Free → Sits k (entry_by d (What.Free f) ∷ past) h p
    by_pool v s last is (SpentBefore t) free eq =
        other (InPool v s last is t (free-pull k past (entry_by d (What.Free f) ∷ past) h s.what (λ q e. e) (λ n. refl) (λ g a. refl) free) eq) (λ c z. absurd (cc (eq, z)))
    by_pool v s last is (SpentNow b t) free eq = given (subst (SpendSits k past f.0 Place.Free h) (sym eq) (spend-now k past f.0 Place.Free h hand (one-named f.0 h b)))

    by_parked : Parked k (entry_by d (What.Free f) ∷ past) h p → Sits k (entry_by d (What.Free f) ∷ past) h p
    by_parked (InContext v is un eq) = given (spend-context k past f.0 Place.Free h p v d (What.Free f) hand older is un eq)
    by_parked (InQueue q c plain is eq) = other (InQueue q c plain is eq) (λ c z. absurd (cc (eq, z)))
    by_parked (InTaken c is eq) = other (InTaken c (subst (λ xs. has_item xs h ≡ true) (if-same (d == c) (taken k past c)) is) eq) (λ c z. absurd (cc (eq, z)))
    by_parked (InOrder s g q t st is what off eq) = before s g q t st (spent-some _ past _ (spending past h) s is) what off eq
    by_parked (InOperation n o is un there eq) = other (InOperation n o is un there eq) (λ c z. absurd (cc (eq, z)))
    by_parked (InGroup g on there eq) = other (InGroup g on there eq) (λ c z. absurd (cc (eq, z)))
    by_parked (InObject x there eq) = other (InObject x there eq) (λ c z. absurd (cc (eq, z)))
    by_parked (InPool v s last is spent free eq) = by_pool v s last is (spent-some _ past _ (spending past h) s spent) free eq

-- keeps

data InKept (h f : ℕ) (xs : List ℕ) : Type 0 where
  KeptBefore : has xs h ≡ true → InKept h f xs
  KeptNow : f ≡ h → InKept h f xs

in-kept : (h f : ℕ) (xs : List ℕ) → has (xs ++ f ∷ []) h ≡ true → InKept h f xs
in-kept h f [] is = by_test (compared f h) is
  where
    by_test : Compared f h → ((f == h) || false) ≡ true → InKept h f []
    by_test (Same t e) is = KeptNow e
    by_test (Other t ne) is = absurd (cc (rw t at is))
in-kept h f (x ∷ xs) is = by_test (x == h) refl is (in-kept h f xs)
  where
    more : (b : Bool) → (x == h) ≡ b → InKept h f xs → InKept h f (x ∷ xs)
    more b is (KeptNow e) = KeptNow e
    more true is (KeptBefore t) = KeptBefore (rw is refl)
    more false is (KeptBefore t) = KeptBefore (rw is t)

    by_test : (b : Bool) → (x == h) ≡ b → (b || has (xs ++ f ∷ []) h) ≡ true → (has (xs ++ f ∷ []) h ≡ true → InKept h f xs) → InKept h f (x ∷ xs)
    by_test true own is later = KeptBefore (rw own refl)
    by_test false own is later = more false own (later is)

pub sits-keep : (k : Declarations) (past : Past) (d : ℕ) (f : Handle) → KeepMoment k past d f.0 → AllSit k past → AllSit k (entry_by d (What.Keep f) ∷ past)
sits-keep k past d f m older h p parked = by_parked parked
  where
    hand : InHand k past f.0
    hand = in-hand k past d f.0 m.rule older

    to : Place
    to = Place.Kept (object_id (context_object k past d))

    given : SpendSits k past f.0 to h p → Sits k (entry_by d (What.Keep f) ∷ past) h p
    given s = record { last = s.last; spot = s.spot }

    other : Parked k past h p → ((c : ℕ) → p ≡ Place.Held (record { 0 = c }) → ⊥) → Sits k (entry_by d (What.Keep f) ∷ past) h p
    other q ne = given (spend-aside k past f.0 to h p hand (older h p q) ne)

    before : (s : Spending) (g : Handle) (q : QueueId) (t : Option ℕ) (st : Option Stamp) → SpentBy past (entry_by d (What.Keep f)) (has (f.0 ∷ []) h) (spending past h) s → s.what ≡ What.Send g q t st
        → enters (entry_by d (What.Keep f) ∷ past) (ticket_of_send s.before s.core t) ≡ false → p ≡ Place.Delayed q → Sits k (entry_by d (What.Keep f) ∷ past) h p
    before s g q t st (SpentBefore is) what off eq = other (InOrder s g q t st is what (not-before past d (What.Keep f) _ off) eq) (λ c z. absurd (cc (eq, z)))
    before s g q t st (SpentNow b is) what off eq = absurd (let e : What.Keep f ≡ What.Send g q t st = sym (ap (λ (v : Spending). v.what) is) ∙ what in cc e)

    in_kept : (x : ℕ) → p ≡ Place.Kept (record { 0 = x }) → (o : Option ℕ) → context_object k past d ≡ o
        → has (if is_number x o then kept k past x ++ f.0 ∷ [] else kept k past x) h ≡ true → Sits k (entry_by d (What.Keep f) ∷ past) h p
    in_kept x eq None at there = other (InObject x there eq) (λ c z. absurd (cc (eq, z)))
    in_kept x eq (Some y) at there = by_test (compared x y)
      where
        by_kept : x ≡ y → InKept h f.0 (kept k past x) → Sits k (entry_by d (What.Keep f) ∷ past) h p
        by_kept same (KeptBefore t) = other (InObject x t eq) (λ c z. absurd (cc (eq, z)))
        by_kept same (KeptNow e) =
            let whole : to ≡ p = ap (λ o. Place.Kept (object_id o)) at ∙ (ap (λ (i : ℕ). Place.Kept (record { 0 = i })) (sym same) ∙ sym eq) in
            given (subst (SpendSits k past f.0 to h) whole (spend-now k past f.0 to h hand e))

        by_test : Compared x y → Sits k (entry_by d (What.Keep f) ∷ past) h p
        by_test (Same t same) = by_kept same (in-kept h f.0 (kept k past x) (rw t at there))
        by_test (Other t ne) = other (InObject x (rw t at there) eq) (λ c z. absurd (cc (eq, z)))

    by_pool : (v : Minting) (s : Spending) → last_handle past (index_of h) ≡ Some h → minting past h ≡ Some v → SpentBy past (entry_by d (What.Keep f)) (has (f.0 ∷ []) h) (spending past h) s
        → free_after k (entry_by d (What.Keep f) ∷ past) h s.what ≡ true → p ≡ Place.Free → Sits k (entry_by d (What.Keep f) ∷ past) h p
    by_pool v s last is (SpentBefore t) free eq =
        other (InPool v s last is t (free-pull k past (entry_by d (What.Keep f) ∷ past) h s.what (λ q e. e) (λ n. refl) (λ g a. refl) free) eq) (λ c z. absurd (cc (eq, z)))
    by_pool v s last is (SpentNow b t) free eq =
        absurd (let off : free_after k (entry_by d (What.Keep f) ∷ past) h (What.Keep f) ≡ true = subst (λ (x : Spending). free_after k (entry_by d (What.Keep f) ∷ past) h x.what ≡ true) t free in cc off)

    by_parked : Parked k (entry_by d (What.Keep f) ∷ past) h p → Sits k (entry_by d (What.Keep f) ∷ past) h p
    by_parked (InContext v is un eq) = given (spend-context k past f.0 to h p v d (What.Keep f) hand older is un eq)
    by_parked (InQueue q c plain is eq) = other (InQueue q c plain is eq) (λ c z. absurd (cc (eq, z)))
    by_parked (InTaken c is eq) = other (InTaken c (subst (λ xs. has_item xs h ≡ true) (if-same (d == c) (taken k past c)) is) eq) (λ c z. absurd (cc (eq, z)))
    by_parked (InOrder s g q t st is what off eq) = before s g q t st (spent-some _ past _ (spending past h) s is) what off eq
    by_parked (InOperation n o is un there eq) = other (InOperation n o is un there eq) (λ c z. absurd (cc (eq, z)))
    by_parked (InGroup g on there eq) = other (InGroup g on there eq) (λ c z. absurd (cc (eq, z)))
    by_parked (InObject x there eq) = in_kept x eq (context_object k past d) refl there
    by_parked (InPool v s last is spent free eq) = by_pool v s last is (spent-some _ past _ (spending past h) s spent) free eq

-- sends

abbrev sent_to : Declarations → ℕ → Bool → Place
sent_to k q true = entry_place k q
sent_to k q false = Place.Delayed (record { 0 = q })

abbrev queue_in : What → ℕ
queue_in (What.Send f q t st) = q.0
queue_in w = 0

abbrev ticket_in : What → Option ℕ
ticket_in (What.Send f q t st) = t
ticket_in w = None

pub sits-send : (k : Declarations) (l : Limits) (past : Past) (d : ℕ) (f : Handle) (q : QueueId) (t : Option ℕ) (st : Option Stamp) → AllAllowed k l past → SendMoment k past d f.0 q.0 t st → AllSit k past
    → AllSit k (entry_by d (What.Send f q t st) ∷ past)
sits-send k l past d f q t st all m older h p parked = by_parked parked
  where
    w : What
    w = What.Send f q t st

    now : Past
    now = entry_by d w ∷ past

    hand : InHand k past f.0
    hand = in-hand k past d f.0 m.rule older

    to : Place
    to = sent_to k q.0 (enters past (ticket_of_send past d t))

    spots : (i : ℕ) → spot (pool_steps k now) i ≡ (if index_of f.0 == i then to else spot (pool_steps k past) i)
    spots i = by_enters (enters past (ticket_of_send past d t)) (is_output (kind_of k q.0)) refl (index_of f.0 == i) refl
      where
        rec : Sent
        rec = record { queue = q.0; core = d; handle = f.0; stamp = st }

        by_enters : (b o : Bool) → is_output (kind_of k q.0) ≡ o → (v : Bool) → (index_of f.0 == i) ≡ v
            → spot (moved (out_moves k (if b then rec ∷ [] else [])) (Spent d f.0 (if b then Spend.Sent q else Spend.Delayed q) (length past) ∷ pool_steps k past)) i
            ≡ (if index_of f.0 == i then sent_to k q.0 b else spot (pool_steps k past) i)
        by_enters false o is v own = refl
        by_enters true true is true own = rw (is, own) refl
        by_enters true true is false own = rw (is, own) refl
        by_enters true false is true own = rw (is, own) refl
        by_enters true false is false own = rw (is, own) refl

    given : SpendSits k past f.0 to h p → Sits k now h p
    given s = record { last = s.last; spot = spots (index_of h) ∙ s.spot }

    other : Parked k past h p → ((c : ℕ) → p ≡ Place.Held (record { 0 = c }) → ⊥) → Sits k now h p
    other r ne = given (spend-aside k past f.0 to h p hand (older h p r) ne)

    spent_here : f.0 ≡ h → to ≡ p → Sits k now h p
    spent_here same whole = given (subst (SpendSits k past f.0 to h) whole (spend-now k past f.0 to h hand same))

    -- what entered
    IsThis : Sent → Type 0
    IsThis s = (s.handle ≡ f.0) × (s.queue ≡ q.0) × (enters past (ticket_of_send past d t) ≡ true)

    these : AllSent IsThis (send_entering past d w)
    these = by_enters (enters past (ticket_of_send past d t)) refl
      where
        by_enters : (b : Bool) → enters past (ticket_of_send past d t) ≡ b → AllSent IsThis (if b then record { queue = q.0; core = d; handle = f.0; stamp = st } ∷ [] else [])
        by_enters false is = tt
        by_enters true is = ((refl, refl, is), tt)

    in_list : (r c : ℕ) → is_output (kind_of k r) ≡ false → p ≡ Place.Waiting (record { 0 = r }) → InEither h (waiting k past r c) (came k past r c (send_entering past d w)) → Sits k now h p
    in_list r c plain eq (InFirst is) = other (InQueue r c plain is eq) (λ c z. absurd (cc (eq, z)))
    in_list r c plain eq (InSecond is) =
        let s = came-sent k past IsThis (send_entering past d w) r c h these is in
        let queue : q.0 ≡ r = sym s.holds.1 ∙ for-queue k r c s.sent.queue s.sent.core s.list in
        let off : is_output (kind_of k q.0) ≡ false = ap (λ (i : ℕ). is_output (kind_of k i)) queue ∙ plain in
        let whole : to ≡ p = ap (sent_to k q.0) s.holds.2 ∙ (rw off (ap (λ (i : ℕ). Place.Waiting (record { 0 = i })) queue ∙ sym eq)) in
        spent_here (sym s.holds.0 ∙ s.handle) whole

    by_order : (s : Spending) (g : Handle) (r : QueueId) (u : Option ℕ) (su : Option Stamp) → SpentBy past (entry_by d w) (has (f.0 ∷ []) h) (spending past h) s → s.what ≡ What.Send g r u su
        → enters now (ticket_of_send s.before s.core u) ≡ false → p ≡ Place.Delayed r → Sits k now h p
    by_order s g r u su (SpentBefore is) what off eq = other (InOrder s g r u su is what (not-before past d w _ off) eq) (λ c z. absurd (cc (eq, z)))
    by_order s g r u su (SpentNow b is) what off eq =
        let e : w ≡ What.Send g r u su = sym (ap (λ (v : Spending). v.what) is) ∙ what in
        let same : f.0 ≡ h = named (compared f.0 h) b in
        let ticket : ticket_of_send s.before s.core u ≡ ticket_of_send past d t =
        ap (λ (v : Spending). ticket_of_send v.before v.core u) is ∙ ap (ticket_of_send past d) (sym (ap ticket_in e)) in
        let held : enters past (ticket_of_send past d t) ≡ false = not-before past d w _ (sym (ap (enters now) ticket) ∙ off) in
        let whole : to ≡ p = ap (sent_to k q.0) held ∙ (ap (λ (i : ℕ). Place.Delayed (record { 0 = i })) (ap queue_in e) ∙ sym eq) in
        spent_here same whole
      where
        named : Compared f.0 h → has (f.0 ∷ []) h ≡ true → f.0 ≡ h
        named (Same t e) is = e
        named (Other t ne) is = absurd (cc (rw t at is))

    entered : f.0 ≡ h → p ≡ Place.Free → is_output (kind_of k q.0) ≡ true → Enters k past (entry_by d w) h q.0 → Sits k now h p
    entered same eq out (EnteredBefore t) =
        let let_in = entered-let k l past h q.0 all t in
        let none : times_allowed past (spending past h) ≡ 0 = ap (times_allowed past) (ap (spending past) (sym same) ∙ (usable past d f.0 m.rule).unspent) in
        absurd (omega (arith, let_in, none))
    entered same eq out (CameNow c t) =
        let s = came-sent k past IsThis (send_entering past d w) q.0 c h these t in
        spent_here same (ap (sent_to k q.0) s.holds.2 ∙ (rw out (sym eq)))

    came_out : (s : Spending) → spending past h ≡ Some s → (r c : ℕ) → has_item (came k past r c (send_entering past d w)) h ≡ true → ⊥
    came_out s is r c t =
        let v = came-sent k past IsThis (send_entering past d w) r c h these t in
        let none : spending past h ≡ None = ap (spending past) (sym (sym v.holds.0 ∙ v.handle)) ∙ (usable past d f.0 m.rule).unspent in
        cc (none, is)

    by_pool : (v : Minting) (s : Spending) → last_handle past (index_of h) ≡ Some h → minting past h ≡ Some v → SpentBy past (entry_by d w) (has (f.0 ∷ []) h) (spending past h) s
        → free_after k now h s.what ≡ true → p ≡ Place.Free → Sits k now h p
    by_pool v s last is (SpentBefore t) free eq = by_free (free-now k past (entry_by d w) h s.what (λ n. refl) (λ g a. refl) free)
      where
        by_free : FreeNow k past (entry_by d w) h s.what → Sits k now h p
        by_free (FreeBefore u) = other (InPool v s last is t u eq) (λ c z. absurd (cc (eq, z)))
        by_free (CameOut r c out u) = absurd (came_out s t r c u)
    by_pool v s last is (SpentNow b t) free eq =
        let on : free_after k now h w ≡ true = subst (λ (x : Spending). free_after k now h x.what ≡ true) t free in
        let both = and-true (has_entered k now h q.0) (is_output (kind_of k q.0)) on in
        entered (one-named f.0 h b) eq both.1 (enters-by k past (entry_by d w) h q.0 both.0)

    by_parked : Parked k now h p → Sits k now h p
    by_parked (InContext v is un eq) = given (spend-context k past f.0 to h p v d w hand older is un eq)
    by_parked (InQueue r c plain is eq) =
        in_list r c plain eq (in-either h (waiting k past r c) (came k past r c (send_entering past d w)) (subst (λ xs. has_item xs h ≡ true) (waiting-now k l past d w r c all m) is))
    by_parked (InTaken c is eq) = other (InTaken c (subst (λ xs. has_item xs h ≡ true) (if-same (d == c) (taken k past c)) is) eq) (λ c z. absurd (cc (eq, z)))
    by_parked (InOrder s g r u su is what off eq) = by_order s g r u su (spent-some _ past _ (spending past h) s is) what off eq
    by_parked (InOperation n o is un there eq) = other (InOperation n o is un there eq) (λ c z. absurd (cc (eq, z)))
    by_parked (InGroup g on there eq) = other (InGroup g on there eq) (λ c z. absurd (cc (eq, z)))
    by_parked (InObject x there eq) = other (InObject x there eq) (λ c z. absurd (cc (eq, z)))
    by_parked (InPool v s last is spent free eq) = by_pool v s last is (spent-some _ past _ (spending past h) s spent) free eq
