-- Of a queue that is not atomic, and with a burst of 1 of any queue, an event is taken only while its start is due.
use Rattle.std.proofs.Common.{◌≡◌, ◌≢◌, ◌⊎◌, inl, inr, ℕ, suc, ◌-◌, ◌<◌, ◌==◌, Bool, true, false, List, [], ◌∷◌, length, take, drop, Option, Some, None, refl, sym, ◌∙◌, subst, ap, if◌then◌else◌, arith}
use Rattle.std.specs.Prelude.{nat_lt, min}
use Rattle.std.proofs.lemmas.Bool.{ltb-true}
use Rattle.em_log.specs.declared.declarations.Declarations.{Declarations}
use Rattle.em_log.specs.declared.entry.Entry.{Entry}
use Rattle.em_log.specs.declared.entry.What.{What}
use Rattle.em_log.specs.declared.ids.QueueId.{QueueId}
use Rattle.em_log.specs.declared.ids.Limits.{Limits}
use Rattle.em_log.specs.History.{Past, entry_by, entries_by}
use Rattle.em_log.specs.Declarations.{kind_of, is_atomic}
use Rattle.em_log.specs.Contexts.{take_queue, take_queue_after}
use Rattle.em_log.specs.Arrivals.{Item}
use Rattle.em_log.specs.Places.{waiting, taken, taken_after, promised}
use Rattle.em_log.specs.Eligible.{ready, eligible, is_best, is_choice, take_size}
use Rattle.em_log.specs.Tails.{start_of, first_start, tail}
use Rattle.em_log.specs.Lawful.{Allowed, AllAllowed, IsNext, due, due_after}
use Rattle.em_log.specs.Laws.{HasTaken}
use Rattle.em_moments.proofs.Asked.{and-true}
use Rattle.em_moments.proofs.Choices.{IsReady}
use Rattle.em_moments.proofs.Follows.{Follows, FirstStart, Outs, NoteLost, AcksStart, AcksStop, GlobalStarts, GlobalStops, ChangeDone, StartDone, StartFailed, StopDone, Notifies, AllDue}
use Rattle.em_moments.proofs.Inversion.{due-follows}
use Rattle.em_moments.proofs.Moments.{Moment, allowed-moment}
use Rattle.em_laws.proofs.Cores.{Compared, Same, Other, compared, if-own, some-inj, none-some}
use Rattle.em_laws.proofs.Served.{drop-some, cons-some}

follows-no_take : (k : Declarations) (past : Past) (c : ℕ) (w : What) (q : QueueId) (n : ℕ) (t : Option ℕ) → Follows k past c w → w ≡ What.Take q n t → ⊥
follows-no_take k past c w q n t (FirstStart _ _ _ _ _ _ _ _ _ _ e) is = absurd (cc (e, is))
follows-no_take k past c w q n t (Outs _ _ _ _ e) is = absurd (cc (e, is))
follows-no_take k past c w q n t (NoteLost _ e) is = absurd (cc (e, is))
follows-no_take k past c w q n t (AcksStart _ _ _ _ _ _ e) is = absurd (cc (e, is))
follows-no_take k past c w q n t (AcksStop _ _ _ _ _ _ e) is = absurd (cc (e, is))
follows-no_take k past c w q n t (GlobalStarts _ _ _ _ _ _ e) is = absurd (cc (e, is))
follows-no_take k past c w q n t (GlobalStops _ _ _ _ _ _ e) is = absurd (cc (e, is))
follows-no_take k past c w q n t (ChangeDone _ _ _ _ _ e) is = absurd (cc (e, is))
follows-no_take k past c w q n t (StartDone _ _ _ _ _ _ _ e) is = absurd (cc (e, is))
follows-no_take k past c w q n t (StartFailed _ _ _ _ _ _ e) is = absurd (cc (e, is))
follows-no_take k past c w q n t (StopDone _ _ _ _ _ _ e) is = absurd (cc (e, is))
follows-no_take k past c w q n t (Notifies _ _ _ e) is = absurd (cc (e, is))

take-first : (k : Declarations) (l : Limits) (past : Past) (e : Entry) (q : QueueId) (n : ℕ) (t : Option ℕ) (ds : List Entry) → AllDue k past ds → IsNext k l past ds e
    → e.what ≡ What.Take q n t → ds ≡ []
take-first k l past e q n t [] follow next is = refl
take-first k l past e q n t (d ∷ ds) follow next is = absurd (follows-no_take k past d.core.0 d.what q n t follow.0 (ap (λ (v : Entry). v.what) (sym next) ∙ is))

-- a take comes where nothing is due
pub take-begins : (k : Declarations) (l : Limits) (past : Past) (e : Entry) (q : QueueId) (n : ℕ) (t : Option ℕ) → AllAllowed k l past → Allowed k l past e
    → e.what ≡ What.Take q n t → due k past ≡ []
take-begins k l past e q n t all allowed is = take-first k l past e q n t (due k past) (due-follows k l past all) allowed.next is

-- what is taken of such a queue, and what is due then
pub record OneTaken (k : Declarations) (past : Past) (d q : ℕ) : Type 0 where
  pub item : Item
  pub due : due k past ≡ entry_by d (start_of past q item) ∷ []
  pub taken : taken k past d ≡ item ∷ []

-- a take of this queue takes one event
abbrev pub TakesOne : Declarations → Limits → ℕ → Type 0
TakesOne k l q = (is_atomic (kind_of k q) ≡ false) ⊎ (l.burst ≡ 1)

abbrev pub Single : Declarations → Limits → Past → Type 0
Single k l past = (d q : ℕ) → HasTaken k past d q → TakesOne k l q → OneTaken k past d q

size-one : (k : Declarations) (l : Limits) (past : Past) (c q : ℕ) → TakesOne k l q → is_choice k l past c q ≡ true → IsReady k past c q → take_size k l past c q ≡ 1
size-one k l past c q (inl plain) choice moment = rw plain refl
size-one k l past c q (inr one) choice moment = by_kind (is_atomic (kind_of k q))
  where
    room : promised k past < l.receives
    room =
        let may = and-true (eligible k l past c q) (is_best k l past c q) choice in
        ltb-true (promised k past) l.receives (and-true (ready k past c q) (nat_lt (promised k past) l.receives) may.0).1

    some : length (waiting k past q c) ≡ suc (length moment.waits.1.0)
    some = ap length moment.waits.1.1

    by_kind : (b : Bool) → (if b then min l.burst (min (length (waiting k past q c)) (l.receives - promised k past)) else 1) ≡ 1
    by_kind true = omega (arith, one, room, some)
    by_kind false = refl

next-is : (k : Declarations) (l : Limits) (past : Past) (e d : Entry) (ds : List Entry) → IsNext k l past ds e → ds ≡ d ∷ [] → e ≡ d
next-is k l past e d [] next is = absurd cc
next-is k l past e d (x ∷ xs) next is = let same : x ≡ d = cc in next ∙ same

-- while one is taken the next entry is its start
pub one-next : (k : Declarations) (l : Limits) (past : Past) (e : Entry) (d q : ℕ) (o : OneTaken k past d q) → Allowed k l past e → e ≡ entry_by d (start_of past q o.item)
one-next k l past e d q o allowed = next-is k l past e _ (due k past) allowed.next o.due

taken-one : (n : ℕ) (xs : List Item) (x : Item) (ys : List Item) → n ≡ 1 → xs ≡ x ∷ ys → take n xs ≡ x ∷ []
taken-one n xs x ys one is = rw (one, is) refl

own-single : (k : Declarations) (l : Limits) (past : Past) (c q : ℕ) (w : What) → AllAllowed k l past → Allowed k l past (entry_by c w) → Moment k l past c w → Single k l past
    → taken_after k past c w (taken k past c) ≢ [] → take_queue_after w (take_queue past c) ≡ Some q → TakesOne k l q → OneTaken k (entry_by c w ∷ past) c q
own-single k l past c q (What.Take r n t) all allowed m single some queue plain =
    let same : r.0 ≡ q = some-inj _ _ queue in
    let one : n ≡ 1 = m.size ∙ size-one k l past c r.0 (subst (λ (i : ℕ). TakesOne k l i) (sym same) plain) m.choice m.ready in
    let w = m.ready.waits in
    let taken_now : taken k (entry_by c (What.Take r n t) ∷ past) c ≡ w.0 ∷ [] = if-own c _ _ ∙ taken-one n _ w.0 w.1.0 one w.1.1 in
    let none : due k past ≡ [] = take-begins k l past (entry_by c (What.Take r n t)) r n t all allowed refl in
    record {
      item = w.0;
      due = ap (λ ds. due_after ds (tail k past (entry_by c (What.Take r n t)))) none
          ∙ ap (λ xs. entries_by c (first_start (entry_by c (What.Take r n t) ∷ past) r.0 xs)) taken_now
          ∙ ap (λ (i : ℕ). entry_by c (start_of (entry_by c (What.Take r n t) ∷ past) i w.0) ∷ []) same;
      taken = taken_now;
    }
own-single k l past c q (What.Start r e s) all allowed m single some queue plain =
    let o = single c q (drop-some _ some, queue) plain in absurd (some (ap (λ xs. drop 1 xs) o.taken))
own-single k l past c q (What.Untake r n) all allowed m single some queue plain = absurd (some refl)
own-single k l past c q (What.EndAtomic rest cells) all allowed m single some queue plain = absurd (some refl)
own-single k l past c q w all allowed m single some queue plain =
    let o = single c q (some, queue) plain in
    let is : w ≡ start_of past q o.item = ap (λ (v : Entry). v.what) (one-next k l past (entry_by c w) c q o allowed) in
    absurd cc

next-single : (k : Declarations) (l : Limits) (past : Past) (d : ℕ) (w : What) → AllAllowed k l past → Allowed k l past (entry_by d w) → Moment k l past d w → Single k l past
    → Single k l (entry_by d w ∷ past)
next-single k l past d w all allowed m single c q h plain = by_test (compared d c)
  where
    by_test : Compared d c → OneTaken k (entry_by d w ∷ past) c q
    by_test (Same t e) =
        subst (λ n. OneTaken k (entry_by n w ∷ past) c q) (sym e)
        (own-single k l past c q w all (subst (λ n. Allowed k l past (entry_by n w)) e allowed) (subst (λ n. Moment k l past n w) e m) single (rw t at h.0) (rw t at h.1) plain)
    by_test (Other f e) =
        let o = single c q (rw f at h.0, rw f at h.1) plain in
        absurd (e (ap (λ (v : Entry). v.core.0) (one-next k l past (entry_by d w) c q o allowed)))

pub single : (k : Declarations) (l : Limits) (past : Past) → AllAllowed k l past → Single k l past
single k l [] all = λ d q h one. absurd (h.0 refl)
single k l (e ∷ past) all = next-single k l past e.core.0 e.what all.1 all.0 (allowed-moment k l past e all.1 all.0) (single k l past all.1)

-- who has nothing of a last take has nothing taken

untaken-by : (k : Declarations) (past : Past) (c : ℕ) (w : What) → (take_queue past c ≡ None → taken k past c ≡ []) → take_queue_after w (take_queue past c) ≡ None → taken_after k past c w (taken k past c) ≡ []
untaken-by k past c (What.Take q n t) before none = absurd (none-some q.0 (sym none))
untaken-by k past c (What.Start q e s) before none = ap (drop 1) (before none)
untaken-by k past c (What.Untake q n) before none = refl
untaken-by k past c (What.EndAtomic rest cells) before none = refl
untaken-by k past c w before none = before none

untaken : (k : Declarations) (past : Past) (c : ℕ) → take_queue past c ≡ None → taken k past c ≡ []
untaken k [] c none = refl
untaken k (e ∷ past) c none = by_core (e.core.0 == c) (untaken k past c) none
  where
    by_core : (b : Bool) → (take_queue past c ≡ None → taken k past c ≡ []) → (if b then take_queue_after e.what (take_queue past c) else take_queue past c) ≡ None
        → (if b then taken_after k past c e.what (taken k past c) else taken k past c) ≡ []
    by_core true before none = untaken-by k past c e.what before none
    by_core false before none = before none

-- with a burst of 1, where nothing is due, nothing is taken
pub nothing-taken : (k : Declarations) (l : Limits) (past : Past) → l.burst ≡ 1 → AllAllowed k l past → due k past ≡ [] → (c : ℕ) → taken k past c ≡ []
nothing-taken k l past one all none c = by_taken (taken k past c) refl
  where
    by_queue : (o : Option ℕ) → take_queue past c ≡ o → (x : Item) (xs : List Item) → taken k past c ≡ x ∷ xs → taken k past c ≡ []
    by_queue None queue x xs is = untaken k past c queue
    by_queue (Some q) queue x xs is =
        let o = single k l past all c q (cons-some x _ xs is, queue) (inr one) in absurd (cc (sym o.due ∙ none))

    by_taken : (xs : List Item) → taken k past c ≡ xs → taken k past c ≡ []
    by_taken [] is = is
    by_taken (x ∷ xs) is = by_queue (take_queue past c) refl x xs is
