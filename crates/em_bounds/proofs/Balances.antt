-- What entries owe, and what comes due for it: contexts of operations, and takes.
use Rattle.std.proofs.Common.{◌≡◌, ◌≢◌, ℕ, suc, ◌+◌, ◌-◌, ◌≤◌, ◌<◌, Bool, true, false, List, [], ◌∷◌, length, take, Option, Some, refl, sym, ◌∙◌, subst, ap, if◌then◌else◌, min, arith}
use Rattle.std.specs.List.{count_by}
use Rattle.std.proofs.lemmas.Bool.{ltb-true}
use Rattle.std.proofs.lemmas.List.{length-take}
use Rattle.em_log.specs.declared.declarations.Declarations.{Declarations}
use Rattle.em_log.specs.declared.entry.Body.{Body}
use Rattle.em_log.specs.declared.entry.Entry.{Entry}
use Rattle.em_log.specs.declared.entry.What.{What}
use Rattle.em_log.specs.declared.ids.Limits.{Limits}
use Rattle.em_log.specs.History.{Past, entry_by, entries_by}
use Rattle.em_log.specs.Declarations.{below, kind_of, is_atomic}
use Rattle.em_log.specs.Contexts.{context, context_after}
use Rattle.em_log.specs.Arrivals.{Item}
use Rattle.em_log.specs.Places.{waiting, taken, promised}
use Rattle.em_log.specs.Eligible.{ready, eligible, is_best, take_size}
use Rattle.em_log.specs.Tails.{first_start, has_failed, global_start_tail, end_tail, tail_of, tail}
use Rattle.em_log.specs.Lawful.{Allowed, AllAllowed, IsNext, Begins, due, due_after}
use Rattle.em_moments.proofs.Asked.{and-true}
use Rattle.em_moments.proofs.Follows.{AllDue, Follows, FirstStart, Outs, NoteLost, AcksStart, AcksStop, GlobalStarts, GlobalStops, ChangeDone, StartDone, StartFailed, StopDone, Notifies}
use Rattle.em_moments.proofs.Inversion.{due-follows}
use Rattle.em_moments.proofs.Moments.{Moment, allowed-moment}
use Rattle.em_laws.proofs.Cores.{Compared, Same, Other, compared, if-own}
use Rattle.em_laws.proofs.Tickets.{one_if}
use Rattle.em_bounds.proofs.Sums.{count-one}
use Rattle.em_bounds.proofs.Payments.{total, takes_made, entered-closed}

-- the sum over what is due
abbrev pub due_total : (What → ℕ) → List Entry → ℕ
due_total g [] = 0
due_total g (e ∷ es) = g e.what + due_total g es

abbrev tail_total : (What → ℕ) → List What → ℕ
tail_total g [] = 0
tail_total g (w ∷ ws) = g w + tail_total g ws

tail-total : (g : What → ℕ) (c : ℕ) (ws : List What) → due_total g (entries_by c ws) ≡ tail_total g ws
tail-total g c [] = refl
tail-total g c (w ∷ ws) = ap (λ n. g w + n) (tail-total g c ws)

-- an entry that begins a block raises `owes` by no more than it adds to `held` and than it and its tail answer; what follows raises
-- it by no more than it adds to `held`
record Balance (k : Declarations) (l : Limits) (owes held : Past → ℕ) (answers : What → ℕ) : Type 0 where
  first : owes [] ≤ held []
  begins : (past : Past) (c : ℕ) (w : What) → AllAllowed k l past → Allowed k l past (entry_by c w) → Begins k l past c w
      → owes (entry_by c w ∷ past) + held past ≤ owes past + held (entry_by c w ∷ past) + answers w + tail_total answers (tail_of k past (entry_by c w ∷ past) c w)
  follows : (past : Past) (c : ℕ) (w : What) → AllAllowed k l past → Allowed k l past (entry_by c w) → Follows k past c w
      → owes (entry_by c w ∷ past) + held past ≤ owes past + held (entry_by c w ∷ past)

balanced : (k : Declarations) (l : Limits) (owes held : Past → ℕ) (answers : What → ℕ) → Balance k l owes held answers → (past : Past) → AllAllowed k l past
    → owes past ≤ held past + total answers past + due_total answers (due k past)
balanced k l owes held answers b [] all = let first = b.first in omega (arith, first)
balanced k l owes held answers b (e ∷ past) all =
    by_due (due k past) (due-follows k l past all.1) all.0.next (balanced k l owes held answers b past all.1)
  where
    by_due : (ds : List Entry) → AllDue k past ds → IsNext k l past ds e → owes past ≤ held past + total answers past + due_total answers ds
        → owes (e ∷ past) ≤ held (e ∷ past) + (answers e.what + total answers past) + due_total answers (due_after ds (tail k past e))
    by_due [] follow next older =
        let step = b.begins past e.core.0 e.what all.1 all.0 next in
        let tails = tail-total answers e.core.0 (tail_of k past (e ∷ past) e.core.0 e.what) in
        omega (arith, older, step, tails)
    by_due (d ∷ ds) follow next older =
        let step = b.follows past e.core.0 e.what all.1 all.0 (subst (λ (x : Entry). Follows k past x.core.0 x.what) (sym next) follow.0) in
        let same : answers d.what ≡ answers e.what = ap (λ (x : Entry). answers x.what) (sym next) in
        omega (arith, older, step, same)

-- contexts of operations

abbrev pub is_step_body : Body → Bool
is_step_body Body.Boot = false
is_step_body b = true

abbrev pub is_step : Option What → Bool
is_step (Some (What.Enter b)) = is_step_body b
is_step o = false

abbrev pub steps_entered : What → ℕ
steps_entered (What.Enter b) = one_if (is_step_body b)
steps_entered w = 0

abbrev pub steps_open : Declarations → Past → ℕ
steps_open k past = count_by (λ c. is_step (context past c)) (below k.cores)

-- the acknowledgement of a core's part, and the end of a global step
abbrev pub steps_answered : What → ℕ
steps_answered (What.Ack op) = 1
steps_answered (What.GlobalDone op ok) = 1
steps_answered w = 0

abbrev ended_step : What → Option What → ℕ
ended_step (What.End lost cells) o = one_if (is_step o)
ended_step w o = 0

steps-step : (k : Declarations) (past : Past) (d : ℕ) (w : What) → d < k.cores
    → steps_open k (entry_by d w ∷ past) + one_if (is_step (context past d)) ≡ steps_open k past + one_if (is_step (context_after w (context past d)))
steps-step k past d w lt =
    let own : context (entry_by d w ∷ past) d ≡ context_after w (context past d) = if-own d _ _ in
    count-one (λ c. is_step (context past c)) (λ c. is_step (context (entry_by d w ∷ past) c)) d k.cores lt (λ c ne. by_test c (compared d c) ne)
    ∙ ap (λ o. steps_open k past + one_if (is_step o)) own
  where
    by_test : (c : ℕ) → Compared d c → c ≢ d → is_step (context (entry_by d w ∷ past) c) ≡ is_step (context past c)
    by_test c (Same t e) ne = absurd (ne (sym e))
    by_test c (Other f e) ne = rw f refl

-- a context of an operation is entered on a core that has none open, and is open until its end
step-held : (k : Declarations) (l : Limits) (past : Past) (d : ℕ) (w : What) → d < k.cores → Moment k l past d w
    → steps_entered w + steps_open k past ≤ steps_open k (entry_by d w ∷ past) + ended_step w (context past d)
step-held k l past d (What.Enter b) lt m =
    let step = steps-step k past d (What.Enter b) lt in
    let closed : one_if (is_step (context past d)) ≡ 0 =
    ap (λ o. one_if (is_step o)) (entered-closed k past d (What.Enter b) (λ c is. subst (λ v. Moment k l past d v) is m) b refl) in
    omega (arith, step, closed)
step-held k l past d (What.Start q e s) lt m =
    let step = steps-step k past d (What.Start q e s) lt in
    let closed : one_if (is_step (context past d)) ≡ 0 = ap (λ o. one_if (is_step o)) m.closed in
    omega (arith, step, closed)
step-held k l past d (What.End lost cells) lt m = let step = steps-step k past d (What.End lost cells) lt in omega (arith, step)
step-held k l past d w lt m = let step = steps-step k past d w lt in omega (arith, step)

-- its end is answered
end-answered : (k : Declarations) (past now : Past) (d : ℕ) (o : Option What) → one_if (is_step o) ≤ tail_total steps_answered (end_tail k past now d o)
end-answered k past now d (Some (What.Enter Body.Boot)) = omega arith
end-answered k past now d (Some (What.Enter (Body.LocalStart op))) = omega arith
end-answered k past now d (Some (What.Enter (Body.LocalStop op))) = omega arith
end-answered k past now d (Some (What.Enter (Body.GlobalStart op))) = by_failed (has_failed past d)
  where
    by_failed : (b : Bool) → 1 ≤ tail_total steps_answered (global_start_tail op b)
    by_failed true = omega arith
    by_failed false = omega arith
end-answered k past now d (Some (What.Enter (Body.GlobalStop op))) = omega arith
end-answered k past now d o = omega arith

step-answered : (k : Declarations) (past now : Past) (d : ℕ) (w : What) → ended_step w (context past d) ≤ tail_total steps_answered (tail_of k past now d w)
step-answered k past now d (What.End lost cells) = end-answered k past now d (context past d)
step-answered k past now d w = omega arith

-- what follows is no end
no-end : (k : Declarations) (past : Past) (d : ℕ) (w : What) (o : Option What) → Follows k past d w → ended_step w o ≡ 0
no-end k past d w o (FirstStart before q n t x xs was closed queue taken e) = rw e refl
no-end k past d w o (Outs q kind words is e) = rw e refl
no-end k past d w o (NoteLost n e) = rw e refl
no-end k past d w o (AcksStart before lost cells op was is e) = rw e refl
no-end k past d w o (AcksStop before lost cells op was is e) = rw e refl
no-end k past d w o (GlobalStarts before lost cells op was is e) = rw e refl
no-end k past d w o (GlobalStops before lost cells op was is e) = rw e refl
no-end k past d w o (ChangeDone before op was owed all e) = rw e refl
no-end k past d w o (StartDone before lost cells op was is all e) = rw e refl
no-end k past d w o (StartFailed before lost cells op was is e) = rw e refl
no-end k past d w o (StopDone before lost cells op was is e) = rw e refl
no-end k past d w o (Notifies s now zero e) = rw e refl

pub steps-balanced : (k : Declarations) (l : Limits) (past : Past) → AllAllowed k l past
    → total steps_entered past ≤ steps_open k past + total steps_answered past + due_total steps_answered (due k past)
steps-balanced k l past all = balanced k l (total steps_entered) (steps_open k) steps_answered
    (record {
      first = omega arith;
      begins = λ past c w all allowed begins.
          let held = step-held k l past c w allowed.core (allowed-moment k l past (entry_by c w) all allowed) in
          let answered = step-answered k past (entry_by c w ∷ past) c w in
          omega (arith, held, answered);
      follows = λ past c w all allowed follows.
          let held = step-held k l past c w allowed.core (allowed-moment k l past (entry_by c w) all allowed) in
          let none = no-end k past c w (context past c) follows in
          omega (arith, held, none);
    }) past all

-- takes

abbrev pub receives_started : What → ℕ
receives_started (What.Start q e s) = 1
receives_started w = 0

some-taken : (k : Declarations) (l : Limits) (past : Past) (d q : ℕ) → 1 ≤ l.burst → promised k past < l.receives → 1 ≤ length (waiting k past q d) → 1 ≤ take_size k l past d q
some-taken k l past d q burst some waits = by_kind (is_atomic (kind_of k q))
  where
    by_kind : (b : Bool) → 1 ≤ (if b then min l.burst (min (length (waiting k past q d)) (l.receives - promised k past)) else 1)
    by_kind true = omega (arith, burst, some, waits)
    by_kind false = omega arith

first-started : (past : Past) (q : ℕ) (xs : List Item) → 1 ≤ length xs → 1 ≤ tail_total receives_started (first_start past q xs)
first-started past q [] some = absurd (omega arith)
first-started past q (x ∷ xs) some = omega arith

take-starts : (k : Declarations) (l : Limits) (past : Past) (d : ℕ) (w : What) → 1 ≤ l.burst → Moment k l past d w
    → takes_made w ≤ receives_started w + tail_total receives_started (tail_of k past (entry_by d w ∷ past) d w)
take-starts k l past d (What.Take q n t) burst m =
    let may = and-true (ready k past d q.0) _ (and-true (eligible k l past d q.0) (is_best k l past d q.0) m.choice).0 in
    let some : promised k past < l.receives = ltb-true (promised k past) l.receives may.1 in
    let waits : length (waiting k past q.0 d) ≡ suc (length m.ready.waits.1.0) = ap length m.ready.waits.1.1 in
    let many = some-taken k l past d q.0 burst some (omega (arith, waits)) in
    let size = m.size in
    let own : taken k (entry_by d (What.Take q n t) ∷ past) d ≡ take n (waiting k past q.0 d) = if-own d _ _ in
    let long = length-take n (waiting k past q.0 d) in
    let here : 1 ≤ length (taken k (entry_by d (What.Take q n t) ∷ past) d) = rw own (omega (arith, many, size, long, waits)) in
    let first = first-started (entry_by d (What.Take q n t) ∷ past) q.0 (taken k (entry_by d (What.Take q n t) ∷ past) d) here in
    omega (arith, first)
take-starts k l past d w burst m = omega arith

no-take : (k : Declarations) (past : Past) (d : ℕ) (w : What) → Follows k past d w → takes_made w ≡ 0
no-take k past d w (FirstStart before q n t x xs was closed queue taken e) = rw e refl
no-take k past d w (Outs q kind words is e) = rw e refl
no-take k past d w (NoteLost n e) = rw e refl
no-take k past d w (AcksStart before lost cells op was is e) = rw e refl
no-take k past d w (AcksStop before lost cells op was is e) = rw e refl
no-take k past d w (GlobalStarts before lost cells op was is e) = rw e refl
no-take k past d w (GlobalStops before lost cells op was is e) = rw e refl
no-take k past d w (ChangeDone before op was owed all e) = rw e refl
no-take k past d w (StartDone before lost cells op was is all e) = rw e refl
no-take k past d w (StartFailed before lost cells op was is e) = rw e refl
no-take k past d w (StopDone before lost cells op was is e) = rw e refl
no-take k past d w (Notifies s now zero e) = rw e refl

-- each take starts a receive at once
pub takes-balanced : (k : Declarations) (l : Limits) (past : Past) → 1 ≤ l.burst → AllAllowed k l past
    → total takes_made past ≤ total receives_started past + due_total receives_started (due k past)
takes-balanced k l past burst all =
    let b = balanced k l (total takes_made) (λ h. 0) receives_started
    (record {
      first = omega arith;
      begins = λ past c w all allowed begins. let starts = take-starts k l past c w burst (allowed-moment k l past (entry_by c w) all allowed) in omega (arith, starts);
      follows = λ past c w all allowed follows. let none = no-take k past c w follows in omega (arith, none);
    }) past all in
    omega (arith, b)
