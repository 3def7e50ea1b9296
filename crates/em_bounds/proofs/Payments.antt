-- Ends, givings back, ends of operations and notifications are as many as what has paid for them.
use Rattle.std.proofs.Common.{◌≡◌, ◌≢◌, ℕ, ◌+◌, ◌≤◌, ◌<◌, ◌==◌, Bool, true, false, not, List, [], ◌∷◌, Some, None, refl, sym, ◌∙◌, subst, ap, is_some, if◌then◌else◌, arith}
use Rattle.std.proofs.lemmas.Bool.{ltb-true}
use Rattle.em_log.specs.declared.declarations.Declarations.{Declarations}
use Rattle.em_log.specs.declared.entry.What.{What}
use Rattle.em_log.specs.declared.ids.Limits.{Limits}
use Rattle.em_log.specs.declared.ids.OpId.{OpId}
use Rattle.em_log.specs.declared.ids.Note.{Note}
use Rattle.em_log.specs.declared.fault.Fault.{Fault}
use Rattle.std.specs.Prelude.{nat_lt, ◌||◌}
use Rattle.em_log.specs.History.{Past, entry_by}
use Rattle.em_log.specs.Declarations.{below}
use Rattle.em_log.specs.Contexts.{context, context_after}
use Rattle.em_log.specs.Operations.{operations, one_more_begun, global_done, done}
use Rattle.em_log.specs.Arrivals.{Item}
use Rattle.em_log.specs.Places.{taken, taken_after}
use Rattle.em_log.specs.Atomic.{is_empty}
use Rattle.em_log.specs.EventGroups.{applications, busy, count}
use Rattle.em_log.specs.Leads.{count_limit, count_refusal}
use Rattle.em_log.specs.Lawful.{AllAllowed}
use Rattle.em_moments.proofs.Asked.{and-true}
use Rattle.em_moments.proofs.Moments.{Moment, EnterMoment, EntersBoot, EntersStep, ApplyMoment, allowed-moment}
use Rattle.em_laws.proofs.Cores.{Compared, Same, Other, compared, if-own}
use Rattle.em_laws.proofs.Tickets.{one_if}
use Rattle.em_laws.proofs.Begun.{numbered}
use Rattle.em_laws.proofs.Steps.{contexts, global-ends, Finishing, FinishingStart, FinishingStop}
use Rattle.em_laws.proofs.Dones.{done-completes}
use Rattle.em_laws.proofs.Respects.{done-now}
use Rattle.std.specs.List.{count_by}
use Rattle.em_bounds.specs.Paid.{opened, holding}
use Rattle.em_bounds.proofs.Sums.{one_if-le, count-one, count-le, count-more, count-none}

-- the sum over the entries
abbrev pub total : (What → ℕ) → Past → ℕ
total f [] = 0
total f (e ∷ past) = f e.what + total f past

-- contexts

abbrev pub begun_contexts : What → ℕ
begun_contexts (What.Enter b) = 1
begun_contexts (What.Start q e s) = 1
begun_contexts w = 0

abbrev pub ended_contexts : What → ℕ
ended_contexts (What.End lost cells) = 1
ended_contexts w = 0

opened-step : (k : Declarations) (past : Past) (d : ℕ) (w : What) → d < k.cores
    → opened k (entry_by d w ∷ past) + one_if (is_some (context past d)) ≡ opened k past + one_if (is_some (context_after w (context past d)))
opened-step k past d w lt =
    let own : context (entry_by d w ∷ past) d ≡ context_after w (context past d) = if-own d _ _ in
    count-one (λ c. is_some (context past c)) (λ c. is_some (context (entry_by d w ∷ past) c)) d k.cores lt (λ c ne. by_test c (compared d c) ne)
    ∙ ap (λ o. opened k past + one_if (is_some o)) own
  where
    by_test : (c : ℕ) → Compared d c → c ≢ d → is_some (context (entry_by d w ∷ past) c) ≡ is_some (context past c)
    by_test c (Same t e) ne = absurd (ne (sym e))
    by_test c (Other f e) ne = rw f refl

pub entered-closed : (k : Declarations) (past : Past) (d : ℕ) (w : What) → ((b : _) → w ≡ What.Enter b → EnterMoment k past d b) → (b : _) → w ≡ What.Enter b → context past d ≡ None
entered-closed k past d w m b is = by_moment (m b is)
  where
    by_moment : EnterMoment k past d b → context past d ≡ None
    by_moment (EntersBoot none core e) = ap (λ (h : Past). context h d) none
    by_moment (EntersStep between owed owes) = between.closed

context-pays : (k : Declarations) (l : Limits) (past : Past) (d : ℕ) (w : What) → d < k.cores → Moment k l past d w
    → ended_contexts w + opened k (entry_by d w ∷ past) ≤ begun_contexts w + opened k past
context-pays k l past d (What.Enter b) lt m =
    let step = opened-step k past d (What.Enter b) lt in
    let closed : one_if (is_some (context past d)) ≡ 0 = ap (λ o. one_if (is_some o)) (entered-closed k past d (What.Enter b) (λ c is. subst (λ v. Moment k l past d v) is m) b refl) in
    omega (arith, step, closed)
context-pays k l past d (What.Start q e s) lt m =
    let step = opened-step k past d (What.Start q e s) lt in
    let closed : one_if (is_some (context past d)) ≡ 0 = ap (λ o. one_if (is_some o)) m.closed in
    omega (arith, step, closed)
context-pays k l past d (What.End lost cells) lt m =
    let step = opened-step k past d (What.End lost cells) lt in
    let was_open : one_if (is_some (context past d)) ≡ 1 = ap (λ o. one_if (is_some o)) m.open_context.context in
    omega (arith, step, was_open)
context-pays k l past d w lt m = let step = opened-step k past d w lt in omega (arith, step)

pub contexts-paid : (k : Declarations) (l : Limits) (past : Past) → AllAllowed k l past → total ended_contexts past + opened k past ≤ total begun_contexts past
contexts-paid k l [] all = let none = count-none (λ c. is_some (context [] c)) k.cores (λ c. refl) in omega (arith, none)
contexts-paid k l (e ∷ past) all =
    let older = contexts-paid k l past all.1 in
    let here = context-pays k l past e.core.0 e.what all.0.core (allowed-moment k l past e all.1 all.0) in
    omega (arith, older, here)

-- takes

abbrev pub takes_made : What → ℕ
takes_made (What.Take q n t) = 1
takes_made w = 0

abbrev pub takes_undone : What → ℕ
takes_undone (What.Untake q n) = 1
takes_undone w = 0

abbrev has_some : List Item → Bool
has_some xs = not (is_empty xs)

holding-step : (k : Declarations) (past : Past) (d : ℕ) (w : What) → d < k.cores
    → holding k (entry_by d w ∷ past) + one_if (has_some (taken k past d)) ≡ holding k past + one_if (has_some (taken_after k past d w (taken k past d)))
holding-step k past d w lt =
    let own : taken k (entry_by d w ∷ past) d ≡ taken_after k past d w (taken k past d) = if-own d _ _ in
    count-one (λ c. has_some (taken k past c)) (λ c. has_some (taken k (entry_by d w ∷ past) c)) d k.cores lt (λ c ne. by_test c (compared d c) ne)
    ∙ ap (λ xs. holding k past + one_if (has_some xs)) own
  where
    by_test : (c : ℕ) → Compared d c → c ≢ d → has_some (taken k (entry_by d w ∷ past) c) ≡ has_some (taken k past c)
    by_test c (Same t e) ne = absurd (ne (sym e))
    by_test c (Other f e) ne = rw f refl

take-pays : (k : Declarations) (l : Limits) (past : Past) (d : ℕ) (w : What) → d < k.cores → Moment k l past d w
    → takes_undone w + holding k (entry_by d w ∷ past) ≤ takes_made w + holding k past
take-pays k l past d (What.Take q n t) lt m =
    let step = holding-step k past d (What.Take q n t) lt in
    let none : one_if (has_some (taken k past d)) ≡ 0 = ap (λ xs. one_if (has_some xs)) m.ready.between.untaken in
    let one = one_if-le (has_some (taken_after k past d (What.Take q n t) (taken k past d))) in
    omega (arith, step, none, one)
take-pays k l past d (What.Start q e s) lt m =
    let step = holding-step k past d (What.Start q e s) lt in
    let some : one_if (has_some (taken k past d)) ≡ 1 = ap (λ xs. one_if (has_some xs)) m.taken in
    let one = one_if-le (has_some (taken_after k past d (What.Start q e s) (taken k past d))) in
    omega (arith, step, some, one)
take-pays k l past d (What.Untake q n) lt m =
    let step = holding-step k past d (What.Untake q n) lt in
    let some : one_if (has_some (taken k past d)) ≡ 1 = ap (λ xs. one_if (has_some xs)) m.taken in
    omega (arith, step, some)
take-pays k l past d (What.EndAtomic rest cells) lt m =
    let step = holding-step k past d (What.EndAtomic rest cells) lt in omega (arith, step)
take-pays k l past d w lt m = let step = holding-step k past d w lt in omega (arith, step)

pub takes-paid : (k : Declarations) (l : Limits) (past : Past) → AllAllowed k l past → total takes_undone past + holding k past ≤ total takes_made past
takes-paid k l [] all = let none = count-none (λ c. has_some (taken k [] c)) k.cores (λ c. refl) in omega (arith, none)
takes-paid k l (e ∷ past) all =
    let older = takes-paid k l past all.1 in
    let here = take-pays k l past e.core.0 e.what all.0.core (allowed-moment k l past e all.1 all.0) in
    omega (arith, older, here)

-- operations

abbrev pub operations_begun : What → ℕ
operations_begun (What.Begin op job notes) = 1
operations_begun w = 0

abbrev pub globals_done : What → ℕ
globals_done (What.GlobalDone op ok) = 1
globals_done w = 0

abbrev pub operations_done : What → ℕ
operations_done (What.Done op ok) = 1
operations_done w = 0

pub begun-total : (past : Past) → operations past ≡ total operations_begun past
begun-total [] = refl
begun-total (e ∷ past) = by_what e.what (begun-total past)
  where
    by_what : (w : What) → operations past ≡ total operations_begun past → one_more_begun w (operations past) ≡ operations_begun w + total operations_begun past
    by_what (What.Begin op job notes) h = omega (arith, h)
    by_what w h = omega (arith, h)

-- an operation whose end comes now had begun and not ended
record EndsNow (past : Past) (ends : ℕ → Bool) (n : ℕ) : Type 0 where
  number : n < operations past
  before : ends n ≡ false

global-now : (k : Declarations) (l : Limits) (past : Past) (d : ℕ) (op : OpId) (ok : Bool) → AllAllowed k l past → Moment k l past d (What.GlobalDone op ok)
    → EndsNow past (λ n. is_some (global_done past n)) op.0
global-now k l past d op ok all m = by_finishing (global-ends k past d op ok (contexts k l past all) m).finishing
  where
    by_finishing : Finishing k past d op.0 → EndsNow past (λ n. is_some (global_done past n)) op.0
    by_finishing (FinishingStart o x is job none core) = record { number = numbered k l past all op.0 o is; before = ap is_some none }
    by_finishing (FinishingStop o x is job none acked last) = record { number = numbered k l past all op.0 o is; before = ap is_some none }

done-here : (k : Declarations) (l : Limits) (past : Past) (d : ℕ) (op : OpId) (ok : Bool) → AllAllowed k l past → Moment k l past d (What.Done op ok)
    → EndsNow past (λ n. is_some (done past n)) op.0
done-here k l past d op ok all m =
    let q = done-now k past op.0 ok (done-completes k l past d op ok all m) in
    record { number = numbered k l past all op.0 q.started q.begun; before = ap is_some q.undone }

global-pays : (k : Declarations) (l : Limits) (past : Past) (d : ℕ) (w : What) → AllAllowed k l past → Moment k l past d w
    → total globals_done past ≤ count_by (λ n. is_some (global_done past n)) (below (operations past))
    → globals_done w + total globals_done past ≤ count_by (λ n. is_some (global_done (entry_by d w ∷ past) n)) (below (operations (entry_by d w ∷ past)))
global-pays k l past d (What.GlobalDone op ok) all m older =
    let now = global-now k l past d op ok all m in
    let step = count-one (λ n. is_some (global_done past n)) (λ n. is_some (global_done (entry_by d (What.GlobalDone op ok) ∷ past) n)) op.0 (operations past) now.number
    (λ c ne. by_test c (compared op.0 c) ne) in
    let was : one_if (is_some (global_done past op.0)) ≡ 0 = ap one_if now.before in
    let is : one_if (is_some (global_done (entry_by d (What.GlobalDone op ok) ∷ past) op.0)) ≡ 1 = ap (λ o. one_if (is_some o)) (if-own op.0 (Some ok) (global_done past op.0)) in
    omega (arith, older, step, was, is)
  where
    by_test : (c : ℕ) → Compared op.0 c → c ≢ op.0 → is_some (global_done (entry_by d (What.GlobalDone op ok) ∷ past) c) ≡ is_some (global_done past c)
    by_test c (Same t e) ne = absurd (ne (sym e))
    by_test c (Other f e) ne = rw f refl
global-pays k l past d (What.Begin op job notes) all m older =
    let more = count-more (λ n. is_some (global_done past n)) (operations past) in omega (arith, older, more)
global-pays k l past d w all m older =
    let same : total globals_done past ≤ count_by (λ n. is_some (global_done (entry_by d w ∷ past) n)) (below (operations (entry_by d w ∷ past))) = older in
    omega (arith, same)

globals-counted : (k : Declarations) (l : Limits) (past : Past) → AllAllowed k l past → total globals_done past ≤ count_by (λ n. is_some (global_done past n)) (below (operations past))
globals-counted k l [] all = omega arith
globals-counted k l (e ∷ past) all = global-pays k l past e.core.0 e.what all.1 (allowed-moment k l past e all.1 all.0) (globals-counted k l past all.1)

pub globals-paid : (k : Declarations) (l : Limits) (past : Past) → AllAllowed k l past → total globals_done past ≤ total operations_begun past
globals-paid k l past all =
    let few = globals-counted k l past all in
    let most = count-le (λ n. is_some (global_done past n)) (operations past) in
    let is = begun-total past in omega (arith, few, most, is)

done-pays : (k : Declarations) (l : Limits) (past : Past) (d : ℕ) (w : What) → AllAllowed k l past → Moment k l past d w
    → total operations_done past ≤ count_by (λ n. is_some (done past n)) (below (operations past))
    → operations_done w + total operations_done past ≤ count_by (λ n. is_some (done (entry_by d w ∷ past) n)) (below (operations (entry_by d w ∷ past)))
done-pays k l past d (What.Done op ok) all m older =
    let now = done-here k l past d op ok all m in
    let step = count-one (λ n. is_some (done past n)) (λ n. is_some (done (entry_by d (What.Done op ok) ∷ past) n)) op.0 (operations past) now.number
    (λ c ne. by_test c (compared op.0 c) ne) in
    let was : one_if (is_some (done past op.0)) ≡ 0 = ap one_if now.before in
    let is : one_if (is_some (done (entry_by d (What.Done op ok) ∷ past) op.0)) ≡ 1 = ap (λ o. one_if (is_some o)) (if-own op.0 (Some ok) (done past op.0)) in
    omega (arith, older, step, was, is)
  where
    by_test : (c : ℕ) → Compared op.0 c → c ≢ op.0 → is_some (done (entry_by d (What.Done op ok) ∷ past) c) ≡ is_some (done past c)
    by_test c (Same t e) ne = absurd (ne (sym e))
    by_test c (Other f e) ne = rw f refl
done-pays k l past d (What.Begin op job notes) all m older =
    let more = count-more (λ n. is_some (done past n)) (operations past) in omega (arith, older, more)
done-pays k l past d w all m older =
    let same : total operations_done past ≤ count_by (λ n. is_some (done (entry_by d w ∷ past) n)) (below (operations (entry_by d w ∷ past))) = older in
    omega (arith, same)

dones-counted : (k : Declarations) (l : Limits) (past : Past) → AllAllowed k l past → total operations_done past ≤ count_by (λ n. is_some (done past n)) (below (operations past))
dones-counted k l [] all = omega arith
dones-counted k l (e ∷ past) all = done-pays k l past e.core.0 e.what all.1 (allowed-moment k l past e all.1 all.0) (dones-counted k l past all.1)

pub dones-paid : (k : Declarations) (l : Limits) (past : Past) → AllAllowed k l past → total operations_done past ≤ total operations_begun past
dones-paid k l past all =
    let few = dones-counted k l past all in
    let most = count-le (λ n. is_some (done past n)) (operations past) in
    let is = begun-total past in omega (arith, few, most, is)

-- event groups

abbrev pub applies : What → ℕ
applies (What.Apply g a n notes) = 1
applies w = 0

abbrev pub notifications : What → ℕ
notifications (What.Notify g a) = 1
notifications w = 0

apply-declared : (k : Declarations) (past : Past) (c g a n : ℕ) (notes : List Note) → ApplyMoment k past c g a n notes → g < k.egroups
apply-declared k past c g a n notes m =
    let may = m.open_context.may in
    ltb-true g k.egroups (and-true _ _ (and-true _ _ (and-true _ _ (and-true _ _ may).0).1).0).0

apply-idle : (past : Past) (g n : ℕ) → count_refusal past g n ≡ None → busy past g ≡ false
apply-idle past g n ok = by_busy (busy past g) ok
  where
    by_busy : (b : Bool) → (if b then Some (Fault.GroupBusy (count past g)) else if (n == 0) || nat_lt count_limit n then Some (Fault.BadCount 0) else None) ≡ None → b ≡ false
    by_busy true h = absurd cc
    by_busy false h = refl

busy-next : (k : Declarations) (l : Limits) (past : Past) (d : ℕ) (w : What) (g : ℕ) → Moment k l past d w → (busy past g ≡ true → g < k.egroups)
    → busy (entry_by d w ∷ past) g ≡ true → g < k.egroups
busy-next k l past d (What.Apply h a n notes) g m older now = by_test (compared h.0 g)
  where
    by_test : Compared h.0 g → g < k.egroups
    by_test (Same t e) = subst (λ (i : ℕ). i < k.egroups) e (apply-declared k past d h.0 a n notes m)
    by_test (Other f e) = older (rw f at now)
busy-next k l past d (What.Notify h a) g m older now = by_test (h.0 == g) now
  where
    by_test : (b : Bool) → (if b then false else busy past g) ≡ true → g < k.egroups
    by_test true h = absurd cc
    by_test false h = older h
busy-next k l past d (What.Abort h) g m older now = by_test (h.0 == g) now
  where
    by_test : (b : Bool) → (if b then false else busy past g) ≡ true → g < k.egroups
    by_test true h = absurd cc
    by_test false h = older h
busy-next k l past d w g m older now = older now

busy-declared : (k : Declarations) (l : Limits) (past : Past) → AllAllowed k l past → (g : ℕ) → busy past g ≡ true → g < k.egroups
busy-declared k l [] all g now = absurd cc
busy-declared k l (e ∷ past) all g now =
    busy-next k l past e.core.0 e.what g (allowed-moment k l past e all.1 all.0) (busy-declared k l past all.1 g) now

notify-pays : (k : Declarations) (l : Limits) (past : Past) (d : ℕ) (w : What) → AllAllowed k l past → Moment k l past d w
    → notifications w + count_by (busy (entry_by d w ∷ past)) (below k.egroups) ≤ applies w + count_by (busy past) (below k.egroups)
notify-pays k l past d (What.Apply h a n notes) all m =
    let step = count-one (busy past) (busy (entry_by d (What.Apply h a n notes) ∷ past)) h.0 k.egroups (apply-declared k past d h.0 a n notes m) (λ c ne. by_test c (compared h.0 c) ne) in
    let was : one_if (busy past h.0) ≡ 0 = ap one_if (apply-idle past h.0 n m.count) in
    let one = one_if-le (busy (entry_by d (What.Apply h a n notes) ∷ past) h.0) in
    omega (arith, step, was, one)
  where
    by_test : (c : ℕ) → Compared h.0 c → c ≢ h.0 → busy (entry_by d (What.Apply h a n notes) ∷ past) c ≡ busy past c
    by_test c (Same t e) ne = absurd (ne (sym e))
    by_test c (Other f e) ne = rw f refl
notify-pays k l past d (What.Notify h a) all m =
    let on = (and-true (busy past h.0) (applications past h.0 == a) m.current).0 in
    let step = count-one (busy past) (busy (entry_by d (What.Notify h a) ∷ past)) h.0 k.egroups (busy-declared k l past all h.0 on) (λ c ne. by_test c (compared h.0 c) ne) in
    let was : one_if (busy past h.0) ≡ 1 = ap one_if on in
    let is : one_if (busy (entry_by d (What.Notify h a) ∷ past) h.0) ≡ 0 = ap one_if (if-own h.0 false (busy past h.0)) in
    omega (arith, step, was, is)
  where
    by_test : (c : ℕ) → Compared h.0 c → c ≢ h.0 → busy (entry_by d (What.Notify h a) ∷ past) c ≡ busy past c
    by_test c (Same t e) ne = absurd (ne (sym e))
    by_test c (Other f e) ne = rw f refl
notify-pays k l past d (What.Abort h) all m =
    let step = count-one (busy past) (busy (entry_by d (What.Abort h) ∷ past)) h.0 k.egroups (busy-declared k l past all h.0 m.busy) (λ c ne. by_test c (compared h.0 c) ne) in
    let is : one_if (busy (entry_by d (What.Abort h) ∷ past) h.0) ≡ 0 = ap one_if (if-own h.0 false (busy past h.0)) in
    omega (arith, step, is)
  where
    by_test : (c : ℕ) → Compared h.0 c → c ≢ h.0 → busy (entry_by d (What.Abort h) ∷ past) c ≡ busy past c
    by_test c (Same t e) ne = absurd (ne (sym e))
    by_test c (Other f e) ne = rw f refl
notify-pays k l past d w all m = omega arith

pub notifications-paid : (k : Declarations) (l : Limits) (past : Past) → AllAllowed k l past → total notifications past + count_by (busy past) (below k.egroups) ≤ total applies past
notifications-paid k l [] all = let none = count-none (busy []) k.egroups (λ c. refl) in omega (arith, none)
notifications-paid k l (e ∷ past) all =
    let older = notifications-paid k l past all.1 in
    let here = notify-pays k l past e.core.0 e.what all.1 (allowed-moment k l past e all.1 all.0) in
    omega (arith, older, here)
