-- Parked handles sit after each entry.
use Rattle.std.proofs.Common.{◌≡◌, ℕ, suc, ◌≤◌, ◌==◌, Bool, true, false, List, [], ◌∷◌, ◌++◌, drop, Some, None, refl, sym, ◌∙◌, subst, ap, if◌then◌else◌, arith}
use Rattle.em_laws.proofs.Usable.{usable-after}
use Rattle.std.proofs.lemmas.Bool.{false_from_ne_true}
use Rattle.em_log.specs.declared.declarations.Declarations.{Declarations}
use Rattle.em_log.specs.declared.entry.What.{What}
use Rattle.em_log.specs.declared.ids.Limits.{Limits}
use Rattle.em_log.specs.declared.ids.Handle.{Handle}
use Rattle.em_log.specs.declared.entry.Event.{Event}
use Rattle.em_log.specs.declared.ids.OpId.{OpId}
use Rattle.em_log.specs.History.{Past, entry_by, has, minted_in}
use Rattle.em_log.specs.Laws.{AreDifferent}
use Rattle.em_log.specs.Declarations.{is_number}
use Rattle.em_log.specs.Contexts.{context_object}
use Rattle.em_log.specs.Places.{taken, kept, has_item}
use Rattle.em_log.specs.Lawful.{AllAllowed}
use Rattle.em_moments.proofs.Moments.{Moment, KeepMoment}
use Rattle.em_pool.specs.declared.place.Place.{Place}
use Rattle.em_laws.specs.Minted.{HasSmallIndices, minted}
use Rattle.em_laws.proofs.Spent.{unended}
use Rattle.em_places.proofs.SpentHandles.{mint-unspent, not-done-yet}
use Rattle.em_laws.proofs.Cores.{Compared, Same, Other, compared, if-same}
use Rattle.em_laws.proofs.Counts.{occ, occ-append}
use Rattle.em_laws.proofs.Entering.{no-occ}
use Rattle.em_places.specs.Parked.{Parked, InContext, InQueue, InTaken, InOrder, InOperation, InGroup, InObject, InPool, Sits, AllSit}
use Rattle.em_places.proofs.FreeAfter.{free-pull}
use Rattle.em_places.proofs.Unmoved.{silent, same-place, not-before}
use Rattle.em_places.proofs.Minting.{FreeAlike, sits-alloc, sits-start, sits-dequeue, sits-claim}
use Rattle.em_places.proofs.Taking.{sits-take, sits-untake, sits-end_atomic}
use Rattle.em_places.proofs.Spending.{InHand, in-hand, sits-free, sits-keep, sits-send}
use Rattle.em_places.proofs.Notes.{sits-begin, sits-apply, sits-done, sits-notify, sits-abort}
use Rattle.em_places.proofs.Ends.{sits-end, sits-end_ordered}

-- no handle is kept twice by one object

abbrev pub KeptOnce : Declarations → Past → Type 0
KeptOnce k past = (x h : ℕ) → occ h (kept k past x) ≤ 1

keep-once : (k : Declarations) (past : Past) (d : ℕ) (f : Handle) → KeepMoment k past d f.0 → AllSit k past → KeptOnce k past → KeptOnce k (entry_by d (What.Keep f) ∷ past)
keep-once k past d f m older once x h = by_object (is_number x (context_object k past d))
  where
    hand : InHand k past f.0
    hand = in-hand k past d f.0 m.rule older

    absent : has (kept k past x) f.0 ≡ true → ⊥
    absent is =
        let s : Sits k past f.0 (Place.Kept (record { 0 = x })) = older f.0 _ (InObject x is refl) in
        let e = same-place k past f.0 f.0 _ _ s hand.sits refl in absurd (cc e)

    by_handle : Compared f.0 h → occ h (kept k past x ++ f.0 ∷ []) ≤ 1
    by_handle (Same t e) =
        let none : occ f.0 (kept k past x) ≡ 0 = no-occ f.0 (kept k past x) (false_from_ne_true _ absent) in
        let here : occ h (kept k past x) ≡ 0 = ap (λ (i : ℕ). occ i (kept k past x)) (sym e) ∙ none in
        let whole = occ-append h (kept k past x) (f.0 ∷ []) in
        let one : occ h (f.0 ∷ []) ≡ 1 = rw t refl in omega (arith, here, whole, one)
    by_handle (Other t e) =
        let whole = occ-append h (kept k past x) (f.0 ∷ []) in
        let nothing : occ h (f.0 ∷ []) ≡ 0 = rw t refl in
        let o = once x h in omega (arith, whole, nothing, o)

    by_object : (b : Bool) → occ h (if b then kept k past x ++ f.0 ∷ [] else kept k past x) ≤ 1
    by_object true = by_handle (compared f.0 h)
    by_object false = once x h

drop-once : (h : ℕ) (xs : List ℕ) → occ h xs ≤ 1 → occ h (drop 1 xs) ≤ 1
drop-once h [] once = omega arith
drop-once h (x ∷ xs) once = by_test (x == h) once
  where
    by_test : (b : Bool) → (if b then suc (occ h xs) else occ h xs) ≤ 1 → occ h xs ≤ 1
    by_test true le = omega (arith, le)
    by_test false le = le

pub next-kept_once : (k : Declarations) (l : Limits) (past : Past) (d : ℕ) (w : What) → Moment k l past d w → AllSit k past → KeptOnce k past → KeptOnce k (entry_by d w ∷ past)
next-kept_once k l past d (What.Keep f) m older once = keep-once k past d f m older once
next-kept_once k l past d (What.Claim (Some e)) m older once = λ x h. by_object x h (is_number x (context_object k past d))
  where
    by_object : (x h : ℕ) (b : Bool) → occ h (if b then drop 1 (kept k past x) else kept k past x) ≤ 1
    by_object x h true = drop-once h (kept k past x) (once x h)
    by_object x h false = once x h
next-kept_once k l past d (What.Claim None) m older once = once
next-kept_once k l past d w m older once = once

-- every entry

-- what an entry mints was not minted before
abbrev MintsFresh : Past → What → Type 0
MintsFresh past w = (e : Event) → minted_in w ≡ Some e → AreDifferent (e.handle.0 ∷ minted past)

pub next-sits : (k : Declarations) (l : Limits) (past : Past) (d : ℕ) (w : What) → HasSmallIndices k → AllAllowed k l past → Moment k l past d w → MintsFresh past w → FreeAlike k past → KeptOnce k past
    → AllSit k past → AllSit k (entry_by d w ∷ past)
next-sits k l past d (What.Take r n t) small all m fresh free once older = sits-take k l past d r n t all m older
next-sits k l past d (What.Start r e st) small all m fresh free once older = sits-start k l past d r e st all m (mint-unspent past e (usable-after k l past small all) (fresh e refl)) older
next-sits k l past d (What.Untake r n) small all m fresh free once older = sits-untake k l past d r n all m older
next-sits k l past d (What.End lost cells) small all m fresh free once older = sits-end k l past d lost cells all (usable-after k l past small all) m older
next-sits k l past d (What.EndAtomic rest cells) small all m fresh free once older = sits-end_atomic k l past d rest cells all m older
next-sits k l past d What.EndOrdered small all m fresh free once older = sits-end_ordered k l past d all m older
next-sits k l past d (What.Alloc a e) small all m fresh free once older = sits-alloc k past d a e small m free (mint-unspent past e (usable-after k l past small all) (fresh e refl)) older
next-sits k l past d (What.Free f) small all m fresh free once older = sits-free k past d f m older
next-sits k l past d (What.Send f q t st) small all m fresh free once older = sits-send k l past d f q t st all m older
next-sits k l past d (What.Keep f) small all m fresh free once older = sits-keep k past d f m older
next-sits k l past d (What.Claim (Some e)) small all m fresh free once older = sits-claim k past d e m once (mint-unspent past e (usable-after k l past small all) (fresh e refl)) older
next-sits k l past d (What.Dequeue r (Some e)) small all m fresh free once older = sits-dequeue k l past d r e all m (mint-unspent past e (usable-after k l past small all) (fresh e refl)) older
next-sits k l past d (What.Begin op job notes) small all m fresh free once older =
    sits-begin k past d op job notes m (not-done-yet k l past op.0 all (ap (λ (o : OpId). o.0) m.number)) older
next-sits k l past d (What.Done op ok) small all m fresh free once older = sits-done k l past d op ok all m older
next-sits k l past d (What.Apply g a n notes) small all m fresh free once older =
    let number = m.number in
    sits-apply k past d g a n notes m ((unended k l past all g.0 a).later (omega (arith, number))) older
next-sits k l past d (What.Abort g) small all m fresh free once older = sits-abort k l past d g all m older
next-sits k l past d (What.Notify g a) small all m fresh free once older = sits-notify k l past d g a all m older
next-sits k l past d w small all m fresh free once older = silent k past d w (λ i. record { last = refl; spot = refl }) (λ h p parked. back h p parked) older
  where
    back : (h : ℕ) (p : Place) → Parked k (entry_by d w ∷ past) h p → Parked k past h p
    back h p (InContext v is un eq) = InContext v is un eq
    back h p (InQueue q c plain is eq) = InQueue q c plain is eq
    back h p (InTaken c is eq) = InTaken c (subst (λ xs. has_item xs h ≡ true) (if-same (d == c) (taken k past c)) is) eq
    back h p (InOrder s f q t st is what off eq) = InOrder s f q t st is what (not-before past d w _ off) eq
    back h p (InOperation n o is un there eq) = InOperation n o is un there eq
    back h p (InGroup g on there eq) = InGroup g on there eq
    back h p (InObject x there eq) = InObject x there eq
    back h p (InPool v s last is spent free eq) =
        InPool v s last is spent (free-pull k past (entry_by d w ∷ past) h s.what (λ q e. e) (λ n. refl) (λ g a. refl) free) eq
