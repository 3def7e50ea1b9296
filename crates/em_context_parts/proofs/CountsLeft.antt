-- Where nothing is due, a group whose application is neither notified nor given up has some of its count left: the end
-- that makes the count zero has the notification due.
use Rattle.std.proofs.Common.{◌≡◌, ◌⊎◌, inl, inr, ℕ, zero, suc, ◌+◌, ◌-◌, ◌<◌, ◌==◌, ◌||◌, Bool, true, false, List, [], ◌∷◌, Option, Some, None, if◌then◌else◌, arith, refl, ap, sym, ◌∙◌, subst, ⊎_elim}
use Rattle.std.specs.Prelude.{nat_lt}
use Rattle.std.specs.List.{list_any}
use Rattle.std.proofs.lemmas.Bool.{eq-eqb}
use Rattle.em_log.specs.declared.declarations.Declarations.{Declarations}
use Rattle.em_log.specs.declared.entry.Entry.{Entry}
use Rattle.em_log.specs.declared.entry.Event.{Event}
use Rattle.em_log.specs.declared.entry.What.{What}
use Rattle.em_log.specs.declared.fault.Fault.{Fault}
use Rattle.em_log.specs.declared.ids.EventGroupId.{EventGroupId}
use Rattle.em_log.specs.declared.ids.Limits.{Limits}
use Rattle.em_log.specs.declared.ids.Note.{Note}
use Rattle.em_log.specs.declared.ids.QueueId.{QueueId}
use Rattle.em_log.specs.declared.ids.Stamp.{Stamp}
use Rattle.em_log.specs.History.{Past, entry_by, entries_by}
use Rattle.em_log.specs.Contexts.{context, context_after}
use Rattle.em_log.specs.EventGroups.{is_stamp, applications, busy, total, stamp_after, open_stamp, departed, count}
use Rattle.em_log.specs.Leads.{count_limit, count_refusal}
use Rattle.em_log.specs.Order.{open_ticket, let_in}
use Rattle.em_log.specs.Tails.{outs, notification, end_tail, tail}
use Rattle.em_log.specs.Lawful.{Allowed, AllAllowed, IsNext, due, due_after}
use Rattle.em_moments.proofs.Asked.{and-true}
use Rattle.em_moments.proofs.Follows.{Follows, FirstStart, Outs, NoteLost, AcksStart, AcksStop, GlobalStarts, GlobalStops, ChangeDone, StartDone, StartFailed, StopDone, Notifies, AllDue}
use Rattle.em_moments.proofs.Inversion.{due-follows}
use Rattle.em_moments.proofs.Moments.{Moment, ApplyMoment, allowed-moment}
use Rattle.em_laws.proofs.Cores.{Compared, Same, Other, compared, eqb-eq}
use Rattle.em_context_parts.specs.Memberships.{CountsLeft}
use Rattle.em_context_parts.proofs.Lists.{any-right}
use Rattle.em_context_parts.proofs.StampsCome.{undeparted}

-- the kinds of entries that one ask puts after its first
abbrev pub may_follow : What → Bool
may_follow (What.Start q e s) = true
may_follow (What.Out q kind words) = true
may_follow (What.GlobalDone op ok) = true
may_follow (What.Ack op) = true
may_follow (What.Done op ok) = true
may_follow (What.Notify g a) = true
may_follow (What.Fault asked f s) = true
may_follow w = false

follows-may : (k : Declarations) (past : Past) (c : ℕ) (w : What) → Follows k past c w → may_follow w ≡ true
follows-may k past c w (FirstStart _ _ _ _ _ _ _ _ _ _ e) = ap may_follow e
follows-may k past c w (Outs _ _ _ _ e) = ap may_follow e
follows-may k past c w (NoteLost _ e) = ap may_follow e
follows-may k past c w (AcksStart _ _ _ _ _ _ e) = ap may_follow e
follows-may k past c w (AcksStop _ _ _ _ _ _ e) = ap may_follow e
follows-may k past c w (GlobalStarts _ _ _ _ _ _ e) = ap may_follow e
follows-may k past c w (GlobalStops _ _ _ _ _ _ e) = ap may_follow e
follows-may k past c w (ChangeDone _ _ _ _ _ e) = ap may_follow e
follows-may k past c w (StartDone _ _ _ _ _ _ _ e) = ap may_follow e
follows-may k past c w (StartFailed _ _ _ _ _ _ e) = ap may_follow e
follows-may k past c w (StopDone _ _ _ _ _ _ e) = ap may_follow e
follows-may k past c w (Notifies _ _ _ e) = ap may_follow e

-- an entry of another kind begins a block: nothing is due before it
pub begins-block : (k : Declarations) (l : Limits) (past : Past) (e : Entry) → AllAllowed k l past → Allowed k l past e → may_follow e.what ≡ false → due k past ≡ []
begins-block k l past e all allowed other = by_due (due k past) (due-follows k l past all) allowed.next
  where
    by_due : (ds : List Entry) → AllDue k past ds → IsNext k l past ds e → ds ≡ []
    by_due [] follow next = refl
    by_due (d ∷ ds) follow next =
        let may : may_follow e.what ≡ true = ap (λ (v : Entry). may_follow v.what) next ∙ follows-may k past d.core.0 d.what follow.0 in
        absurd (cc (may, other))

-- the context of a stamp

-- a core has an open stamp only in a receive
data StampIn (o : Option Stamp) (began : Option What) : Type 0 where
  Unstamped : o ≡ None → StampIn o began
  InReceive : (q : QueueId) (e : Event) (s : Option Stamp) → began ≡ Some (What.Start q e s) → StampIn o began

stamp-more : (w : What) (o : Option Stamp) (began : Option What) → StampIn o began → StampIn (stamp_after w o) (context_after w began)
stamp-more (What.Start q e s) o began was = InReceive q e s refl
stamp-more (What.Enter b) o began was = Unstamped refl
stamp-more What.EndGroup o began was = Unstamped refl
stamp-more (What.End lost cells) o began was = Unstamped refl
stamp-more w o began was = was

stamp-in : (past : Past) (c : ℕ) → StampIn (open_stamp past c) (context past c)
stamp-in [] c = Unstamped refl
stamp-in (e ∷ past) c = by_core (e.core.0 == c) (stamp-in past c)
  where
    by_core : (b : Bool) → StampIn (open_stamp past c) (context past c)
        → StampIn (if b then stamp_after e.what (open_stamp past c) else open_stamp past c) (if b then context_after e.what (context past c) else context past c)
    by_core true was = stamp-more e.what (open_stamp past c) (context past c) was
    by_core false was = was

-- notifications that are due

abbrev notifies : ℕ → What → Bool
notifies g (What.Notify h a) = h.0 == g
notifies g w = false

abbrev is_notified : ℕ → List Entry → Bool
is_notified g es = list_any (λ (e : Entry). notifies g e.what) es

by-core : (g c : ℕ) (ws : List What) → is_notified g (entries_by c ws) ≡ list_any (notifies g) ws
by-core g c [] = refl
by-core g c (w ∷ ws) = ap (λ b. notifies g w || b) (by-core g c ws)

notification-notifies : (k : Declarations) (now : Past) (c g : ℕ) (o : Option Stamp) → is_stamp g (applications now g) o ≡ true → busy now g ≡ true → count now g ≡ 0
    → list_any (notifies g) (notification k now c o) ≡ true
notification-notifies k now c g None is on none = absurd cc
notification-notifies k now c g (Some s) is on none =
    let both = and-true (s.group.0 == g) (s.app == applications now g) is in
    let group = eqb-eq s.group.0 g both.0 in
    let number = eqb-eq s.app (applications now g) both.1 in
    let on_it : busy now s.group.0 ≡ true = ap (busy now) group ∙ on in
    let current : (applications now s.group.0 == s.app) ≡ true = eq-eqb (applications now s.group.0) s.app (ap (applications now) group ∙ sym number) in
    let zero_it : (count now s.group.0 == 0) ≡ true = eq-eqb (count now s.group.0) 0 (ap (count now) group ∙ none) in
    rw (on_it, current, zero_it, both.0) refl

end-notifies : (k : Declarations) (past now : Past) (c g : ℕ) → is_stamp g (applications now g) (open_stamp past c) ≡ true → busy now g ≡ true → count now g ≡ 0
    → list_any (notifies g) (end_tail k past now c (context past c)) ≡ true
end-notifies k past now c g is on none = by_stamp (stamp-in past c)
  where
    by_stamp : StampIn (open_stamp past c) (context past c) → list_any (notifies g) (end_tail k past now c (context past c)) ≡ true
    by_stamp (Unstamped bare) = let off : false ≡ true = sym (ap (is_stamp g (applications now g)) bare) ∙ is in absurd (cc off)
    by_stamp (InReceive q e s began) =
        ap (λ o. list_any (notifies g) (end_tail k past now c o)) began
        ∙ any-right (notifies g) (outs k past (let_in past now (open_ticket past c))) (notification k now c (open_stamp past c))
        (notification-notifies k now c g (open_stamp past c) is on none)

-- the law, in the middle of an ask too

abbrev Counted : Declarations → Past → ℕ → Type 0
Counted k past g = busy past g ≡ true → (0 < count past g) ⊎ (is_notified g (due k past) ≡ true)

pub some-counted : (past : Past) (g n : ℕ) → count_refusal past g n ≡ None → 0 < n
some-counted past g n ok = by_busy (busy past g) ok
  where
    by_count : (m : ℕ) → (if (m == 0) || nat_lt count_limit m then Some (Fault.BadCount 0) else None) ≡ None → 0 < m
    by_count zero ok = absurd cc
    by_count (suc m) ok = omega arith

    by_busy : (b : Bool) → (if b then Some (Fault.GroupBusy (count past g)) else (if (n == 0) || nat_lt count_limit n then Some (Fault.BadCount 0) else None)) ≡ None → 0 < n
    by_busy true ok = absurd cc
    by_busy false ok = by_count n ok

module _ (k : Declarations) (l : Limits) (past : Past) (c g : ℕ) where
  -- an entry that is due
  due-counted : (w : What) (ds : List Entry) → may_follow w ≡ true → (busy past g ≡ true → (0 < count past g) ⊎ ((notifies g w || is_notified g ds) ≡ true))
      → busy (entry_by c w ∷ past) g ≡ true → (0 < count (entry_by c w ∷ past) g) ⊎ (is_notified g ds ≡ true)
  due-counted (What.Notify h a) ds may was on = by_group (h.0 == g) was on
    where
      by_group : (b : Bool) → (busy past g ≡ true → (0 < count past g) ⊎ ((b || is_notified g ds) ≡ true)) → (if b then false else busy past g) ≡ true
          → (0 < count past g) ⊎ (is_notified g ds ≡ true)
      by_group true was on = absurd cc
      by_group false was on = was on
  due-counted (What.Start q e s) ds may was on = was on
  due-counted (What.Out q kind words) ds may was on = was on
  due-counted (What.GlobalDone op ok) ds may was on = was on
  due-counted (What.Ack op) ds may was on = was on
  due-counted (What.Done op ok) ds may was on = was on
  due-counted (What.Fault asked f s) ds may was on = was on
  due-counted w ds may was on = absurd cc

  -- an entry that begins a block
  module _ (all : AllAllowed k l past) (was : busy past g ≡ true → 0 < count past g) where
    apply-counted : (h : EventGroupId) (a n : ℕ) (notes : List Note) → ApplyMoment k past c h.0 a n notes
        → busy (entry_by c (What.Apply h a n notes) ∷ past) g ≡ true → 0 < count (entry_by c (What.Apply h a n notes) ∷ past) g
    apply-counted h a n notes m on = by_group (compared h.0 g)
      where
        now : Past
        now = entry_by c (What.Apply h a n notes) ∷ past

        by_group : Compared h.0 g → 0 < count now g
        by_group (Same t e) =
            let none = undeparted k l past all g (suc (applications past g)) (omega arith) in
            let some = some-counted past h.0 n m.count in
            rw t (omega (arith, none, some))
        by_group (Other f apart) = rw f (was (rw f at on))

    increment-counted : (h : EventGroupId) (n : ℕ) → busy past g ≡ true → 0 < count (entry_by c (What.Increment h n) ∷ past) g
    increment-counted h n on = by_group (h.0 == g)
      where
        by_group : (b : Bool) → 0 < (if b then total past g + n else total past g) - departed past g (applications past g)
        by_group true = let some = was on in omega (arith, some)
        by_group false = was on

    abbrev left : ℕ
    left = departed past g (applications past g)

    -- where a member leaves, some of the count is left, or the notification is due
    leaving : (ds : List Entry) → (is_stamp g (applications past g) (open_stamp past c) ≡ true → total past g - suc left ≡ 0 → is_notified g ds ≡ true)
        → busy past g ≡ true → (b : Bool) → is_stamp g (applications past g) (open_stamp past c) ≡ b
        → (0 < total past g - (if b then suc left else left)) ⊎ (is_notified g ds ≡ true)
    leaving ds told on false is = inl (was on)
    leaving ds told on true is = by_count (total past g - suc left) refl
      where
        by_count : (n : ℕ) → total past g - suc left ≡ n → (0 < total past g - suc left) ⊎ (is_notified g ds ≡ true)
        by_count zero none = inr (told is none)
        by_count (suc n) some = inl (omega (arith, some))

    -- the count after a member has left
    count-left : is_stamp g (applications past g) (open_stamp past c) ≡ true → total past g - suc left ≡ 0
        → total past g - (if is_stamp g (applications past g) (open_stamp past c) then suc left else left) ≡ 0
    count-left is none = ap (λ b. total past g - (if b then suc left else left)) is ∙ none

    begins-counted : (w : What) → Moment k l past c w → may_follow w ≡ false → busy (entry_by c w ∷ past) g ≡ true
        → (0 < count (entry_by c w ∷ past) g) ⊎ (is_notified g (tail k past (entry_by c w)) ≡ true)
    begins-counted (What.Apply h a n notes) m lead on = inl (apply-counted h a n notes m on)
    begins-counted (What.Increment h n) m lead on = inl (increment-counted h n on)
    begins-counted (What.Abort h) m lead on = by_group (h.0 == g) on
      where
        by_group : (b : Bool) → (if b then false else busy past g) ≡ true → (0 < count past g) ⊎ (is_notified g (tail k past (entry_by c (What.Abort h))) ≡ true)
        by_group true on = absurd cc
        by_group false on = inl (was on)
    begins-counted What.EndGroup m lead on =
        leaving (tail k past (entry_by c What.EndGroup)) (λ is none.
        let now = entry_by c What.EndGroup ∷ past in
        by-core g c (notification k now c (open_stamp past c)) ∙ notification-notifies k now c g (open_stamp past c) is on (count-left is none)) on
        (is_stamp g (applications past g) (open_stamp past c)) refl
    begins-counted (What.End lost cells) m lead on =
        leaving (tail k past (entry_by c (What.End lost cells))) (λ is none.
        let now = entry_by c (What.End lost cells) ∷ past in
        by-core g c (end_tail k past now c (context past c)) ∙ end-notifies k past now c g is on (count-left is none)) on
        (is_stamp g (applications past g) (open_stamp past c)) refl
    begins-counted (What.Notify h a) m lead on = absurd cc
    begins-counted w m lead on = inl (was on)

next-counted : (k : Declarations) (l : Limits) (past : Past) (c g : ℕ) (w : What) → AllAllowed k l past → Allowed k l past (entry_by c w) → Moment k l past c w
    → Counted k past g → Counted k (entry_by c w ∷ past) g
next-counted k l past c g w all allowed m was = by_due (due k past) refl allowed.next
  where
    now : Past
    now = entry_by c w ∷ past

    ended : List Entry
    ended = tail k past (entry_by c w)

    -- where nothing was due, the tail of the entry is
    from_tail : due k past ≡ [] → (busy now g ≡ true → (0 < count now g) ⊎ (is_notified g ended ≡ true)) → Counted k now g
    from_tail none after = subst (λ ds. busy now g ≡ true → (0 < count now g) ⊎ (is_notified g (due_after ds ended) ≡ true)) (sym none) after

    some_left : due k past ≡ [] → busy past g ≡ true → 0 < count past g
    some_left none on = ⊎_elim (λ some. some) (λ told. absurd (cc (sym (ap (is_notified g) none) ∙ told))) (was on)

    by_kind : due k past ≡ [] → (b : Bool) → may_follow w ≡ b → Counted k now g
    by_kind none true may = from_tail none (due-counted k l past c g w ended may (λ on. inl (some_left none on)))
    by_kind none false lead = from_tail none (begins-counted k l past c g all (some_left none) w m lead)

    by_due : (ds : List Entry) → due k past ≡ ds → IsNext k l past ds (entry_by c w) → Counted k now g
    by_due [] none next = by_kind none (may_follow w) refl
    by_due (d ∷ ds) is next =
        let may = by_may (may_follow w) refl in
        subst (λ v. busy now g ≡ true → (0 < count now g) ⊎ (is_notified g (due_after v ended) ≡ true)) (sym is)
        (due-counted k l past c g w ds may (λ on.
        ⊎_elim inl (λ told. inr (ap (λ (v : Entry). notifies g v.what || is_notified g ds) next ∙ (sym (ap (is_notified g) is) ∙ told))) (was on)))
      where
        by_may : (b : Bool) → may_follow w ≡ b → may_follow w ≡ true
        by_may true may = may
        by_may false lead = let none = begins-block k l past (entry_by c w) all allowed lead in absurd (cc (sym is ∙ none))

counted : (k : Declarations) (l : Limits) (past : Past) → AllAllowed k l past → (g : ℕ) → Counted k past g
counted k l [] all g = λ on. absurd (cc on)
counted k l (e ∷ past) all g =
    next-counted k l past e.core.0 g e.what all.1 all.0 (allowed-moment k l past e all.1 all.0) (counted k l past all.1 g)

pub counts-left : (k : Declarations) (l : Limits) (past : Past) → AllAllowed k l past → CountsLeft k past
counts-left k l past all none g on =
    ⊎_elim (λ some. some) (λ told. absurd (cc (sym (ap (is_notified g) none) ∙ told))) (counted k l past all g on)
