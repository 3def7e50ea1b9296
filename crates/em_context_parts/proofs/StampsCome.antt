-- Each stamp is of an application that has come.
use Rattle.std.proofs.Common.{◌≡◌, ℕ, suc, ◌≤◌, ◌<◌, ◌==◌, Bool, true, false, List, [], ◌∷◌, length, Option, Some, None, if◌then◌else◌, arith, refl, ap, sym, subst}
use Rattle.em_log.specs.declared.declarations.Declarations.{Declarations}
use Rattle.em_log.specs.declared.entry.What.{What}
use Rattle.em_log.specs.declared.ids.Limits.{Limits}
use Rattle.em_log.specs.declared.ids.Stamp.{Stamp}
use Rattle.em_log.specs.History.{Past, entry_by}
use Rattle.em_log.specs.EventGroups.{is_stamp, applications_after, applications, busy_after, busy, stamp_after, open_stamp, departed_after, departed}
use Rattle.em_log.specs.Arrivals.{Item}
use Rattle.em_log.specs.Places.{taken}
use Rattle.em_log.specs.Lawful.{AllAllowed}
use Rattle.em_log.specs.Laws.{Each}
use Rattle.em_moments.proofs.Moments.{Moment, StampMoment, NoStamp, NewStamp, allowed-moment}
use Rattle.em_moments.proofs.Asked.{and-true}
use Rattle.em_laws.proofs.Cores.{eqb-eq}
use Rattle.em_context_parts.specs.SentStamps.{AllItems}
use Rattle.em_context_parts.specs.Memberships.{HasCome, SendHasCome, StampsHaveCome}
use Rattle.em_context_parts.proofs.Carried.{IsCarried, sends-carried, waiting-carried, taken-carried}

pub applications-grow : (g : ℕ) (w : What) (n : ℕ) → n ≤ applications_after g w n
applications-grow g (What.Apply h a n notes) m = by_test (h.0 == g)
  where
    by_test : (b : Bool) → m ≤ (if b then suc m else m)
    by_test true = omega arith
    by_test false = omega arith
applications-grow g w n = omega arith

pub come-kept : (past : Past) (d : ℕ) (w : What) (s : Option Stamp) → HasCome past s → HasCome (entry_by d w ∷ past) s
come-kept past d w None has = tt
come-kept past d w (Some s) has =
    let came = has.1 in
    let more = applications-grow s.group.0 w (applications past s.group.0) in
    (has.0, omega (arith, came, more))

-- a busy group has had an application
busy-more : (g : ℕ) (w : What) (b : Bool) (n : ℕ) → (b ≡ true → 1 ≤ n) → busy_after g w b ≡ true → 1 ≤ applications_after g w n
busy-more g (What.Apply h a n notes) b m was on = by_test (h.0 == g) on
  where
    by_test : (t : Bool) → (if t then true else b) ≡ true → 1 ≤ (if t then suc m else m)
    by_test true on = omega arith
    by_test false on = was on
busy-more g (What.Notify h a) b m was on = by_test (h.0 == g) on
  where
    by_test : (t : Bool) → (if t then false else b) ≡ true → 1 ≤ m
    by_test true on = absurd cc
    by_test false on = was on
busy-more g (What.Abort h) b m was on = by_test (h.0 == g) on
  where
    by_test : (t : Bool) → (if t then false else b) ≡ true → 1 ≤ m
    by_test true on = absurd cc
    by_test false on = was on
busy-more g w b n was on = was on

busy-applied : (past : Past) (g : ℕ) → busy past g ≡ true → 1 ≤ applications past g
busy-applied [] g on = absurd cc
busy-applied (e ∷ past) g on = busy-more g e.what (busy past g) (applications past g) (busy-applied past g) on

stamp-come : (k : Declarations) (past : Past) (c h q : ℕ) (s : Option Stamp) → StampMoment k past c h q s → HasCome past s
stamp-come k past c h q s (NoStamp o is) = subst (HasCome past) (sym is) tt
stamp-come k past c h q s (NewStamp g o served on room is) = subst (HasCome past) (sym is) (busy-applied past g on, omega arith)

come-carried : (k : Declarations) (l : Limits) → IsCarried k l (λ past h s. HasCome past s)
come-carried k l = record {
  kept = λ past d w h s has. come-kept past d w s has;
  send = λ past d h q t s m. come-kept past d (What.Send (record { 0 = h }) (record { 0 = q }) t s) s (stamp-come k past d h q s m.stamp);
  begun = λ past all n o is h there. tt;
  applied = λ past all g h there. tt;
}

pub taken-come : (k : Declarations) (l : Limits) (past : Past) → AllAllowed k l past → (c : ℕ) → AllItems (λ x. HasCome past x.stamp) (taken k past c)
taken-come k l past all c = taken-carried k l (λ past h s. HasCome past s) (come-carried k l) past all c

first-come : (past : Past) (xs : List Item) (x : Item) (rest : List Item) → xs ≡ x ∷ rest → AllItems (λ y. HasCome past y.stamp) xs → HasCome past x.stamp
first-come past xs x rest is all = (subst (AllItems (λ y. HasCome past y.stamp)) is all).0

own-open : (k : Declarations) (l : Limits) (past : Past) (c : ℕ) (w : What) → AllAllowed k l past → Moment k l past c w → HasCome past (open_stamp past c)
    → HasCome past (stamp_after w (open_stamp past c))
own-open k l past c (What.Start q e s) all m was =
    subst (HasCome past) (sym m.stamp) (first-come past (taken k past c) m.item m.rest m.taken (taken-come k l past all c))
own-open k l past c (What.Enter b) all m was = tt
own-open k l past c What.EndGroup all m was = tt
own-open k l past c (What.End lost cells) all m was = tt
own-open k l past c w all m was = was

pub open-come : (k : Declarations) (l : Limits) (past : Past) → AllAllowed k l past → (c : ℕ) → HasCome past (open_stamp past c)
open-come k l [] all c = tt
open-come k l (e ∷ past) all c =
    come-kept past e.core.0 e.what (open_stamp (e ∷ past) c) (by_core (e.core.0 == c) refl (open-come k l past all.1 c))
  where
    by_core : (b : Bool) → (e.core.0 == c) ≡ b → HasCome past (open_stamp past c)
        → HasCome past (if b then stamp_after e.what (open_stamp past c) else open_stamp past c)
    by_core true is was =
        own-open k l past c e.what all.1 (subst (λ n. Moment k l past n e.what) (eqb-eq e.core.0 c is) (allowed-moment k l past e all.1 all.0)) was
    by_core false is was = was

send-come : (k : Declarations) (l : Limits) (past : Past) (c : ℕ) (w : What) → Moment k l past c w → SendHasCome past c w
send-come k l past c (What.Send h q t s) m = stamp-come k past c h.0 q.0 s m.stamp
send-come k l past c w m = tt

sends-come : (k : Declarations) (l : Limits) (past : Past) → AllAllowed k l past → Each SendHasCome past
sends-come k l [] all = tt
sends-come k l (e ∷ past) all = (send-come k l past e.core.0 e.what (allowed-moment k l past e all.1 all.0), sends-come k l past all.1)

pub stamps-have-come : (k : Declarations) (l : Limits) (past : Past) → AllAllowed k l past → StampsHaveCome k past
stamps-have-come k l past all = record {
  sends = sends-come k l past all;
  sent = sends-carried k l (λ past h s. HasCome past s) (come-carried k l) past all;
  waiting = waiting-carried k l (λ past h s. HasCome past s) (come-carried k l) past all;
  taken = taken-come k l past all;
  open_stamp = open-come k l past all;
}

-- nothing has left an application that is to come

not-come : (past : Past) (g a : ℕ) (o : Option Stamp) → HasCome past o → applications past g < a → is_stamp g a o ≡ true → ⊥
not-come past g a None has lt is = absurd cc
not-come past g a (Some s) has lt is =
    let both = and-true (s.group.0 == g) (s.app == a) is in
    let group = ap (applications past) (eqb-eq s.group.0 g both.0) in
    let number = eqb-eq s.app a both.1 in
    let came = has.1 in
    omega (arith, group, number, came, lt)

depart-more : (past : Past) (g a : ℕ) (o : Option Stamp) (m : ℕ) → HasCome past o → applications past g < a → m ≡ 0 → (if is_stamp g a o then suc m else m) ≡ 0
depart-more past g a o m has lt none = by_test (is_stamp g a o) refl
  where
    by_test : (b : Bool) → is_stamp g a o ≡ b → (if b then suc m else m) ≡ 0
    by_test true is = absurd (not-come past g a o has lt is)
    by_test false is = none

next-undeparted : (past : Past) (d : ℕ) (w : What) (g a : ℕ) → HasCome past (open_stamp past d) → (applications past g < a → departed past g a ≡ 0)
    → applications_after g w (applications past g) < a → departed_after past g a d w (departed past g a) ≡ 0
next-undeparted past d (What.Apply h b n notes) g a has was lt =
    let more = applications-grow g (What.Apply h b n notes) (applications past g) in was (omega (arith, more, lt))
next-undeparted past d What.EndGroup g a has was lt = depart-more past g a (open_stamp past d) (departed past g a) has lt (was lt)
next-undeparted past d (What.End lost cells) g a has was lt = depart-more past g a (open_stamp past d) (departed past g a) has lt (was lt)
next-undeparted past d w g a has was lt = was lt

pub undeparted : (k : Declarations) (l : Limits) (past : Past) → AllAllowed k l past → (g a : ℕ) → applications past g < a → departed past g a ≡ 0
undeparted k l [] all g a lt = refl
undeparted k l (e ∷ past) all g a lt =
    next-undeparted past e.core.0 e.what g a (open-come k l past all.1 e.core.0) (undeparted k l past all.1 g a) lt

-- a group has no more applications than there are entries
pub applications-few : (past : Past) (g : ℕ) → applications past g ≤ length past
applications-few [] g = omega arith
applications-few (e ∷ past) g = next e.what (applications-few past g)
  where
    next : (w : What) → applications past g ≤ length past → applications_after g w (applications past g) ≤ suc (length past)
    next (What.Apply h a n notes) few = by_test (h.0 == g)
      where
        by_test : (b : Bool) → (if b then suc (applications past g) else applications past g) ≤ suc (length past)
        by_test true = omega (arith, few)
        by_test false = omega (arith, few)
    next w few = omega (arith, few)
