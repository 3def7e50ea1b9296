-- By the steps of a history the applications of event groups, their members and counts are those of the history.
use Rattle.std.proofs.Common.{◌≡◌, ℕ, zero, suc, ◌+◌, ◌-◌, ◌<◌, ◌≤◌, ◌==◌, ◌&&◌, not, Bool, true, false, List, [], ◌∷◌, Option, Some, None, if◌then◌else◌, arith, refl, ap, sym, ◌∙◌, subst}
use Rattle.std.proofs.lemmas.Bool.{eq-eqb, ne_eqb, eqb-true}
use Rattle.em_log.specs.declared.declarations.Declarations.{Declarations}
use Rattle.em_log.specs.declared.entry.What.{What}
use Rattle.em_log.specs.declared.ids.Limits.{Limits}
use Rattle.em_log.specs.declared.ids.Stamp.{Stamp}
use Rattle.em_log.specs.History.{Past, entry_by}
use Rattle.em_log.specs.EventGroups.{is_stamp, applications, departed, count, busy, open_stamp}
use Rattle.em_log.specs.EventGroups as log
use Rattle.em_log.specs.Lawful.{Allowed, AllAllowed}
use Rattle.em_log.specs.Laws.{Each}
use Rattle.em_moments.proofs.Asked.{and-true}
use Rattle.em_moments.proofs.Moments.{Moment, StampMoment, NoStamp, NewStamp, allowed-moment}
use Rattle.em_laws.proofs.Tickets.{nat-le-true}
use Rattle.em_egroups.specs.Steps.{EgroupStep, Left}
use Rattle.em_egroups.specs.Applications as part
use Rattle.em_context_parts.specs.EgroupSteps.{stamped_steps, left_steps, egroup_after, egroup_steps}
use Rattle.em_context_parts.specs.EgroupAlike.{EgroupsAlike}
use Rattle.em_context_parts.specs.Memberships.{HasCome}
use Rattle.em_context_parts.proofs.CountsLeft.{begins-block, counts-left, some-counted}
use Rattle.em_context_parts.proofs.StampsCome.{applications-few, open-come, undeparted}

abbrev pub HasCurrentApp : Past → Option Stamp → Type 0
HasCurrentApp past None = Unit {0}
HasCurrentApp past (Some s) = s.app ≡ applications past s.group.0

-- an application begins with some count, and none of its members has left; a send has the stamp of the last application;
-- only a group with some count left gets more, and a group notifies where none is left; what leaves has come
abbrev pub IsFitting : Past → ℕ → What → Type 0
IsFitting past c (What.Apply g a n notes) = departed past g.0 (suc (applications past g.0)) < n
IsFitting past c (What.Send h q t s) = HasCurrentApp past s
IsFitting past c (What.Increment g n) = 0 < count past g.0
IsFitting past c What.EndGroup = HasCome past (open_stamp past c)
IsFitting past c (What.End lost cells) = HasCome past (open_stamp past c)
IsFitting past c (What.Notify g a) = count past g.0 ≡ 0
IsFitting past c w = Unit {0}

abbrev pub AreFitting : Past → Type 0
AreFitting past = Each IsFitting past

stamp-current : (k : Declarations) (past : Past) (c h q : ℕ) (s : Option Stamp) → StampMoment k past c h q s → HasCurrentApp past s
stamp-current k past c h q s (NoStamp o is) = subst (HasCurrentApp past) (sym is) tt
stamp-current k past c h q s (NewStamp g o served on room is) = subst (HasCurrentApp past) (sym is) refl

fits : (k : Declarations) (l : Limits) (past : Past) (c : ℕ) (w : What) → AllAllowed k l past → Allowed k l past (entry_by c w) → Moment k l past c w → IsFitting past c w
fits k l past c (What.Apply g a n notes) all allowed m =
    let none = undeparted k l past all g.0 (suc (applications past g.0)) (omega arith) in
    let some = some-counted past g.0 n m.count in
    omega (arith, none, some)
fits k l past c (What.Send h q t s) all allowed m = stamp-current k past c h.0 q.0 s m.stamp
fits k l past c (What.Increment g n) all allowed m =
    let none = begins-block k l past (entry_by c (What.Increment g n)) all allowed refl in
    let on = (and-true (busy past m.stamp.group.0) _ m.current).0 in
    counts-left k l past all none g.0 (ap (busy past) m.group ∙ on)
fits k l past c What.EndGroup all allowed m = open-come k l past all c
fits k l past c (What.End lost cells) all allowed m = open-come k l past all c
fits k l past c (What.Notify g a) all allowed m = m.count
fits k l past c w all allowed m = tt

pub all-fitting : (k : Declarations) (l : Limits) (past : Past) → AllAllowed k l past → AreFitting past
all-fitting k l [] all = tt
all-fitting k l (e ∷ past) all =
    (fits k l past e.core.0 e.what all.1 all.0 (allowed-moment k l past e all.1 all.0), all-fitting k l past all.1)

and_true : (b : Bool) → (b && true) ≡ b
and_true true = refl
and_true false = refl

module _ (g : ℕ) where
  -- stamps and leavings change none of these

  apps-stamped : (o : Option Stamp) (s : List EgroupStep) → part.applications (stamped_steps o s) g ≡ part.applications s g
  apps-stamped None s = refl
  apps-stamped (Some t) s = refl

  apps-left : (o : Option Stamp) (s : List EgroupStep) → part.applications (left_steps o s) g ≡ part.applications s g
  apps-left None s = refl
  apps-left (Some t) s = refl

  total-stamped : (o : Option Stamp) (s : List EgroupStep) → part.total (stamped_steps o s) g ≡ part.total s g
  total-stamped None s = refl
  total-stamped (Some t) s = refl

  total-left : (o : Option Stamp) (s : List EgroupStep) → part.total (left_steps o s) g ≡ part.total s g
  total-left None s = refl
  total-left (Some t) s = refl

  notes-stamped : (o : Option Stamp) (s : List EgroupStep) → part.applied_notes (stamped_steps o s) g ≡ part.applied_notes s g
  notes-stamped None s = refl
  notes-stamped (Some t) s = refl

  notes-left : (o : Option Stamp) (s : List EgroupStep) → part.applied_notes (left_steps o s) g ≡ part.applied_notes s g
  notes-left None s = refl
  notes-left (Some t) s = refl

  apps-more : (past : Past) (c : ℕ) (w : What)
      → part.applications (egroup_after past c w (egroup_steps past)) g ≡ log.applications_after g w (part.applications (egroup_steps past) g)
  apps-more past c (What.Apply h a n notes) = refl
  apps-more past c (What.Send h q t s) = apps-stamped s (egroup_steps past)
  apps-more past c (What.Increment h n) = refl
  apps-more past c What.EndGroup = apps-left (open_stamp past c) (egroup_steps past)
  apps-more past c (What.End lost cells) = apps-left (open_stamp past c) (egroup_steps past)
  apps-more past c (What.Abort h) = refl
  apps-more past c w = refl

  pub same-applications : (past : Past) → part.applications (egroup_steps past) g ≡ log.applications past g
  same-applications [] = refl
  same-applications (e ∷ past) = apps-more past e.core.0 e.what ∙ ap (log.applications_after g e.what) (same-applications past)

  total-more : (past : Past) (c : ℕ) (w : What)
      → part.total (egroup_after past c w (egroup_steps past)) g ≡ log.total_after g w (part.total (egroup_steps past) g)
  total-more past c (What.Apply h a n notes) = refl
  total-more past c (What.Send h q t s) = total-stamped s (egroup_steps past)
  total-more past c (What.Increment h n) = refl
  total-more past c What.EndGroup = total-left (open_stamp past c) (egroup_steps past)
  total-more past c (What.End lost cells) = total-left (open_stamp past c) (egroup_steps past)
  total-more past c (What.Abort h) = refl
  total-more past c w = refl

  pub same-total : (past : Past) → part.total (egroup_steps past) g ≡ log.total past g
  same-total [] = refl
  same-total (e ∷ past) = total-more past e.core.0 e.what ∙ ap (log.total_after g e.what) (same-total past)

  notes-more : (past : Past) (c : ℕ) (w : What)
      → part.applied_notes (egroup_after past c w (egroup_steps past)) g ≡ log.notes_applied g w (part.applied_notes (egroup_steps past) g)
  notes-more past c (What.Apply h a n notes) = refl
  notes-more past c (What.Send h q t s) = notes-stamped s (egroup_steps past)
  notes-more past c (What.Increment h n) = refl
  notes-more past c What.EndGroup = notes-left (open_stamp past c) (egroup_steps past)
  notes-more past c (What.End lost cells) = notes-left (open_stamp past c) (egroup_steps past)
  notes-more past c (What.Abort h) = refl
  notes-more past c w = refl

  pub same-notes : (past : Past) → part.applied_notes (egroup_steps past) g ≡ log.applied_notes past g
  same-notes [] = refl
  same-notes (e ∷ past) = notes-more past e.core.0 e.what ∙ ap (log.notes_applied g e.what) (same-notes past)

module _ (g a : ℕ) where
  departed-stamped : (o : Option Stamp) (s : List EgroupStep) → part.departed (stamped_steps o s) g a ≡ part.departed s g a
  departed-stamped None s = refl
  departed-stamped (Some t) s = refl

  departed-left : (past : Past) (o : Option Stamp) → HasCome past o
      → part.departed (left_steps o (egroup_steps past)) g a
      ≡ (if is_stamp g a o then suc (part.departed (egroup_steps past) g a) else part.departed (egroup_steps past) g a)
  departed-left past None has = refl
  departed-left past (Some t) has =
      let here : part.has_begun (egroup_steps past) t ≡ true =
      nat-le-true t.app (part.applications (egroup_steps past) t.group.0) (subst (λ n. t.app ≤ n) (sym (same-applications t.group.0 past)) has.1) in
      ap (λ b. if b then suc (part.departed (egroup_steps past) g a) else part.departed (egroup_steps past) g a)
      (ap (λ b. is_stamp g a (Some t) && b) here ∙ and_true (is_stamp g a (Some t)))

  departed-more : (past : Past) (c : ℕ) (w : What) → IsFitting past c w
      → part.departed (egroup_after past c w (egroup_steps past)) g a ≡ log.departed_after past g a c w (part.departed (egroup_steps past) g a)
  departed-more past c (What.Apply h b n notes) fits = refl
  departed-more past c (What.Send h q t s) fits = departed-stamped s (egroup_steps past)
  departed-more past c (What.Increment h n) fits = refl
  departed-more past c What.EndGroup fits = departed-left past (open_stamp past c) fits
  departed-more past c (What.End lost cells) fits = departed-left past (open_stamp past c) fits
  departed-more past c (What.Abort h) fits = refl
  departed-more past c w fits = refl

  pub same-departed : (past : Past) → AreFitting past → part.departed (egroup_steps past) g a ≡ log.departed past g a
  same-departed [] fit = refl
  same-departed (e ∷ past) fit =
      departed-more past e.core.0 e.what fit.0 ∙ ap (log.departed_after past g a e.core.0 e.what) (same-departed past fit.1)

  members-left : (o : Option Stamp) (s : List EgroupStep) → part.members (left_steps o s) g a ≡ part.members s g a
  members-left None s = refl
  members-left (Some t) s = refl

module _ (g : ℕ) where
  pub same-count : (past : Past) → AreFitting past → part.count (egroup_steps past) g ≡ log.count past g
  same-count past fit =
      (λ i. same-total g past i - part.departed (egroup_steps past) g (same-applications g past i))
      ∙ ap (λ n. log.total past g - n) (same-departed g (log.applications past g) past fit)

module _ (g a : ℕ) where
  members-stamped : (past : Past) (o : Option Stamp) → HasCurrentApp past o
      → part.members (stamped_steps o (egroup_steps past)) g a
      ≡ (if is_stamp g a o then suc (part.members (egroup_steps past) g a) else part.members (egroup_steps past) g a)
  members-stamped past None fits = refl
  members-stamped past (Some s) fits =
      (λ i. if (s.group.0 == g) && ((same-applications s.group.0 past ∙ sym fits) i == a) then suc (part.members (egroup_steps past) g a)
      else part.members (egroup_steps past) g a)

  members-more : (past : Past) (c : ℕ) (w : What) → IsFitting past c w
      → part.members (egroup_after past c w (egroup_steps past)) g a ≡ log.members_after g a w (part.members (egroup_steps past) g a)
  members-more past c (What.Apply h b n notes) fits = refl
  members-more past c (What.Send h q t s) fits = members-stamped past s fits
  members-more past c (What.Increment h n) fits = refl
  members-more past c What.EndGroup fits = members-left g a (open_stamp past c) (egroup_steps past)
  members-more past c (What.End lost cells) fits = members-left g a (open_stamp past c) (egroup_steps past)
  members-more past c (What.Abort h) fits = refl
  members-more past c w fits = refl

  pub same-members : (past : Past) → AreFitting past → part.members (egroup_steps past) g a ≡ log.members past g a
  same-members [] fit = refl
  same-members (e ∷ past) fit = members-more past e.core.0 e.what fit.0 ∙ ap (log.members_after g a e.what) (same-members past fit.1)

-- a group is busy by the steps exactly where it is so by the history and some of its count is left

module _ (g : ℕ) where
  abbrev some_left : ℕ → Bool → Bool
  some_left n was = was && not (n == 0)

  and_false : (b : Bool) → (b && false) ≡ false
  and_false true = refl
  and_false false = refl

  while_some : (n : ℕ) (b : Bool) → 0 < n → some_left n b ≡ b
  while_some n b lt = ap (λ t. b && not t) (ne_eqb n 0 (λ e. omega arith)) ∙ and_true b

  with_none : (n : ℕ) (b : Bool) → n ≡ 0 → some_left n b ≡ false
  with_none n b e = ap (λ t. b && not t) (eq-eqb n 0 e) ∙ and_false b

  module _ (past : Past) (fit : AreFitting past) where
    abbrev apps : ℕ
    apps = log.applications past g

    abbrev left : ℕ
    left = log.departed past g (log.applications past g)

    abbrev was : Bool
    was = part.busy (egroup_steps past) g

    busy-stamped : (o : Option Stamp) → part.busy (stamped_steps o (egroup_steps past)) g ≡ was
    busy-stamped None = refl
    busy-stamped (Some s) = refl

    -- one member less, or none, is counted
    fewer : (b : Bool) → (log.total past g - (if b then suc left else left)) ≤ log.count past g
    fewer true = omega arith
    fewer false = omega arith

    lowered : (n : ℕ) → n ≤ log.count past g → was ≡ some_left (log.count past g) (log.busy past g)
        → (b : Bool) → (n == 0) ≡ b → (if b then false else was) ≡ (log.busy past g && not b)
    lowered n le same true e = sym (and_false (log.busy past g))
    lowered n le same false e =
        let some : 0 < n = ne_zero n e in
        same ∙ (while_some (log.count past g) (log.busy past g) (omega arith) ∙ sym (and_true (log.busy past g)))
      where
        ne_zero : (m : ℕ) → (m == 0) ≡ false → 0 < m
        ne_zero zero f = absurd (cc f)
        ne_zero (suc m) f = omega arith

    -- what is left of the count once a receive with this stamp has left
    pub count-left : (s : Stamp) → HasCome past (Some s)
        → part.count (Left s ∷ egroup_steps past) g ≡ log.total past g - (if is_stamp g apps (Some s) then suc left else left)
    count-left s has =
        (λ i. same-total g past i - part.departed (Left s ∷ egroup_steps past) g (same-applications g past i))
        ∙ ap (λ d. log.total past g - d)
        (departed-left g apps past (Some s) has ∙ ap (λ d. if is_stamp g apps (Some s) then suc d else d) (same-departed g apps past fit))

    busy-left : (o : Option Stamp) → HasCome past o → was ≡ some_left (log.count past g) (log.busy past g)
        → part.busy (left_steps o (egroup_steps past)) g
        ≡ some_left (log.total past g - (if is_stamp g apps o then suc left else left)) (log.busy past g)
    busy-left None has same = same
    busy-left (Some s) has same =
        let n = log.total past g - (if is_stamp g apps (Some s) then suc left else left) in
        ap (λ m. if m == 0 then false else was) (count-left s has) ∙ lowered n (fewer (is_stamp g apps (Some s))) same (n == 0) refl

  busy-more : (past : Past) (c : ℕ) (w : What) → AreFitting past → IsFitting past c w
      → part.busy (egroup_steps past) g ≡ some_left (log.count past g) (log.busy past g)
      → part.busy (egroup_after past c w (egroup_steps past)) g
      ≡ some_left (log.count (entry_by c w ∷ past) g) (log.busy_after g w (log.busy past g))
  busy-more past c (What.Apply h a n notes) fit fits same = by_test (h.0 == g) refl
    where
      by_test : (b : Bool) → (h.0 == g) ≡ b → (if b then true else part.busy (egroup_steps past) g)
          ≡ some_left ((if b then n else log.total past g) - log.departed past g (if b then suc (log.applications past g) else log.applications past g))
          (if b then true else log.busy past g)
      by_test true e =
          let less = subst (λ j. log.departed past j (suc (log.applications past j)) < n) (eqb-true h.0 g e) fits in
          sym (while_some (n - log.departed past g (suc (log.applications past g))) true (omega arith))
      by_test false e = same
  busy-more past c (What.Send h q t s) fit fits same = busy-stamped past fit s ∙ same
  busy-more past c (What.Increment h n) fit fits same = by_test (h.0 == g) refl
    where
      by_test : (b : Bool) → (h.0 == g) ≡ b → part.busy (egroup_steps past) g
          ≡ some_left ((if b then log.total past g + n else log.total past g) - log.departed past g (log.applications past g)) (log.busy past g)
      by_test true e =
          let some = subst (λ j. 0 < log.count past j) (eqb-true h.0 g e) fits in
          same ∙ (while_some (log.count past g) (log.busy past g) some
          ∙ sym (while_some (log.total past g + n - log.departed past g (log.applications past g)) (log.busy past g) (omega arith)))
      by_test false e = same
  busy-more past c What.EndGroup fit fits same = busy-left past fit (open_stamp past c) fits same
  busy-more past c (What.End lost cells) fit fits same = busy-left past fit (open_stamp past c) fits same
  busy-more past c (What.Abort h) fit fits same = by_test (h.0 == g)
    where
      by_test : (b : Bool) → (if b then false else part.busy (egroup_steps past) g)
          ≡ some_left (log.count past g) (if b then false else log.busy past g)
      by_test true = refl
      by_test false = same
  busy-more past c (What.Notify h a) fit fits same = by_test (h.0 == g) refl
    where
      by_test : (b : Bool) → (h.0 == g) ≡ b → part.busy (egroup_steps past) g ≡ some_left (log.count past g) (if b then false else log.busy past g)
      by_test true e = same ∙ with_none (log.count past g) (log.busy past g) (subst (λ j. log.count past j ≡ 0) (eqb-true h.0 g e) fits)
      by_test false e = same
  busy-more past c w fit fits same = same

  pub same-busy : (past : Past) → AreFitting past → part.busy (egroup_steps past) g ≡ some_left (log.count past g) (log.busy past g)
  same-busy [] fit = refl
  same-busy (e ∷ past) fit = busy-more past e.core.0 e.what fit.1 fit.0 (same-busy past fit.1)

pub egroups-alike : (k : Declarations) (l : Limits) (past : Past) → AllAllowed k l past → EgroupsAlike past
egroups-alike k l past all =
    let fit = all-fitting k l past all in
    record {
      applications = λ g. same-applications g past;
      few = applications-few past;
      total = λ g. same-total g past;
      notes = λ g. same-notes g past;
      members = λ g a. same-members g a past fit;
      departed = λ g a. same-departed g a past fit;
      count = λ g. same-count g past fit;
      busy = λ g. same-busy g past fit;
    }
