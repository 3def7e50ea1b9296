-- A receive of an application that is not the current one leaves its group: the event groups stand for one step more.
use Rattle.std.proofs.Common.{◌≡◌, ℕ, suc, ◌<◌, ◌==◌, ◌&&◌, Bool, true, false, List, ◌∷◌, Some, None, is_some, if◌then◌else◌, arith, refl, ap, sym, ◌∙◌, subst, ⊎_elim}
use Rattle.std.proofs.lemmas.Bool.{cases_eq, eq-eqb, ne_eqb, lt-leb, and_right, and_left}
use Rattle.em_log.specs.declared.ids.Stamp.{Stamp}
use Rattle.em_log.specs.EventGroups.{is_stamp}
use Rattle.em_egroups.specs.declared.group.Group.{Group}
use Rattle.em_egroups.specs.Steps.{EgroupStep, Left}
use Rattle.em_egroups.specs.Applications.{applications, applied_notes, total, has_begun, departed, count, busy}
use Rattle.em_egroups.specs.State.{group_at, has_current, is_busy}
use Rattle.em_egroups.specs.Stands.{Stands, StandsIn}

by_truth : {P : Type 0} (b : Bool) → (b ≡ true → P) → (b ≡ false → P) → P
by_truth true on off = on refl
by_truth false on off = off refl

same_false : (b : Bool) → (if b then false else false) ≡ false
same_false true = refl
same_false false = refl

not_stamp : (g a : ℕ) (stamp : Stamp) → (stamp.group.0 ≡ g → stamp.app ≡ a → true ≡ false) → is_stamp g a (Some stamp) ≡ false
not_stamp g a stamp apart =
    ⊎_elim
    (λ same. ⊎_elim (λ it. absurd (cc (apart same it)))
    (λ ne. and_right (stamp.group.0 == g) (stamp.app == a) (ne_eqb stamp.app a ne)) (cases_eq stamp.app a))
    (λ ne. and_left (stamp.group.0 == g) (stamp.app == a) (ne_eqb stamp.group.0 g ne)) (cases_eq stamp.group.0 g)

not_begun : (s : List EgroupStep) (g a : ℕ) (stamp : Stamp) → applications s g < a → (is_stamp g a (Some stamp) && has_begun s stamp) ≡ false
not_begun s g a stamp lt =
    ⊎_elim (λ same. ⊎_elim (λ it. and_right (is_stamp g a (Some stamp)) (has_begun s stamp) (to_come same it))
    (λ ne. and_left (is_stamp g a (Some stamp)) (has_begun s stamp) (not_stamp g a stamp (λ same it. absurd (ne it)))) (cases_eq stamp.app a))
    (λ ne. and_left (is_stamp g a (Some stamp)) (has_begun s stamp) (not_stamp g a stamp (λ same it. absurd (ne same)))) (cases_eq stamp.group.0 g)
  where
    to_come : stamp.group.0 ≡ g → stamp.app ≡ a → has_begun s stamp ≡ false
    to_come same it = let at = ap (applications s) same in lt-leb stamp.app (applications s stamp.group.0) (omega arith)

module _ {v : List Group} {s : List EgroupStep} (stands : Stands v s) (stamp : Stamp)
    (stale : has_current (group_at v stamp.group.0) stamp.app ≡ false) (g : ℕ) where
  busy-is : is_busy (group_at v g) ≡ busy s g
  busy-is = ap is_some (stands.each g).notes_are ∙ of_busy (busy s g)
    where
      of_busy : (b : Bool) → is_some (if b then Some (applied_notes s g) else None) ≡ b
      of_busy true = refl
      of_busy false = refl

  not_counted : (a : ℕ) → is_stamp g a (Some stamp) ≡ false → departed (Left stamp ∷ s) g a ≡ departed s g a
  not_counted a apart = ap (λ b. if b && has_begun s stamp then suc (departed s g a) else departed s g a) apart

  not_current : busy s g ≡ true → departed (Left stamp ∷ s) g (applications s g) ≡ departed s g (applications s g)
  not_current is_on =
      not_counted (applications s g) (not_stamp g (applications s g) stamp (λ same it.
      let at = subst (λ h. is_busy (group_at v h) ≡ true) (sym same) (busy-is ∙ is_on) in
      let number = (stands.each stamp.group.0).applications_are ∙ (ap (applications s) same ∙ sym it) in
      sym (ap (λ t. t && ((group_at v stamp.group.0).applications == stamp.app)) at
      ∙ eq-eqb (group_at v stamp.group.0).applications stamp.app number)
      ∙ stale))

  not_to_come : (a : ℕ) → applications s g < a → departed (Left stamp ∷ s) g a ≡ departed s g a
  not_to_come a lt = ap (λ b. if b then suc (departed s g a) else departed s g a) (not_begun s g a stamp lt)

  busy-same : busy (Left stamp ∷ s) g ≡ busy s g
  busy-same =
      by_truth (busy s g)
      (λ is_on.
      let less = (stands.each g).open_count is_on in
      let same = not_current is_on in
      ap (λ t. if t then false else busy s g) (ne_eqb (count (Left stamp ∷ s) g) 0 (λ e. omega arith)))
      (λ is_off.
      ap (λ t. if count (Left stamp ∷ s) g == 0 then false else t) is_off
      ∙ (same_false (count (Left stamp ∷ s) g == 0) ∙ sym is_off))

  stale-stands_in : StandsIn (group_at v g) (Left stamp ∷ s) g
  stale-stands_in =
      let was = stands.each g in
      record {
        applications_are = was.applications_are;
        total_is = was.total_is;
        members_are = was.members_are;
        departed_are = λ is_on. let on = sym busy-same ∙ is_on in was.departed_are on ∙ sym (not_current on);
        notes_are = was.notes_are ∙ ap (λ b. if b then Some (applied_notes s g) else None) (sym busy-same);
        open_count = λ is_on. let on = sym busy-same ∙ is_on in subst (λ n. n < total s g) (sym (not_current on)) (was.open_count on);
        unsent = was.unsent;
        undeparted = λ a lt. not_to_come a lt ∙ was.undeparted a lt;
      }

pub stale-stands : {v : List Group} {s : List EgroupStep} → Stands v s → (stamp : Stamp) → has_current (group_at v stamp.group.0) stamp.app ≡ false → Stands v (Left stamp ∷ s)
stale-stands stands stamp stale = record { each = λ g. stale-stands_in stands stamp stale g }
