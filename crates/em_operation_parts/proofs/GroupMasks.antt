-- The masks of the steps of queue groups are those of the history.
use Rattle.std.proofs.Common.{◌≡◌, ℕ, ◌==◌, true, false, List, [], ◌∷◌, Option, Some, None, if◌then◌else◌, refl, sym, subst, ap, ◌∙◌}
use Rattle.std.specs.Option.{option_map_or}
use Rattle.em_log.specs.declared.declarations.Declarations.{Declarations}
use Rattle.em_log.specs.declared.entry.Begun.{Begun}
use Rattle.em_log.specs.declared.entry.What.{What}
use Rattle.em_log.specs.declared.ids.GroupId.{GroupId}
use Rattle.em_log.specs.declared.ids.Limits.{Limits}
use Rattle.em_log.specs.History.{Past}
use Rattle.em_log.specs.Declarations.{group_of}
use Rattle.em_log.specs.Eligible.{has_core}
use Rattle.em_log.specs.Lawful.{AllAllowed}
use Rattle.em_log.specs.Operations.{Operation, operation}
use Rattle.em_log.specs.States.{within_change}
use Rattle.em_log.specs.States as log
use Rattle.em_moments.proofs.Moments.{Moment, allowed-moment}
use Rattle.em_laws.proofs.Cores.{Compared, Same, Other, compared}
use Rattle.em_groups.specs.Steps.{GroupStep}
use Rattle.em_groups.specs.Masks.{change, mask, effective, or_stays}
use Rattle.em_operation_parts.specs.GroupSteps.{begun_steps, done_steps, group_after, group_steps, touches_groups}
use Rattle.em_operation_parts.specs.GroupsAlike.{GroupsAlike}
use Rattle.em_operation_parts.proofs.PendingTargets.{IsMarked, done-marked_before}

-- pending changes

change-begun : (j : Begun) (s : List GroupStep) (g : ℕ) → change (begun_steps j s) g ≡ log.change_begun g j (change s g)
change-begun (Begun.Modify h m) s g = refl
change-begun (Begun.Start x) s g = refl
change-begun (Begun.Stop x) s g = refl

change-done : (j : Begun) (s : List GroupStep) (g : ℕ) → change (done_steps j s) g ≡ log.change_done g j (change s g)
change-done (Begun.Modify h m) s g = refl
change-done (Begun.Start x) s g = refl
change-done (Begun.Stop x) s g = refl

change-completed : (o : Option Operation) (s : List GroupStep) (g : ℕ)
    → change (option_map_or (λ (p : Operation). done_steps p.job s) o s) g ≡ option_map_or (λ (p : Operation). log.change_done g p.job (change s g)) o (change s g)
change-completed None s g = refl
change-completed (Some o) s g = change-done o.job s g

change-after : (past : Past) (w : What) (s : List GroupStep) (g : ℕ) → change (group_after past w s) g ≡ log.change_after past g w (change s g)
change-after past (What.Begin op job notes) s g = change-begun job s g
change-after past (What.Done op ok) s g = change-completed (operation past op.0) s g
change-after past w s g = refl

pub same-change : (past : Past) (g : ℕ) → change (group_steps past) g ≡ log.change past g
same-change [] g = refl
same-change (e ∷ past) g = change-after past e.what (group_steps past) g ∙ ap (log.change_after past g e.what) (same-change past g)

-- masks

module _ (k : Declarations) where
  mask-begun : (j : Begun) (s : List GroupStep) (g : ℕ) → mask k (begun_steps j s) g ≡ mask k s g
  mask-begun (Begun.Modify h m) s g = refl
  mask-begun (Begun.Start x) s g = refl
  mask-begun (Begun.Stop x) s g = refl

  -- a change that is done gives the mask that the steps tell
  mask-done : (past : Past) (g : ℕ) (j : Begun) → ((h : GroupId) (m : ℕ) → j ≡ Begun.Modify h m → log.change past h.0 ≡ Some m)
      → mask k (done_steps j (group_steps past)) g ≡ log.mask_done g j (mask k (group_steps past) g)
  mask-done past g (Begun.Modify h m) given = by_test (compared h.0 g)
    where
      was : ℕ
      was = mask k (group_steps past) g

      by_test : Compared h.0 g → (if h.0 == g then or_stays was (change (group_steps past) g) else was) ≡ (if h.0 == g then m else was)
      by_test (Same t e) =
          ap (λ o. if h.0 == g then or_stays was o else was)
          (same-change past g ∙ (ap (log.change past) (sym e) ∙ given h m refl))
      by_test (Other f _) = rw f refl
  mask-done past g (Begun.Start x) given = refl
  mask-done past g (Begun.Stop x) given = refl

  mask-completed : (past : Past) (g : ℕ) (o : Option Operation)
      → ((p : Operation) (h : GroupId) (m : ℕ) → o ≡ Some p → p.job ≡ Begun.Modify h m → log.change past h.0 ≡ Some m)
      → mask k (option_map_or (λ (p : Operation). done_steps p.job (group_steps past)) o (group_steps past)) g
      ≡ option_map_or (λ (p : Operation). log.mask_done g p.job (mask k (group_steps past) g)) o (mask k (group_steps past) g)
  mask-completed past g None given = refl
  mask-completed past g (Some o) given = mask-done past g o.job (λ h m is. given o h m refl is)

  mask-after : (l : Limits) (past : Past) (c : ℕ) (w : What) (g : ℕ) → AllAllowed k l past → Moment k l past c w
      → mask k (group_after past w (group_steps past)) g ≡ log.mask_after past g w (mask k (group_steps past) g)
  mask-after l past c (What.Begin op job notes) g all m = mask-begun job (group_steps past) g
  mask-after l past c (What.Done op ok) g all m =
      mask-completed past g (operation past op.0) (λ o h new at job. subst (IsMarked k past) job (done-marked_before k l past c op ok o all m at))
  mask-after l past c w g all m = refl

  pub same-mask : (l : Limits) (past : Past) → AllAllowed k l past → (g : ℕ) → mask k (group_steps past) g ≡ log.mask k past g
  same-mask l [] all g = refl
  same-mask l (e ∷ past) all g =
      mask-after l past e.core.0 e.what g all.1 (allowed-moment k l past e all.1 all.0) ∙ ap (log.mask_after past g e.what) (same-mask l past all.1 g)

pub same-effective : (k : Declarations) (l : Limits) (past : Past) → AllAllowed k l past → (g : ℕ) → effective k (group_steps past) g ≡ log.effective k past g
same-effective k l past all g = (λ i. within_change (same-mask k l past all g i) (same-change past g i))

pub groups-alike : (k : Declarations) (l : Limits) (past : Past) → AllAllowed k l past → GroupsAlike k past
groups-alike k l past all = record {
  mask = same-mask k l past all;
  change = same-change past;
  effective = same-effective k l past all;
  in_group = λ c q. by_group c (group_of k q);
}
  where
    by_group : (c : ℕ) (o : Option ℕ)
        → option_map_or (λ g. has_core (effective k (group_steps past) g) c) o true ≡ option_map_or (λ g. has_core (log.effective k past g) c) o true
    by_group c None = refl
    by_group c (Some g) = ap (λ m. has_core m c) (same-effective k l past all g)

pub groups-untouched : (past : Past) (w : What) (steps : List GroupStep) → touches_groups w ≡ false → group_after past w steps ≡ steps
groups-untouched past (What.Begin op (Begun.Modify g m) notes) steps is = absurd cc
groups-untouched past (What.Begin op (Begun.Start x) notes) steps is = refl
groups-untouched past (What.Begin op (Begun.Stop x) notes) steps is = refl
groups-untouched past (What.Done op ok) steps is = absurd cc
groups-untouched past w steps is = refl
