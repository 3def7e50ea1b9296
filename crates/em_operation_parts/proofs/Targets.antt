-- What the parts tell of the target of an operation that is not done.
use Rattle.std.proofs.Common.{◌≡◌, ℕ, ◌<◌, ◌==◌, Bool, true, false, List, [], ◌∷◌, Option, Some, None, if◌then◌else◌, refl, sym, ◌∙◌, ap, arith}
use Rattle.std.specs.Option.{option_and_then, option_map_or}
use Rattle.std.proofs.lemmas.Bool.{eq-eqb}
use Rattle.em_log.specs.declared.declarations.Declarations.{Declarations}
use Rattle.em_log.specs.declared.entry.Begun.{Begun}
use Rattle.em_log.specs.declared.entry.What.{What}
use Rattle.em_log.specs.declared.ids.GroupId.{GroupId}
use Rattle.em_log.specs.declared.ids.Limits.{Limits}
use Rattle.em_log.specs.declared.ids.Note.{Note}
use Rattle.em_log.specs.declared.ids.OpId.{OpId}
use Rattle.em_log.specs.History.{Past, entry_by}
use Rattle.em_log.specs.Lawful.{AllAllowed}
use Rattle.em_log.specs.Leads.{aims_at_group}
use Rattle.em_log.specs.Operations.{Operation, operation, operations, done, pending}
use Rattle.em_log.specs.Operations as log
use Rattle.em_log.specs.States.{change, change_begun, change_done}
use Rattle.em_moments.proofs.Moments.{Moment, DoneMoment, allowed-moment}
use Rattle.em_laws.proofs.Begun.{begun-kept, IsPending, none-pending, numbered}
use Rattle.em_laws.proofs.Cores.{Compared, Same, Other, compared, none-some, some-inj}
use Rattle.em_laws.proofs.Dones.{done-completes, finished, AllFinished}
use Rattle.em_laws.proofs.Steps.{always-here}
use Rattle.em_acks.specs.declared.job.Phase.{Phase}
use Rattle.em_acks.specs.Operations.{owed_to}
use Rattle.em_operation_parts.specs.AckSteps.{ack_steps, phase_of}
use Rattle.em_operation_parts.specs.Targets.{IsUnderWay, TargetsAlike}
use Rattle.em_operation_parts.proofs.CompleteOperations.{finished-begun, owed-undone}
use Rattle.em_operation_parts.proofs.GroupMasks.{same-change}
use Rattle.em_operation_parts.proofs.ObjectStates.{same-state}
use Rattle.em_operation_parts.proofs.OwedSteps.{same-owed}
use Rattle.em_operation_parts.proofs.PendingTargets.{IsMarked, are-marked, completing, done-change}

-- the mask that a group is being given is that of a change that is not done

abbrev AreGiven : Past → Type 0
AreGiven past = (g m : ℕ) → change past g ≡ Some m → (n : ℕ) × IsPending past (aims_at_group g) n

undone-now : (k : Declarations) (l : Limits) (past : Past) (n : ℕ) → AllAllowed k l past → n ≡ operations past → done past n ≡ None
undone-now k l past n all new = by_done (done past n) refl
  where
    by_done : (o : Option Bool) → done past n ≡ o → o ≡ None
    by_done None is = refl
    by_done (Some b) is =
        let o = finished-begun k past n (always-here (AllFinished k) past (finished k l past all) n b is) in
        let lt = numbered k l past all n o.0 o.1 in
        absurd (omega (arith, lt, new))

module _ (k : Declarations) (l : Limits) (past : Past) (all : AllAllowed k l past) (given : AreGiven past) where
  begin-given : (d : ℕ) (op : OpId) (job : Begun) (notes : List Note) → Moment k l past d (What.Begin op job notes) → AreGiven (entry_by d (What.Begin op job notes) ∷ past)
  begin-given d op job notes mo g m is = by_job job refl is
    where
      now : Past
      now = entry_by d (What.Begin op job notes) ∷ past

      kept : change past g ≡ Some m → (n : ℕ) × IsPending now (aims_at_group g) n
      kept was =
          let p = given g m was in (
            p.0,
            record {
              started = p.1.started;
              begun = begun-kept k l past d (What.Begin op job notes) p.0 p.1.started all mo p.1.begun;
              aimed = p.1.aimed;
              undone = p.1.undone;
            },
          )

      by_group : (h : GroupId) (new : ℕ) → job ≡ Begun.Modify h new → Compared h.0 g → (if h.0 == g then Some new else change past g) ≡ Some m
          → (n : ℕ) × IsPending now (aims_at_group g) n
      by_group h new at (Same t e) is = (
        op.0,
        record {
          started = record { core = d; job = job; notes = notes };
          begun = rw (eq-eqb op.0 op.0 refl) refl;
          aimed = ap (aims_at_group g) at ∙ t;
          undone = undone-now k l past op.0 all (ap (λ (i : OpId). i.0) mo.number);
        },
      )
      by_group h new at (Other f e) is = kept (rw f at is)

      by_job : (j : Begun) → job ≡ j → change_begun g j (change past g) ≡ Some m → (n : ℕ) × IsPending now (aims_at_group g) n
      by_job (Begun.Start x) at is = kept is
      by_job (Begun.Stop x) at is = kept is
      by_job (Begun.Modify h new) at is = by_group h new at (compared h.0 g) is

  done-given : (d : ℕ) (op : OpId) (ok : Bool) → DoneMoment k past d op ok → AreGiven (entry_by d (What.Done op ok) ∷ past)
  done-given d op ok mo g m is =
      let c = completing k past op.0 ok (done-completes k l past d op ok all mo) in
      by_aim c.0 c.1 (aims_at_group g c.0.job) refl
      (sym (ap (λ p. option_map_or (λ (v : Operation). change_done g v.job (change past g)) p (change past g)) c.1) ∙ is)
    where
      now : Past
      now = entry_by d (What.Done op ok) ∷ past

      done-own : (j : Begun) → aims_at_group g j ≡ true → change_done g j (change past g) ≡ None
      done-own (Begun.Start x) aimed = absurd cc
      done-own (Begun.Stop x) aimed = absurd cc
      done-own (Begun.Modify h new) aimed = rw aimed refl

      by_number : (o : Operation) → operation past op.0 ≡ Some o → aims_at_group g o.job ≡ false → (n : ℕ) → IsPending past (aims_at_group g) n → Compared op.0 n
          → IsPending now (aims_at_group g) n
      by_number o at apart n p (Same t e) =
          let one : o ≡ p.started = some-inj _ _ (sym at ∙ (ap (operation past) e ∙ p.begun)) in
          absurd (cc (apart, p.aimed, ap (λ (v : Operation). aims_at_group g v.job) one))
      by_number o at apart n p (Other f e) = record { started = p.started; begun = p.begun; aimed = p.aimed; undone = rw f p.undone }

      by_aim : (o : Operation) → operation past op.0 ≡ Some o → (b : Bool) → aims_at_group g o.job ≡ b → change_done g o.job (change past g) ≡ Some m
          → (n : ℕ) × IsPending now (aims_at_group g) n
      by_aim o at true aimed is = absurd (none-some m (sym (done-own o.job aimed) ∙ is))
      by_aim o at false apart is =
          let p = given g m (sym (done-change g o.job (change past g) apart) ∙ is) in (p.0, by_number o at apart p.0 p.1 (compared op.0 p.0))

  next-given : (d : ℕ) (w : What) → Moment k l past d w → AreGiven (entry_by d w ∷ past)
  next-given d (What.Begin op job notes) mo = begin-given d op job notes mo
  next-given d (What.Done op ok) mo = done-given d op ok mo
  next-given d w mo = λ g m is.
      let p = given g m is in (p.0, record { started = p.1.started; begun = p.1.begun; aimed = p.1.aimed; undone = p.1.undone })

are-given : (k : Declarations) (l : Limits) (past : Past) → AllAllowed k l past → AreGiven past
are-given k l [] all = λ g m is. absurd (none-some m is)
are-given k l (e ∷ past) all = next-given k l past all.1 (are-given k l past all.1) e.core.0 e.what (allowed-moment k l past e all.1 all.0)

module _ (k : Declarations) (l : Limits) (past : Past) (all : AllAllowed k l past) where
  none-given : (g : ℕ) → pending past (aims_at_group g) ≡ None → change past g ≡ None
  none-given g none = by_change (change past g) refl
    where
      by_change : (o : Option ℕ) → change past g ≡ o → o ≡ None
      by_change None is = refl
      by_change (Some m) is =
          let p = are-given k l past all g m is in
          absurd (none-pending past (aims_at_group g) p.0 (numbered k l past all p.0 p.1.started p.1.begun) none p.1)

  under-way : (job : Begun) → IsMarked k past job → IsUnderWay k past job
  under-way (Begun.Start x) is = same-state k x.0 past ∙ is
  under-way (Begun.Stop x) is = same-state k x.0 past ∙ is
  under-way (Begun.Modify g m) is = same-change past g.0 ∙ is

  pub step-undone : (c n : ℕ) (p : Phase) → c < k.cores → owed_to k.cores (ack_steps past) c n ≡ Some p → done past n ≡ None
  step-undone c n p lt owed = by_owed (log.owed_to k past c n) refl (sym (same-owed k l past all c n) ∙ owed)
    where
      by_owed : (o : Option What) → log.owed_to k past c n ≡ o → option_and_then phase_of o ≡ Some p → done past n ≡ None
      by_owed None is h = absurd (none-some p h)
      by_owed (Some w) is h = owed-undone k l past all c n w lt is

pub targets-alike : (k : Declarations) (l : Limits) (past : Past) → AllAllowed k l past → TargetsAlike k past
targets-alike k l past all = record {
  under_way = λ n o at undone. under-way k l past all o.job (are-marked k l past all n o at undone);
  unchanged = λ g none. same-change past g ∙ none-given k l past all g none;
  undone = step-undone k l past all;
}
