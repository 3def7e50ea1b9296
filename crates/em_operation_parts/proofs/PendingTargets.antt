-- What an operation does to its target stands while the operation is not done.
use Rattle.std.proofs.Common.{◌≡◌, ℕ, ◌==◌, Bool, true, false, List, [], ◌∷◌, Option, Some, None, if◌then◌else◌, refl, sym, ◌∙◌, subst, ap}
use Rattle.std.specs.Option.{option_map_or}
use Rattle.std.proofs.lemmas.Bool.{eq-eqb}
use Rattle.em_log.specs.declared.declarations.Declarations.{Declarations}
use Rattle.em_log.specs.declared.entry.Begun.{Begun}
use Rattle.em_log.specs.declared.entry.What.{What}
use Rattle.em_log.specs.declared.ids.EoState.{EoState}
use Rattle.em_log.specs.declared.ids.Limits.{Limits}
use Rattle.em_log.specs.declared.ids.Note.{Note}
use Rattle.em_log.specs.declared.ids.OpId.{OpId}
use Rattle.em_log.specs.History.{Past, entry_by}
use Rattle.em_log.specs.Lawful.{AllAllowed}
use Rattle.em_log.specs.Leads.{aims_at_object, aims_at_group}
use Rattle.em_log.specs.Operations.{Operation, operation, done}
use Rattle.em_log.specs.States.{state, state_begun, state_done, change, change_begun, change_done}
use Rattle.em_moments.proofs.Moments.{Moment, DoneMoment, allowed-moment}
use Rattle.em_laws.proofs.Begun.{BegunAfter, BegunBefore, BeginsNow, begun-after, none-pending, numbered, alone, Guards, guards-object, guards-group, undone-before}
use Rattle.em_laws.proofs.Cores.{Compared, Same, Other, compared, none-some}
use Rattle.em_laws.proofs.Dones.{Completes, CompletesChange, CompletesStart, FailsStart, CompletesStop, done-completes}
use Rattle.em_operation_parts.specs.AckSteps.{target_of, aims_at}

-- what stands of the target of such a job
abbrev pub IsMarked : Declarations → Past → Begun → Type 0
IsMarked k past (Begun.Start x) = state k past x.0 ≡ EoState.Starting
IsMarked k past (Begun.Stop x) = state k past x.0 ≡ EoState.Stopping
IsMarked k past (Begun.Modify g m) = change past g.0 ≡ Some m

abbrev AreMarked : Declarations → Past → Type 0
AreMarked k past = (n : ℕ) (o : Operation) → operation past n ≡ Some o → done past n ≡ None → IsMarked k past o.job

-- whether another job is of the same target
abbrev aims_as : Begun → Begun → Bool
aims_as job other = aims_at (target_of job) other

aims-own : (job : Begun) → aims_as job job ≡ true
aims-own (Begun.Start x) = eq-eqb x.0 x.0 refl
aims-own (Begun.Stop x) = eq-eqb x.0 x.0 refl
aims-own (Begun.Modify g m) = eq-eqb g.0 g.0 refl

guards-as : (job : Begun) → Guards (aims_as job)
guards-as (Begun.Start x) = guards-object x.0
guards-as (Begun.Stop x) = guards-object x.0
guards-as (Begun.Modify g m) = guards-group g.0

-- an operation of another target leaves a state, or a pending change

begun-state : (x : ℕ) (other : Begun) (s : EoState) → aims_at_object x other ≡ false → state_begun x other s ≡ s
begun-state x (Begun.Start y) s is = rw is refl
begun-state x (Begun.Stop y) s is = rw is refl
begun-state x (Begun.Modify g m) s is = refl

done-state : (x : ℕ) (other : Begun) (ok : Bool) (s : EoState) → aims_at_object x other ≡ false → state_done x other ok s ≡ s
done-state x (Begun.Start y) true s is = rw is refl
done-state x (Begun.Start y) false s is = rw is refl
done-state x (Begun.Stop y) ok s is = rw is refl
done-state x (Begun.Modify g m) ok s is = refl

begun-change : (g : ℕ) (other : Begun) (c : Option ℕ) → aims_at_group g other ≡ false → change_begun g other c ≡ c
begun-change g (Begun.Start x) c is = refl
begun-change g (Begun.Stop x) c is = refl
begun-change g (Begun.Modify h m) c is = rw is refl

pub done-change : (g : ℕ) (other : Begun) (c : Option ℕ) → aims_at_group g other ≡ false → change_done g other c ≡ c
done-change g (Begun.Start x) c is = refl
done-change g (Begun.Stop x) c is = refl
done-change g (Begun.Modify h m) c is = rw is refl

module _ (k : Declarations) (past : Past) where
  marked-begun : (d : ℕ) (op : OpId) (other : Begun) (notes : List Note) (job : Begun) → aims_as job other ≡ false → IsMarked k past job
      → IsMarked k (entry_by d (What.Begin op other notes) ∷ past) job
  marked-begun d op other notes (Begun.Start x) apart is = begun-state x.0 other (state k past x.0) apart ∙ is
  marked-begun d op other notes (Begun.Stop x) apart is = begun-state x.0 other (state k past x.0) apart ∙ is
  marked-begun d op other notes (Begun.Modify g m) apart is = begun-change g.0 other (change past g.0) apart ∙ is

  marked-done : (d : ℕ) (op : OpId) (ok : Bool) (o : Operation) (job : Begun) → operation past op.0 ≡ Some o → aims_as job o.job ≡ false → IsMarked k past job
      → IsMarked k (entry_by d (What.Done op ok) ∷ past) job
  marked-done d op ok o (Begun.Start x) at apart is =
      ap (λ p. option_map_or (λ (v : Operation). state_done x.0 v.job ok (state k past x.0)) p (state k past x.0)) at
      ∙ (done-state x.0 o.job ok (state k past x.0) apart ∙ is)
  marked-done d op ok o (Begun.Stop x) at apart is =
      ap (λ p. option_map_or (λ (v : Operation). state_done x.0 v.job ok (state k past x.0)) p (state k past x.0)) at
      ∙ (done-state x.0 o.job ok (state k past x.0) apart ∙ is)
  marked-done d op ok o (Begun.Modify g m) at apart is =
      ap (λ p. option_map_or (λ (v : Operation). change_done g.0 v.job (change past g.0)) p (change past g.0)) at
      ∙ (done-change g.0 o.job (change past g.0) apart ∙ is)

  marked-now : (d : ℕ) (op : OpId) (notes : List Note) (job : Begun) → IsMarked k (entry_by d (What.Begin op job notes) ∷ past) job
  marked-now d op notes (Begun.Start x) = rw (eq-eqb x.0 x.0 refl) refl
  marked-now d op notes (Begun.Stop x) = rw (eq-eqb x.0 x.0 refl) refl
  marked-now d op notes (Begun.Modify g m) = rw (eq-eqb g.0 g.0 refl) refl

  -- entries of any other kind
  marked-kept : (d : ℕ) (w : What) (job : Begun) → ((x : ℕ) → state k (entry_by d w ∷ past) x ≡ state k past x)
      → ((g : ℕ) → change (entry_by d w ∷ past) g ≡ change past g) → IsMarked k past job → IsMarked k (entry_by d w ∷ past) job
  marked-kept d w (Begun.Start x) states changes is = states x.0 ∙ is
  marked-kept d w (Begun.Stop x) states changes is = states x.0 ∙ is
  marked-kept d w (Begun.Modify g m) states changes is = changes g.0 ∙ is

false-by : (b : Bool) → (b ≡ true → ⊥) → b ≡ false
false-by true no_true = absurd (no_true refl)
false-by false no_true = refl

pub completing : (k : Declarations) (past : Past) (n : ℕ) (ok : Bool) → Completes k past n ok → (o : Operation) × (operation past n ≡ Some o) × (done past n ≡ None)
completing k past n ok (CompletesChange o g m at job un e acks) = (o, at, un)
completing k past n ok (CompletesStart o x at job un e global acks) = (o, at, un)
completing k past n ok (FailsStart o x at job un e global) = (o, at, un)
completing k past n ok (CompletesStop o x at job un e global acks) = (o, at, un)

module _ (k : Declarations) (l : Limits) (past : Past) (all : AllAllowed k l past) where
  module _ (marked : AreMarked k past) where
    begin-marked : (d : ℕ) (op : OpId) (job : Begun) (notes : List Note) → Moment k l past d (What.Begin op job notes)
        → AreMarked k (entry_by d (What.Begin op job notes) ∷ past)
    begin-marked d op job notes mo n o at undone = by_begun (begun-after past d (What.Begin op job notes) n o at)
      where
        by_begun : BegunAfter past n o d (What.Begin op job notes) → IsMarked k (entry_by d (What.Begin op job notes) ∷ past) o.job
        by_begun (BeginsNow is core) =
            let one : job ≡ o.job = cc is in
            subst (IsMarked k (entry_by d (What.Begin op job notes) ∷ past)) one (marked-now k past d op notes job)
        by_begun (BegunBefore was) =
            marked-begun k past d op job notes o.job
            (false-by (aims_as o.job job)
            (λ aimed. none-pending past (aims_as o.job) n (numbered k l past all n o was) (guards-as o.job k past d job notes mo.aim aimed)
            (record { started = o; begun = was; aimed = aims-own o.job; undone = undone })))
            (marked n o was undone)

    done-marked : (d : ℕ) (op : OpId) (ok : Bool) → DoneMoment k past d op ok → AreMarked k (entry_by d (What.Done op ok) ∷ past)
    done-marked d op ok mo n o at undone = by_number (compared op.0 n) undone (completing k past op.0 ok (done-completes k l past d op ok all mo))
      where
        before : done past n ≡ None
        before = undone-before past d (What.Done op ok) n undone

        by_number : Compared op.0 n → (if op.0 == n then Some ok else done past n) ≡ None
            → (p : Operation) × (operation past op.0 ≡ Some p) × (done past op.0 ≡ None) → IsMarked k (entry_by d (What.Done op ok) ∷ past) o.job
        by_number (Same t e) undone p = absurd (none-some ok (sym undone ∙ rw t refl))
        by_number (Other f apart) undone p =
            marked-done k past d op ok p.0 o.job p.1
            (false-by (aims_as o.job p.0.job)
            (λ aimed. apart (alone k l past (aims_as o.job) (guards-as o.job) all op.0 n (record { started = p.0; begun = p.1; aimed = aimed; undone = p.2 })
            (record { started = o; begun = at; aimed = aims-own o.job; undone = before }))))
            (marked n o at before)

    next-marked : (d : ℕ) (w : What) → Moment k l past d w → AreMarked k (entry_by d w ∷ past)
    next-marked d (What.Begin op job notes) mo = begin-marked d op job notes mo
    next-marked d (What.Done op ok) mo = done-marked d op ok mo
    next-marked d w mo = λ n o at undone. marked-kept k past d w o.job (λ x. refl) (λ g. refl) (marked n o at undone)

pub are-marked : (k : Declarations) (l : Limits) (past : Past) → AllAllowed k l past → (n : ℕ) (o : Operation) → operation past n ≡ Some o → done past n ≡ None
    → IsMarked k past o.job
are-marked k l [] all = λ n o at undone. absurd (none-some o at)
are-marked k l (e ∷ past) all =
    next-marked k l past all.1 (are-marked k l past all.1) e.core.0 e.what (allowed-moment k l past e all.1 all.0)

-- an operation that is done now was pending
pub done-marked_before : (k : Declarations) (l : Limits) (past : Past) (d : ℕ) (op : OpId) (ok : Bool) (o : Operation) → AllAllowed k l past → DoneMoment k past d op ok
    → operation past op.0 ≡ Some o → IsMarked k past o.job
done-marked_before k l past d op ok o all mo at =
    let c = completing k past op.0 ok (done-completes k l past d op ok all mo) in are-marked k l past all op.0 o at c.2
