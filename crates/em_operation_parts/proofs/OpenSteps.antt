-- The step whose context a core has open is still owed.
use Rattle.std.proofs.Common.{◌≡◌, ℕ, ◌<◌, ◌==◌, Bool, true, false, [], ◌∷◌, Option, Some, None, if◌then◌else◌, refl, sym, ◌∙◌, subst, ap, arith}
use Rattle.std.specs.Option.{option_and_then}
use Rattle.std.proofs.lemmas.Bool.{eq-eqb}
use Rattle.em_log.specs.declared.declarations.Declarations.{Declarations}
use Rattle.em_log.specs.declared.entry.Begun.{Begun}
use Rattle.em_log.specs.declared.entry.Body.{Body}
use Rattle.em_log.specs.declared.entry.What.{What}
use Rattle.em_log.specs.declared.ids.EoId.{EoId}
use Rattle.em_log.specs.declared.ids.Limits.{Limits}
use Rattle.em_log.specs.declared.ids.OpId.{OpId}
use Rattle.em_log.specs.History.{Past, entry_by, has}
use Rattle.em_log.specs.Contexts.{context}
use Rattle.em_log.specs.Lawful.{AllAllowed}
use Rattle.em_log.specs.Operations.{Operation, operation, global_done, acked, all_acked, last_acker, op_id}
use Rattle.em_log.specs.Operations as log
use Rattle.em_moments.proofs.Moments.{Moment, allowed-moment}
use Rattle.em_laws.proofs.Acks.{all-acked-has, all-acked-more}
use Rattle.em_laws.proofs.Begun.{begun-kept}
use Rattle.em_laws.proofs.Cores.{Compared, Same, Other, compared, none-some, some-inj}
use Rattle.em_laws.proofs.Steps.{InStep, InBoot, InGlobalStart, InLocalStart, InLocalStop, InGlobalStop, Contexts, contexts, always-here, Finishing, FinishingStart, FinishingStop, global-ends}
use Rattle.em_acks.specs.declared.job.Phase.{Phase}
use Rattle.em_acks.specs.Operations.{owed_to}
use Rattle.em_acks.specs.Stands.{Stands}
use Rattle.em_acks.specs.State.{AckState, owed_at}
use Rattle.em_acks.proofs.Reading.{owed-is}
use Rattle.em_operation_parts.specs.AckSteps.{ack_steps, step_in, phase_of}
use Rattle.em_operation_parts.proofs.OwedSteps.{same-owed}

-- a stop whose global step has ended was acknowledged by every core

record IsEnded (k : Declarations) (past : Past) (n : ℕ) : Type 0 where
  begun : Operation
  at : operation past n ≡ Some begun
  stop : (x : EoId) → begun.job ≡ Begun.Stop x → all_acked k past n ≡ true

AreEnded : Declarations → Past → Type 0
AreEnded k past = (n : ℕ) (ok : Bool) → global_done past n ≡ Some ok → IsEnded k past n

ended-kept : (k : Declarations) (l : Limits) (past : Past) (d : ℕ) (w : What) (n : ℕ) → AllAllowed k l past → Moment k l past d w → IsEnded k past n → IsEnded k (entry_by d w ∷ past) n
ended-kept k l past d w n all m e =
    record { begun = e.begun; at = begun-kept k l past d w n e.begun all m e.at; stop = λ x job. all-acked-more k past d w n (e.stop x job) }

finishing-ended : (k : Declarations) (past : Past) (d n : ℕ) → Finishing k past d n → IsEnded k past n
finishing-ended k past d n (FinishingStart o x at job none core) = record { begun = o; at = at; stop = λ y is. absurd (cc (job, is)) }
finishing-ended k past d n (FinishingStop o x at job none acks last) = record { begun = o; at = at; stop = λ y is. acks }

next-ended : (k : Declarations) (l : Limits) (past : Past) (d : ℕ) (w : What) → AllAllowed k l past → AreEnded k past → Moment k l past d w → AreEnded k (entry_by d w ∷ past)
unfolding AreEnded
next-ended k l past d (What.GlobalDone op ok) all older m = λ n v is. by_number n v (compared op.0 n) is
  where
    by_number : (n : ℕ) (v : Bool) → Compared op.0 n → (if op.0 == n then Some ok else global_done past n) ≡ Some v → IsEnded k (entry_by d (What.GlobalDone op ok) ∷ past) n
    by_number n v (Same t e) is =
        ended-kept k l past d (What.GlobalDone op ok) n all m
        (subst (λ (i : ℕ). IsEnded k past i) e (finishing-ended k past d op.0 (global-ends k past d op ok (contexts k l past all) m).finishing))
    by_number n v (Other f apart) is = ended-kept k l past d (What.GlobalDone op ok) n all m (older n v (rw f at is))
next-ended k l past d w all older m = λ n v is. ended-kept k l past d w n all m (older n v is)

are-ended : (k : Declarations) (l : Limits) (past : Past) → AllAllowed k l past → AreEnded k past
unfolding AreEnded
are-ended k l [] all = λ n ok is. absurd (none-some ok is)
are-ended k l (e ∷ past) all = next-ended k l past e.core.0 e.what all.1 (are-ended k l past all.1) (allowed-moment k l past e all.1 all.0)

-- the global step of a stop has not ended while a core has still to acknowledge the stop
unended : (k : Declarations) (l : Limits) (past : Past) (c n : ℕ) (o : Operation) (x : EoId) → c < k.cores → AllAllowed k l past → operation past n ≡ Some o → o.job ≡ Begun.Stop x
    → has (acked past n) c ≡ false → global_done past n ≡ None
unfolding AreEnded
unended k l past c n o x lt all at job un = by_ended (global_done past n) refl
  where
    by_ended : (g : Option Bool) → global_done past n ≡ g → g ≡ None
    by_ended None is = refl
    by_ended (Some ok) is =
        let e = are-ended k l past all n ok is in
        let one : o ≡ e.begun = some-inj _ _ (sym at ∙ e.at) in
        let acks = e.stop x (sym (ap (λ (p : Operation). p.job) one) ∙ job) in
        absurd (cc (un, all-acked-has k past n c acks lt))

-- open contexts

same-number : (b v : Body) (n : ℕ) (p : Phase) (r : OpId × Phase) → b ≡ v → step_in v ≡ Some (op_id n, p) → step_in b ≡ Some r → n ≡ r.0.0
same-number b v n p r e at is = ap (λ (s : OpId × Phase). s.0.0) (some-inj (op_id n, p) r (sym at ∙ (sym (ap step_in e) ∙ is)))

owed-by_step : (k : Declarations) (l : Limits) (past : Past) (c : ℕ) (b : Body) → c < k.cores → AllAllowed k l past → InStep k past c b
    → (r : OpId × Phase) → step_in b ≡ Some r → log.owed_to k past c r.0.0 ≡ Some (What.Enter b)
owed-by_step k l past c b lt all (InBoot e) r is = absurd (none-some r (sym (ap step_in e) ∙ is))
owed-by_step k l past c b lt all (InGlobalStart n o x e at job none core) r is =
    subst (λ (i : ℕ). log.owed_to k past c i ≡ Some (What.Enter b)) (same-number b _ n Phase.Global r e refl is)
    (rw (at, none, job, core, eq-eqb c c refl, e) refl)
owed-by_step k l past c b lt all (InLocalStart n o x e at job started un) r is =
    subst (λ (i : ℕ). log.owed_to k past c i ≡ Some (What.Enter b)) (same-number b _ n Phase.Local r e refl is) (rw (at, started, job, un, e) refl)
owed-by_step k l past c b lt all (InLocalStop n o x e at job un) r is =
    let none = unended k l past c n o x lt all at job un in
    subst (λ (i : ℕ). log.owed_to k past c i ≡ Some (What.Enter b)) (same-number b _ n Phase.Local r e refl is) (rw (at, none, job, un, e) refl)
owed-by_step k l past c b lt all (InGlobalStop n o x e at job none acks last) r is =
    let acked_now = all-acked-has k past n c acks lt in
    subst (λ (i : ℕ). log.owed_to k past c i ≡ Some (What.Enter b)) (same-number b _ n Phase.Global r e refl is)
    (rw (at, none, job, acked_now, last, eq-eqb c c refl, e) refl)

-- by the history
pub open-owed : (k : Declarations) (l : Limits) (past : Past) (c : ℕ) (b : Body) (r : OpId × Phase) → c < k.cores → AllAllowed k l past → context past c ≡ Some (What.Enter b)
    → step_in b ≡ Some r → log.owed_to k past c r.0.0 ≡ Some (What.Enter b)
open-owed k l past c b r lt all entered is =
    owed-by_step k l past c b lt all ((always-here (Contexts k) past (contexts k l past all)).steps c b entered) r is

-- by the steps of the operations
pub open-owed_to : (k : Declarations) (l : Limits) (past : Past) (c : ℕ) (b : Body) (r : OpId × Phase) → c < k.cores → AllAllowed k l past → context past c ≡ Some (What.Enter b)
    → step_in b ≡ Some r → owed_to k.cores (ack_steps past) c r.0.0 ≡ Some r.1
open-owed_to k l past c b r lt all entered is =
    let owed = open-owed k l past c b r lt all entered is in
    same-owed k l past all c r.0.0 ∙ (ap (option_and_then phase_of) owed ∙ rw is refl)

-- and by what is kept of them
pub open-owed_at : (k : Declarations) (l : Limits) (past : Past) → AllAllowed k l past → (v : AckState) → Stands v (ack_steps past) → v.cores ≡ k.cores
    → (c : ℕ) (b : Body) (r : OpId × Phase) → c < k.cores → context past c ≡ Some (What.Enter b) → step_in b ≡ Some r → owed_at v c r.0.0 ≡ Some r.1
open-owed_at k l past all v stands cores c b r lt entered is =
    owed-is stands c r.0.0 (omega (arith, lt, cores))
    ∙ (ap (λ m. owed_to m (ack_steps past) c r.0.0) cores ∙ open-owed_to k l past c b r lt all entered is)
