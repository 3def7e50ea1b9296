-- From its acknowledgement of a stop or a change on, no core serves against it.
use Rattle.std.proofs.Common.{◌≡◌, inl, inr, ℕ, ◌<◌, ◌^◌, ◌==◌, Bool, true, false, not, List, [], ◌∷◌, Option, Some, None, refl, sym, ◌∙◌, subst, ap, arith}
use Rattle.std.specs.Prelude.{bit_and}
use Rattle.std.proofs.lemmas.Bool.{eq-eqb, false_from_ne_true}
use Rattle.std.specs.Int.Bits.{and_zero_r}
use Rattle.std.proofs.lemmas.Nat.{and_assoc, and_comm}
use Rattle.em_log.specs.declared.declarations.Declarations.{Declarations}
use Rattle.em_log.specs.declared.entry.What.{What}
use Rattle.em_log.specs.declared.entry.Begun.{Begun}
use Rattle.em_log.specs.declared.ids.OpId.{OpId}
use Rattle.em_log.specs.declared.ids.Note.{Note}
use Rattle.em_log.specs.declared.ids.EoState.{EoState}
use Rattle.em_log.specs.declared.ids.Limits.{Limits}
use Rattle.em_log.specs.History.{Past, entry_by, has}
use Rattle.em_log.specs.Declarations.{object_of, group_of}
use Rattle.em_log.specs.Contexts.{context, received_queue, receives_from}
use Rattle.em_log.specs.Operations.{Operation, operation, operations, done, acked, all_acked, op_id}
use Rattle.em_log.specs.States.{state, state_begun, state_done, mask, change, change_begun, change_done, within_change, effective}
use Rattle.em_log.specs.Places.{taken}
use Rattle.em_log.specs.Eligible.{has_core}
use Rattle.em_log.specs.Leads.{aims_at_object, aims_at_group}
use Rattle.em_log.specs.Lawful.{AllAllowed}
use Rattle.em_moments.proofs.Choices.{IsReady}
use Rattle.em_moments.proofs.Moments.{Moment, BeginMoment, allowed-moment}
use Rattle.em_laws.proofs.Cores.{Compared, Same, Other, compared, if-own, some-inj}
use Rattle.em_laws.proofs.Served.{Serves, ServesAfter, ServedBefore, TakesNow, serves-after}
use Rattle.em_laws.proofs.Acks.{AckedAfter, AckedBefore, AcksNow, acked-after, all-acked-has}
use Rattle.em_laws.proofs.Begun.{BegunAfter, BegunBefore, BeginsNow, begun-after, numbered, IsPending, none-pending, undone-before, alone, Guards, guards-object, guards-group}
use Rattle.em_laws.proofs.Steps.{contexts, AckerIdle, acker-idle, acked-begun}
use Rattle.em_laws.proofs.Dones.{Completes, CompletesChange, CompletesStart, FailsStart, CompletesStop, done-completes}

-- pending stops and changes

begun-other : (x : ℕ) (job : Begun) (s : EoState) → aims_at_object x job ≡ false → state_begun x job s ≡ s
begun-other x (Begun.Start y) s h = rw h refl
begun-other x (Begun.Stop y) s h = rw h refl
begun-other x (Begun.Modify g m) s h = refl

done-other : (x : ℕ) (job : Begun) (ok : Bool) (s : EoState) → aims_at_object x job ≡ false → state_done x job ok s ≡ s
done-other x (Begun.Start y) true s h = rw h refl
done-other x (Begun.Start y) false s h = rw h refl
done-other x (Begun.Stop y) true s h = rw h refl
done-other x (Begun.Stop y) false s h = rw h refl
done-other x (Begun.Modify g m) ok s h = refl

change-begun-other : (g : ℕ) (job : Begun) (s : Option ℕ) → aims_at_group g job ≡ false → change_begun g job s ≡ s
change-begun-other g (Begun.Start y) s h = refl
change-begun-other g (Begun.Stop y) s h = refl
change-begun-other g (Begun.Modify i m) s h = rw h refl

change-done-other : (g : ℕ) (job : Begun) (s : Option ℕ) → aims_at_group g job ≡ false → change_done g job s ≡ s
change-done-other g (Begun.Start y) s h = refl
change-done-other g (Begun.Stop y) s h = refl
change-done-other g (Begun.Modify i m) s h = rw h refl

-- the operation that a Done names, and its job
pub record DoneNow (past : Past) (n : ℕ) : Type 0 where
  pub started : Operation
  pub begun : operation past n ≡ Some started
  pub undone : done past n ≡ None

pub done-now : (k : Declarations) (past : Past) (n : ℕ) (ok : Bool) → Completes k past n ok → DoneNow past n
done-now k past n ok (CompletesChange o g m is job un e all) = record { started = o; begun = is; undone = un }
done-now k past n ok (CompletesStart o x is job un e global all) = record { started = o; begun = is; undone = un }
done-now k past n ok (FailsStart o x is job un e global) = record { started = o; begun = is; undone = un }
done-now k past n ok (CompletesStop o x is job un e global all) = record { started = o; begun = is; undone = un }

-- a Done of an operation, while another with this aim is still pending after it, has not this aim
done-aside : (k : Declarations) (l : Limits) (past : Past) (d : ℕ) (op : OpId) (ok : Bool) (aims : Begun → Bool) (n : ℕ) (q : DoneNow past op.0)
    → Guards aims → AllAllowed k l past → IsPending past aims n → done (entry_by d (What.Done op ok) ∷ past) n ≡ None → aims q.started.job ≡ false
done-aside k l past d op ok aims n q guards all p still = false_from_ne_true _ (λ aimed. clash aimed)
  where
    clash : aims q.started.job ≡ true → ⊥
    clash aimed =
        let one : op.0 ≡ n = alone k l past aims guards all op.0 n (record { started = q.started; begun = q.begun; aimed = aimed; undone = q.undone }) p in
        let now : done (entry_by d (What.Done op ok) ∷ past) n ≡ Some ok = rw (eq-eqb op.0 n one) refl in
        absurd (cc (now, still))

begin-aside : (k : Declarations) (l : Limits) (past : Past) (aims : Begun → Bool) (n d : ℕ) (op : OpId) (job : Begun) (notes : List Note)
    → Guards aims → AllAllowed k l past → BeginMoment k past d op job notes → IsPending past aims n → aims job ≡ false
begin-aside k l past aims n d op job notes guards all m p =
    false_from_ne_true _ (λ aimed. none-pending past aims n (numbered k l past all n p.started p.begun) (guards k past d job notes m.aim aimed) p)

object-kept : (k : Declarations) (l : Limits) (past : Past) (d : ℕ) (w : What) (x n : ℕ) → AllAllowed k l past → Moment k l past d w
    → IsPending past (aims_at_object x) n → done (entry_by d w ∷ past) n ≡ None → state k (entry_by d w ∷ past) x ≡ state k past x
object-kept k l past d (What.Begin op job notes) x n all m p still =
    begun-other x job (state k past x) (begin-aside k l past (aims_at_object x) n d op job notes (guards-object x) all m p)
object-kept k l past d (What.Done op ok) x n all m p still =
    let q = done-now k past op.0 ok (done-completes k l past d op ok all m) in
    rw q.begun (done-other x q.started.job ok (state k past x) (done-aside k l past d op ok (aims_at_object x) n q (guards-object x) all p still))
object-kept k l past d w x n all m p still = refl

group-kept : (k : Declarations) (l : Limits) (past : Past) (d : ℕ) (w : What) (g n : ℕ) → AllAllowed k l past → Moment k l past d w
    → IsPending past (aims_at_group g) n → done (entry_by d w ∷ past) n ≡ None → change (entry_by d w ∷ past) g ≡ change past g
group-kept k l past d (What.Begin op job notes) g n all m p still =
    change-begun-other g job (change past g) (begin-aside k l past (aims_at_group g) n d op job notes (guards-group g) all m p)
group-kept k l past d (What.Done op ok) g n all m p still =
    let q = done-now k past op.0 ok (done-completes k l past d op ok all m) in
    rw q.begun (change-done-other g q.started.job (change past g) (done-aside k l past d op ok (aims_at_group g) n q (guards-group g) all p still))
group-kept k l past d w g n all m p still = refl

-- while a stop is pending its object is stopping, and while a change is pending it is in force
abbrev pub Shows : Declarations → Past → Begun → Type 0
Shows k past (Begun.Start x) = Unit {0}
Shows k past (Begun.Stop x) = state k past x.0 ≡ EoState.Stopping
Shows k past (Begun.Modify g m) = change past g.0 ≡ Some m

kept-shows : (k : Declarations) (l : Limits) (past : Past) (d : ℕ) (w : What) (n : ℕ) (o : Operation) (job : Begun) → o.job ≡ job → AllAllowed k l past
    → Moment k l past d w → operation past n ≡ Some o → done (entry_by d w ∷ past) n ≡ None → Shows k past job → Shows k (entry_by d w ∷ past) job
kept-shows k l past d w n o (Begun.Start x) is all m at still h = tt
kept-shows k l past d w n o (Begun.Stop x) is all m at still h =
    let aimed : aims_at_object x.0 o.job ≡ true = rw is (eq-eqb x.0 x.0 refl) in
    let p : IsPending past (aims_at_object x.0) n = record { started = o; begun = at; aimed = aimed; undone = undone-before past d w n still } in
    object-kept k l past d w x.0 n all m p still ∙ h
kept-shows k l past d w n o (Begun.Modify g i) is all m at still h =
    let aimed : aims_at_group g.0 o.job ≡ true = rw is (eq-eqb g.0 g.0 refl) in
    let p : IsPending past (aims_at_group g.0) n = record { started = o; begun = at; aimed = aimed; undone = undone-before past d w n still } in
    group-kept k l past d w g.0 n all m p still ∙ h

begins-shows : (k : Declarations) (past : Past) (d : ℕ) (op : OpId) (job : Begun) (notes : List Note) → Shows k (entry_by d (What.Begin op job notes) ∷ past) job
begins-shows k past d op (Begun.Start x) notes = tt
begins-shows k past d op (Begun.Stop x) notes = if-own x.0 _ _
begins-shows k past d op (Begun.Modify g m) notes = if-own g.0 _ _

next-shows : (k : Declarations) (l : Limits) (past : Past) (d : ℕ) (w : What) (n : ℕ) (o : Operation) → AllAllowed k l past → Moment k l past d w
    → (operation past n ≡ Some o → done past n ≡ None → Shows k past o.job) → operation (entry_by d w ∷ past) n ≡ Some o → done (entry_by d w ∷ past) n ≡ None
    → Shows k (entry_by d w ∷ past) o.job
next-shows k l past d w n o all m older at still = by_begun (begun-after past d w n o at)
  where
    by_begun : BegunAfter past n o d w → Shows k (entry_by d w ∷ past) o.job
    by_begun (BegunBefore was) = kept-shows k l past d w n o o.job refl all m was still (older was (undone-before past d w n still))
    by_begun (BeginsNow e core) = subst (λ v. Shows k (entry_by d v ∷ past) o.job) (sym e) (begins-shows k past d (op_id n) o.job o.notes)

pub shows : (k : Declarations) (l : Limits) (past : Past) → AllAllowed k l past → (n : ℕ) (o : Operation) → operation past n ≡ Some o → done past n ≡ None → Shows k past o.job
shows k l [] all n o at still = absurd (cc at)
shows k l (e ∷ past) all n o at still =
    next-shows k l past e.core.0 e.what n o all.1 (allowed-moment k l past e all.1 all.0) (shows k l past all.1 n o) at still

-- masks

pub and-core : (a b c : ℕ) → has_core (bit_and a b) c ≡ true → (has_core a c ≡ true) × (has_core b c ≡ true)
and-core a b c h = (by_left (compared (bit_and a (2 ^ c)) 0), by_right (compared (bit_and b (2 ^ c)) 0))
  where
    whole : bit_and (bit_and a b) (2 ^ c) ≡ 0 → ⊥
    whole e = absurd (cc (h, ap (λ n. not (n == 0)) e))

    by_right : Compared (bit_and b (2 ^ c)) 0 → has_core b c ≡ true
    by_right (Same _ e) = absurd (whole (and_assoc (2 ^ c) a b ∙ ap (bit_and a) e ∙ and_zero_r a))
    by_right (Other f _) = rw f refl

    by_left : Compared (bit_and a (2 ^ c)) 0 → has_core a c ≡ true
    by_left (Same _ e) = absurd (whole (ap (λ n. bit_and n (2 ^ c)) (and_comm a b) ∙ and_assoc (2 ^ c) b a ∙ ap (bit_and b) e ∙ and_zero_r b))
    by_left (Other f _) = rw f refl

-- what an acknowledged operation forbids

abbrev pub Respects : Declarations → Begun → ℕ → ℕ → Type 0
Respects k (Begun.Start x) c q = Unit {0}
Respects k (Begun.Stop x) c q = object_of k q ≡ Some x.0 → ⊥
Respects k (Begun.Modify g m) c q = group_of k q ≡ Some g.0 → has_core m c ≡ true

ready-respects : (k : Declarations) (past : Past) (c q : ℕ) (job : Begun) → IsReady k past c q → Shows k past job → Respects k job c q
ready-respects k past c q (Begun.Start x) ready s = tt
ready-respects k past c q (Begun.Stop x) ready s = λ is.
    let r = ready.runs in
    let same : r.0 ≡ x.0 = some-inj _ _ (sym r.1.0 ∙ is) in
    let runs : state k past x.0 ≡ EoState.Running = ap (state k past) (sym same) ∙ r.1.1 in absurd (cc (runs, s))
ready-respects k past c q (Begun.Modify g m) ready s = λ is.
    let in_group : has_core (effective k past g.0) c ≡ true = rw is at ready.in_group in
    let both : has_core (bit_and (mask k past g.0) m) c ≡ true = subst (λ (o : Option ℕ). has_core (within_change (mask k past g.0) o) c ≡ true) s in_group in
    (and-core (mask k past g.0) m c both).1

idle-serves : (k : Declarations) (past : Past) (d c q : ℕ) → d ≡ c → AckerIdle k past d → Serves k past c q → ⊥
idle-serves k past d c q same idle (inl h) =
    let none : receives_from past c ≡ None = ap received_queue (ap (context past) (sym same) ∙ idle.closed) in absurd (cc (none, h))
idle-serves k past d c q same idle (inr h) = h.0 (ap (taken k past) (sym same) ∙ idle.untaken)

-- each core that has acknowledged a pending operation respects it
abbrev pub AckedRespect : Declarations → Past → Type 0
AckedRespect k past = (n : ℕ) (o : Operation) (c : ℕ) → operation past n ≡ Some o → done past n ≡ None → has (acked past n) c ≡ true
    → (q : ℕ) → Serves k past c q → Respects k o.job c q

serves-kept : (k : Declarations) (l : Limits) (past : Past) (d : ℕ) (op : OpId) (c q : ℕ) → Serves k (entry_by d (What.Ack op) ∷ past) c q → Moment k l past d (What.Ack op) → Serves k past c q
serves-kept k l past d op c q s m = by_after (serves-after k l past c q d (What.Ack op) m s)
  where
    by_after : ServesAfter k past c q d (What.Ack op) → Serves k past c q
    by_after (ServedBefore b) = b
    by_after (TakesNow n t same e ready) = absurd cc

-- an acknowledgement of core d, read off an entry of it
ack-idle : (k : Declarations) (l : Limits) (past : Past) (d : ℕ) (w : What) (n c q : ℕ) → AllAllowed k l past → Moment k l past d w → w ≡ What.Ack (op_id n) → d ≡ c
    → Serves k (entry_by d w ∷ past) c q → ⊥
ack-idle k l past d w n c q all m e same s =
    let m2 : Moment k l past d (What.Ack (op_id n)) = subst (Moment k l past d) e m in
    let s2 = serves-kept k l past d (op_id n) c q (subst (λ v. Serves k (entry_by d v ∷ past) c q) e s) m2 in
    idle-serves k past d c q same (acker-idle k past d (op_id n) (contexts k l past all) m2) s2

next-respect : (k : Declarations) (l : Limits) (past : Past) (d : ℕ) (w : What) → AllAllowed k l past → Moment k l past d w → AckedRespect k past → AckedRespect k (entry_by d w ∷ past)
next-respect k l past d w all m older n o c at still h q s = by_acked (acked-after past d w n c h)
  where
    undone : done past n ≡ None
    undone = undone-before past d w n still

    by_served : operation past n ≡ Some o → has (acked past n) c ≡ true → ServesAfter k past c q d w → Respects k o.job c q
    by_served was had (ServedBefore b) = older n o c was undone had q b
    by_served was had (TakesNow i t same e ready) = ready-respects k past c q o.job ready (shows k l past all n o was undone)

    by_begun : has (acked past n) c ≡ true → BegunAfter past n o d w → Respects k o.job c q
    by_begun had (BegunBefore was) = by_served was had (serves-after k l past c q d w m s)
    by_begun had (BeginsNow e core) =
        let b = acked-begun k l past all n c had in
        let lt = numbered k l past all n b.0 b.1 in
        let bm : BeginMoment k past d (op_id n) o.job o.notes = subst (Moment k l past d) e m in
        let same : n ≡ operations past = ap (λ (i : OpId). i.0) bm.number in
        absurd (omega (arith, lt, same))

    by_acked : AckedAfter past n c d w → Respects k o.job c q
    by_acked (AckedBefore had) = by_begun had (begun-after past d w n o at)
    by_acked (AcksNow same e) = absurd (ack-idle k l past d w n c q all m e same s)

respect : (k : Declarations) (l : Limits) (past : Past) → AllAllowed k l past → AckedRespect k past
respect k l [] all n o c at still h q s = absurd (cc at)
respect k l (e ∷ past) all n o c at still h q s =
    next-respect k l past e.core.0 e.what all.1 (allowed-moment k l past e all.1 all.0) (respect k l past all.1) n o c at still h q s

next-bounded : (k : Declarations) (l : Limits) (past : Past) (d : ℕ) (w : What) (c q : ℕ) → d < k.cores → (Serves k past c q → c < k.cores) → ServesAfter k past c q d w → c < k.cores
next-bounded k l past d w c q lt older (ServedBefore s) = older s
next-bounded k l past d w c q lt older (TakesNow n t same e ready) = subst (λ i. i < k.cores) same lt

-- only cores of the graph serve
pub bounded : (k : Declarations) (l : Limits) (past : Past) → AllAllowed k l past → (c q : ℕ) → Serves k past c q → c < k.cores
bounded k l [] all c q (inl h) = absurd (cc h)
bounded k l [] all c q (inr h) = absurd (h.0 refl)
bounded k l (e ∷ past) all c q s =
    next-bounded k l past e.core.0 e.what c q all.0.core (bounded k l past all.1 c q)
    (serves-after k l past c q e.core.0 e.what (allowed-moment k l past e all.1 all.0) s)

-- as an operation that every core has acknowledged is done, every core respects it
pub all-respect : (k : Declarations) (l : Limits) (past : Past) → AllAllowed k l past → (n : ℕ) (o : Operation) → operation past n ≡ Some o → done past n ≡ None
    → all_acked k past n ≡ true → (c q : ℕ) → Serves k past c q → Respects k o.job c q
all-respect k l past all n o at still acks c q s =
    respect k l past all n o c at still (all-acked-has k past n c acks (bounded k l past all c q s)) q s
