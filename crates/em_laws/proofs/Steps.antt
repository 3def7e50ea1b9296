-- What stands while a core runs the context of an operation's step.
use Rattle.std.proofs.Common.{◌≡◌, ◌≢◌, ℕ, ◌==◌, Bool, true, false, List, [], ◌∷◌, Option, Some, None, refl, sym, ◌∙◌, subst, ap, if◌then◌else◌}
use Rattle.em_log.specs.declared.declarations.Declarations.{Declarations}
use Rattle.em_log.specs.declared.entry.Entry.{Entry}
use Rattle.em_log.specs.declared.entry.What.{What}
use Rattle.em_log.specs.declared.entry.Body.{Body}
use Rattle.em_log.specs.declared.entry.Begun.{Begun}
use Rattle.em_log.specs.declared.ids.OpId.{OpId}
use Rattle.em_log.specs.declared.ids.EoId.{EoId}
use Rattle.em_log.specs.declared.ids.Cells.{Cells}
use Rattle.em_log.specs.declared.ids.Limits.{Limits}
use Rattle.em_log.specs.History.{Past, entry_by, has}
use Rattle.em_log.specs.Contexts.{context, context_after}
use Rattle.em_log.specs.Operations.{Operation, operation, global_done, acked, all_acked, last_acker, op_id}
use Rattle.em_log.specs.Places.{taken, taken_after}
use Rattle.em_log.specs.Lawful.{AllAllowed}
use Rattle.em_log.specs.Laws.{Always}
use Rattle.em_moments.proofs.Steps.{Owes, OwesAck, OwesGlobalStart, OwesLocalStart, OwesLocalStop, OwesGlobalStop}
use Rattle.em_moments.proofs.Moments.{Moment, EnterMoment, EntersBoot, EntersStep, AckMoment, AckChange, AckStart, AckStop, GlobalDoneMoment, GlobalStartDone, GlobalStopDone, allowed-moment}
use Rattle.em_laws.proofs.Cores.{Compared, Same, Other, compared, if-own, none-some, some-inj}
use Rattle.em_laws.proofs.Acks.{AckedAfter, AckedBefore, AcksNow, acked-after, all-acked-more, last-kept, last-all}
use Rattle.em_laws.proofs.Begun.{begun-kept}

-- what stands of an operation while core c is in a context of it
pub data InStep (k : Declarations) (past : Past) (c : ℕ) (b : Body) : Type 0 where
  InBoot : b ≡ Body.Boot → InStep k past c b
  InGlobalStart : (n : ℕ) (o : Operation) (x : EoId) → b ≡ Body.GlobalStart (op_id n) → operation past n ≡ Some o → o.job ≡ Begun.Start x
      → global_done past n ≡ None → o.core ≡ c → InStep k past c b
  InLocalStart : (n : ℕ) (o : Operation) (x : EoId) → b ≡ Body.LocalStart (op_id n) → operation past n ≡ Some o → o.job ≡ Begun.Start x
      → global_done past n ≡ Some true → has (acked past n) c ≡ false → InStep k past c b
  InLocalStop : (n : ℕ) (o : Operation) (x : EoId) → b ≡ Body.LocalStop (op_id n) → operation past n ≡ Some o → o.job ≡ Begun.Stop x
      → has (acked past n) c ≡ false → InStep k past c b
  InGlobalStop : (n : ℕ) (o : Operation) (x : EoId) → b ≡ Body.GlobalStop (op_id n) → operation past n ≡ Some o → o.job ≡ Begun.Stop x
      → global_done past n ≡ None → all_acked k past n ≡ true → last_acker k past n ≡ Some c → InStep k past c b

-- after each entry, what stands of each core
pub record Contexts (k : Declarations) (past : Past) : Type 0 where
  pub steps : (c : ℕ) (b : Body) → context past c ≡ Some (What.Enter b) → InStep k past c b
  pub untaken : (c : ℕ) (b : Body) → context past c ≡ Some (What.Enter b) → taken k past c ≡ []

-- a start or stop whose global step is done now, and what stood of it
pub data Finishing (k : Declarations) (past : Past) (d : ℕ) (n : ℕ) : Type 0 where
  FinishingStart : (o : Operation) (x : EoId) → operation past n ≡ Some o → o.job ≡ Begun.Start x → global_done past n ≡ None → o.core ≡ d → Finishing k past d n
  FinishingStop : (o : Operation) (x : EoId) → operation past n ≡ Some o → o.job ≡ Begun.Stop x → global_done past n ≡ None → all_acked k past n ≡ true
      → last_acker k past n ≡ Some d → Finishing k past d n

op-number : (f : OpId → Body) (op : OpId) (n : ℕ) → ((i j : OpId) → f i ≡ f j → i ≡ j) → f op ≡ f (op_id n) → op.0 ≡ n
op-number f op n inj e = ap (λ (i : OpId). i.0) (inj op (op_id n) e)

-- an ended context leaves its operation as it stood
pub finishing-start : (k : Declarations) (before : Past) (d lost : ℕ) (cells : Option Cells) (op : OpId) → InStep k before d (Body.GlobalStart op)
    → Finishing k (entry_by d (What.End lost cells) ∷ before) d op.0
finishing-start k before d lost cells op (InBoot e) = absurd cc
finishing-start k before d lost cells op (InGlobalStart n o x e is job none core) =
    let same : op ≡ op_id n = cc in
    subst (λ (i : OpId). Finishing k (entry_by d (What.End lost cells) ∷ before) d i.0) (sym same) (FinishingStart o x is job none core)
finishing-start k before d lost cells op (InLocalStart n o x e is job done un) = absurd cc
finishing-start k before d lost cells op (InLocalStop n o x e is job un) = absurd cc
finishing-start k before d lost cells op (InGlobalStop n o x e is job none all last) = absurd cc

pub finishing-stop : (k : Declarations) (before : Past) (d lost : ℕ) (cells : Option Cells) (op : OpId) → InStep k before d (Body.GlobalStop op)
    → Finishing k (entry_by d (What.End lost cells) ∷ before) d op.0
finishing-stop k before d lost cells op (InBoot e) = absurd cc
finishing-stop k before d lost cells op (InGlobalStart n o x e is job none core) = absurd cc
finishing-stop k before d lost cells op (InLocalStart n o x e is job done un) = absurd cc
finishing-stop k before d lost cells op (InLocalStop n o x e is job un) = absurd cc
finishing-stop k before d lost cells op (InGlobalStop n o x e is job none all last) =
    let same : op ≡ op_id n = cc in
    subst (λ (i : OpId). Finishing k (entry_by d (What.End lost cells) ∷ before) d i.0) (sym same) (FinishingStop o x is job none all last)

pub ended-closed : (before : Past) (d lost : ℕ) (cells : Option Cells) → context (entry_by d (What.End lost cells) ∷ before) d ≡ None
ended-closed before d lost cells = if-own d None (context before d)

-- an acknowledgement comes from a core with no context and nothing taken
pub record AckerIdle (k : Declarations) (past : Past) (d : ℕ) : Type 0 where
  pub closed : context past d ≡ None
  pub untaken : taken k past d ≡ []

pub always-here : (P : Past → Type 0) (past : Past) → Always P past → P past
always-here P [] a = a
always-here P (e ∷ past) a = a.0

pub always-before : (P : Past → Type 0) (past before : Past) (e : Entry) → past ≡ e ∷ before → Always P past → P before
always-before P past before e is a = always-here P before (subst (Always P) is a).1

pub acker-idle : (k : Declarations) (past : Past) (d : ℕ) (op : OpId) → Always (Contexts k) past → AckMoment k past d op → AckerIdle k past d
acker-idle k past d op held (AckChange between owed owes) = record { closed = between.closed; untaken = between.untaken }
acker-idle k past d op held (AckStart before lost cells was is) =
    let c : Contexts k before = always-before (Contexts k) past before _ was held in
    subst (λ p. AckerIdle k p d) (sym was) (record { closed = ended-closed before d lost cells; untaken = if-own d _ _ ∙ c.untaken d _ is })
acker-idle k past d op held (AckStop before lost cells was is) =
    let c : Contexts k before = always-before (Contexts k) past before _ was held in
    subst (λ p. AckerIdle k p d) (sym was) (record { closed = ended-closed before d lost cells; untaken = if-own d _ _ ∙ c.untaken d _ is })

-- a global step that is done now
pub record GlobalEnds (k : Declarations) (past : Past) (d n : ℕ) : Type 0 where
  pub closed : context past d ≡ None
  pub finishing : Finishing k past d n

pub global-ends : (k : Declarations) (past : Past) (d : ℕ) (op : OpId) (ok : Bool) → Always (Contexts k) past → GlobalDoneMoment k past d op ok → GlobalEnds k past d op.0
global-ends k past d op ok held (GlobalStartDone before lost cells was is e) =
    let c : Contexts k before = always-before (Contexts k) past before _ was held in
    subst (λ p. GlobalEnds k p d op.0) (sym was)
    (record { closed = ended-closed before d lost cells; finishing = finishing-start k before d lost cells op (c.steps d _ is) })
global-ends k past d op ok held (GlobalStopDone before lost cells was is e) =
    let c : Contexts k before = always-before (Contexts k) past before _ was held in
    subst (λ p. GlobalEnds k p d op.0) (sym was)
    (record { closed = ended-closed before d lost cells; finishing = finishing-stop k before d lost cells op (c.steps d _ is) })

-- what stands stays, where the entry is of no matter to it
step-kept : (k : Declarations) (l : Limits) (past : Past) (c d : ℕ) (w : What) (b : Body) → AllAllowed k l past → Moment k l past d w
    → ((n : ℕ) → global_done (entry_by d w ∷ past) n ≡ global_done past n)
    → ((n : ℕ) → has (acked past n) c ≡ false → has (acked (entry_by d w ∷ past) n) c ≡ false)
    → InStep k past c b → InStep k (entry_by d w ∷ past) c b
step-kept k l past c d w b all m global acks (InBoot e) = InBoot e
step-kept k l past c d w b all m global acks (InGlobalStart n o x e is job none core) =
    InGlobalStart n o x e (begun-kept k l past d w n o all m is) job (global n ∙ none) core
step-kept k l past c d w b all m global acks (InLocalStart n o x e is job done un) =
    InLocalStart n o x e (begun-kept k l past d w n o all m is) job (global n ∙ done) (acks n un)
step-kept k l past c d w b all m global acks (InLocalStop n o x e is job un) =
    InLocalStop n o x e (begun-kept k l past d w n o all m is) job (acks n un)
step-kept k l past c d w b all m global acks (InGlobalStop n o x e is job none done last) =
    InGlobalStop n o x e (begun-kept k l past d w n o all m is) job (global n ∙ none) (all-acked-more k past d w n done) (last-kept k past d w n c last)

has-other : (d : ℕ) (ms : List ℕ) (c : ℕ) → d ≢ c → has ms c ≡ false → has (d ∷ ms) c ≡ false
has-other d ms c ne h = by_test (compared d c)
  where
    by_test : Compared d c → has (d ∷ ms) c ≡ false
    by_test (Same _ e) = absurd (ne e)
    by_test (Other f e) = rw f h

ack-other : (past : Past) (d c : ℕ) (op : OpId) → d ≢ c → (n : ℕ) → has (acked past n) c ≡ false → has (acked (entry_by d (What.Ack op) ∷ past) n) c ≡ false
ack-other past d c op ne n h = by_test (op.0 == n)
  where
    by_test : (b : Bool) → has (if b then d ∷ acked past n else acked past n) c ≡ false
    by_test true = has-other d (acked past n) c ne h
    by_test false = h

-- the end of a global step of core d leaves what stands of another core
global-other : (k : Declarations) (l : Limits) (past : Past) (c d : ℕ) (op : OpId) (ok : Bool) (b : Body) → AllAllowed k l past
    → Moment k l past d (What.GlobalDone op ok) → Finishing k past d op.0 → d ≢ c → InStep k past c b → InStep k (entry_by d (What.GlobalDone op ok) ∷ past) c b
global-other k l past c d op ok b all m f ne (InBoot e) = InBoot e
global-other k l past c d op ok b all m f ne (InGlobalStart n o x e is job none core) =
    InGlobalStart n o x e is job (by_test (compared op.0 n) f) core
  where
    clash : op.0 ≡ n → Finishing k past d op.0 → ⊥
    clash same (FinishingStart p y at job2 none2 core2) =
        let one : o ≡ p = some-inj _ _ (sym is ∙ sym (ap (operation past) same) ∙ at) in ne (sym core2 ∙ sym (ap (λ (i : Operation). i.core) one) ∙ core)
    clash same (FinishingStop p y at job2 none2 done2 last2) =
        let one : o ≡ p = some-inj _ _ (sym is ∙ sym (ap (operation past) same) ∙ at) in absurd (cc (one, job, job2))

    by_test : Compared op.0 n → Finishing k past d op.0 → global_done (entry_by d (What.GlobalDone op ok) ∷ past) n ≡ None
    by_test (Same _ e) f = absurd (clash e f)
    by_test (Other u _) f = rw u none
global-other k l past c d op ok b all m f ne (InLocalStart n o x e is job done un) =
    InLocalStart n o x e is job (by_test (compared op.0 n) f) un
  where
    clash : op.0 ≡ n → Finishing k past d op.0 → ⊥
    clash same (FinishingStart p y at job2 none2 core2) =
        let now : global_done past n ≡ None = ap (global_done past) (sym same) ∙ none2 in absurd (cc (now, done))
    clash same (FinishingStop p y at job2 none2 done2 last2) =
        let one : o ≡ p = some-inj _ _ (sym is ∙ sym (ap (operation past) same) ∙ at) in absurd (cc (one, job, job2))

    by_test : Compared op.0 n → Finishing k past d op.0 → global_done (entry_by d (What.GlobalDone op ok) ∷ past) n ≡ Some true
    by_test (Same _ e) f = absurd (clash e f)
    by_test (Other u _) f = rw u done
global-other k l past c d op ok b all m f ne (InLocalStop n o x e is job un) = InLocalStop n o x e is job un
global-other k l past c d op ok b all m f ne (InGlobalStop n o x e is job none done last) =
    InGlobalStop n o x e is job (by_test (compared op.0 n) f) done last
  where
    clash : op.0 ≡ n → Finishing k past d op.0 → ⊥
    clash same (FinishingStart p y at job2 none2 core2) =
        let one : o ≡ p = some-inj _ _ (sym is ∙ sym (ap (operation past) same) ∙ at) in absurd (cc (one, job, job2))
    clash same (FinishingStop p y at job2 none2 done2 last2) =
        ne (some-inj _ _ (sym last2 ∙ ap (last_acker k past) same ∙ last))

    by_test : Compared op.0 n → Finishing k past d op.0 → global_done (entry_by d (What.GlobalDone op ok) ∷ past) n ≡ None
    by_test (Same _ e) f = absurd (clash e f)
    by_test (Other u _) f = rw u none

other-steps : (k : Declarations) (l : Limits) (past : Past) (c d : ℕ) (w : What) (b : Body) → AllAllowed k l past → Always (Contexts k) past
    → Moment k l past d w → d ≢ c → InStep k past c b → InStep k (entry_by d w ∷ past) c b
other-steps k l past c d (What.Ack op) b all held m ne s = step-kept k l past c d (What.Ack op) b all m (λ n. refl) (ack-other past d c op ne) s
other-steps k l past c d (What.GlobalDone op ok) b all held m ne s =
    global-other k l past c d op ok b all m (global-ends k past d op ok held m).finishing ne s
other-steps k l past c d w b all held m ne s = step-kept k l past c d w b all m (λ n. refl) (λ n h. h) s

entered-steps : (k : Declarations) (past : Past) (c : ℕ) (b : Body) → EnterMoment k past c b → InStep k (entry_by c (What.Enter b) ∷ past) c b
entered-steps k past c b (EntersBoot none core e) = InBoot e
entered-steps k past c b (EntersStep between owed (OwesAck n o g m is job un e)) = absurd cc
entered-steps k past c b (EntersStep between owed (OwesGlobalStart n o x is job none core e)) = InGlobalStart n o x (cc) is job none core
entered-steps k past c b (EntersStep between owed (OwesLocalStart n o x is job done un e)) = InLocalStart n o x (cc) is job done un
entered-steps k past c b (EntersStep between owed (OwesLocalStop n o x is job none un e)) = InLocalStop n o x (cc) is job un
entered-steps k past c b (EntersStep between owed (OwesGlobalStop n o x is job none at last e)) =
    InGlobalStop n o x (cc) is job none (last-all k past n c last) last

entered-body : (b v : Body) → Some (What.Enter b) ≡ Some (What.Enter v) → b ≡ v
entered-body b v e = cc

own-steps : (k : Declarations) (l : Limits) (past : Past) (c : ℕ) (w : What) (b : Body) → AllAllowed k l past → Always (Contexts k) past
    → Moment k l past c w → context_after w (context past c) ≡ Some (What.Enter b) → InStep k (entry_by c w ∷ past) c b
own-steps k l past c (What.Enter v) b all held m h =
    subst (λ u. InStep k (entry_by c (What.Enter v) ∷ past) c u) (entered-body v b h) (entered-steps k past c v m)
own-steps k l past c (What.Start q e s) b all held m h = absurd cc
own-steps k l past c (What.End lost cells) b all held m h = absurd cc
own-steps k l past c (What.Ack op) b all held m h = absurd (none-some _ (sym (acker-idle k past c op held m).closed ∙ h))
own-steps k l past c (What.GlobalDone op ok) b all held m h = absurd (none-some _ (sym (global-ends k past c op ok held m).closed ∙ h))
own-steps k l past c w b all held m h =
    step-kept k l past c c w b all m (λ n. refl) (λ n h. h) ((always-here (Contexts k) past held).steps c b h)

own-untaken : (k : Declarations) (l : Limits) (past : Past) (c : ℕ) (w : What) (b : Body) → Contexts k past
    → Moment k l past c w → context_after w (context past c) ≡ Some (What.Enter b) → taken_after k past c w (taken k past c) ≡ []
own-untaken k l past c (What.Enter v) b held m h = by_entry m
  where
    by_entry : EnterMoment k past c v → taken k past c ≡ []
    by_entry (EntersBoot none core e) = subst (λ p. taken k p c ≡ []) (sym none) refl
    by_entry (EntersStep between owed owes) = between.untaken
own-untaken k l past c (What.Start q e s) b held m h = absurd cc
own-untaken k l past c (What.End lost cells) b held m h = absurd cc
own-untaken k l past c (What.Take q n t) b held m h = absurd (none-some _ (sym m.ready.between.closed ∙ h))
own-untaken k l past c (What.Untake q n) b held m h = refl
own-untaken k l past c (What.EndAtomic rest cells) b held m h = refl
own-untaken k l past c w b held m h = held.untaken c b h

next-steps : (k : Declarations) (l : Limits) (past : Past) (d : ℕ) (w : What) → AllAllowed k l past → Always (Contexts k) past → Moment k l past d w
    → (c : ℕ) (b : Body) → context (entry_by d w ∷ past) c ≡ Some (What.Enter b) → InStep k (entry_by d w ∷ past) c b
next-steps k l past d w all held m c b h = by_test (compared d c)
  where
    by_test : Compared d c → InStep k (entry_by d w ∷ past) c b
    by_test (Same t e) =
        subst (λ n. InStep k (entry_by n w ∷ past) c b) (sym e) (own-steps k l past c w b all held (subst (λ n. Moment k l past n w) e m) (rw t at h))
    by_test (Other f e) = other-steps k l past c d w b all held m e ((always-here (Contexts k) past held).steps c b (rw f at h))

next-untaken : (k : Declarations) (l : Limits) (past : Past) (d : ℕ) (w : What) → Contexts k past → Moment k l past d w
    → (c : ℕ) (b : Body) → context (entry_by d w ∷ past) c ≡ Some (What.Enter b) → taken k (entry_by d w ∷ past) c ≡ []
next-untaken k l past d w held m c b h = by_test (compared d c)
  where
    by_test : Compared d c → taken k (entry_by d w ∷ past) c ≡ []
    by_test (Same t e) = rw t (own-untaken k l past c w b held (subst (λ n. Moment k l past n w) e m) (rw t at h))
    by_test (Other f e) = rw f (held.untaken c b (rw f at h))

-- what stands of each core while it runs a step, after each entry
pub contexts : (k : Declarations) (l : Limits) (past : Past) → AllAllowed k l past → Always (Contexts k) past
contexts k l [] all = record { steps = λ c b h. absurd (none-some _ h); untaken = λ c b h. refl }
contexts k l (e ∷ past) all =
    let held = contexts k l past all.1 in
    let m = allowed-moment k l past e all.1 all.0 in (
      record {
        steps = next-steps k l past e.core.0 e.what all.1 held m;
        untaken = next-untaken k l past e.core.0 e.what (always-here (Contexts k) past held) m;
      },
      held,
    )

-- an acknowledgement is of an operation that has begun

local_start-begun : (k : Declarations) (before : Past) (d : ℕ) (op : OpId) → InStep k before d (Body.LocalStart op) → (o : Operation) × (operation before op.0 ≡ Some o)
local_start-begun k before d op (InBoot e) = absurd cc
local_start-begun k before d op (InGlobalStart n o x e is job none core) = absurd cc
local_start-begun k before d op (InLocalStart n o x e is job global un) =
    let same : op.0 ≡ n = ap (λ (i : OpId). i.0) (cc) in (o, ap (operation before) same ∙ is)
local_start-begun k before d op (InLocalStop n o x e is job un) = absurd cc
local_start-begun k before d op (InGlobalStop n o x e is job none all last) = absurd cc

local_stop-begun : (k : Declarations) (before : Past) (d : ℕ) (op : OpId) → InStep k before d (Body.LocalStop op) → (o : Operation) × (operation before op.0 ≡ Some o)
local_stop-begun k before d op (InBoot e) = absurd cc
local_stop-begun k before d op (InGlobalStart n o x e is job none core) = absurd cc
local_stop-begun k before d op (InLocalStart n o x e is job global un) = absurd cc
local_stop-begun k before d op (InLocalStop n o x e is job un) =
    let same : op.0 ≡ n = ap (λ (i : OpId). i.0) (cc) in (o, ap (operation before) same ∙ is)
local_stop-begun k before d op (InGlobalStop n o x e is job none all last) = absurd cc

ack-owed : (k : Declarations) (past : Past) (d : ℕ) (op : OpId) → Owes k past d (What.Ack op) → (o : Operation) × (operation past op.0 ≡ Some o)
ack-owed k past d op (OwesAck n o g m is job un e) = let same : op.0 ≡ n = ap (λ (i : OpId). i.0) (cc) in (o, ap (operation past) same ∙ is)
ack-owed k past d op (OwesGlobalStart n o x is job none core e) = absurd cc
ack-owed k past d op (OwesLocalStart n o x is job done un e) = absurd cc
ack-owed k past d op (OwesLocalStop n o x is job none un e) = absurd cc
ack-owed k past d op (OwesGlobalStop n o x is job none at last e) = absurd cc

pub ack-begun : (k : Declarations) (past : Past) (d : ℕ) (op : OpId) → Always (Contexts k) past → AckMoment k past d op → (o : Operation) × (operation past op.0 ≡ Some o)
ack-begun k past d op held (AckChange between owed owes) = ack-owed k past d op owes
ack-begun k past d op held (AckStart before lost cells was is) =
    let c : Contexts k before = always-before (Contexts k) past before _ was held in
    subst (λ p. (o : Operation) × (operation p op.0 ≡ Some o)) (sym was) (local_start-begun k before d op (c.steps d _ is))
ack-begun k past d op held (AckStop before lost cells was is) =
    let c : Contexts k before = always-before (Contexts k) past before _ was held in
    subst (λ p. (o : Operation) × (operation p op.0 ≡ Some o)) (sym was) (local_stop-begun k before d op (c.steps d _ is))

acked-begun-by : (k : Declarations) (l : Limits) (past : Past) (d : ℕ) (w : What) (n c : ℕ) → AllAllowed k l past → Moment k l past d w
    → (has (acked past n) c ≡ true → (o : Operation) × (operation past n ≡ Some o)) → AckedAfter past n c d w → (o : Operation) × (operation (entry_by d w ∷ past) n ≡ Some o)
acked-begun-by k l past d w n c all m older (AckedBefore h) = let b = older h in (b.0, begun-kept k l past d w n b.0 all m b.1)
acked-begun-by k l past d w n c all m older (AcksNow same e) =
    let b = ack-begun k past d (op_id n) (contexts k l past all) (subst (Moment k l past d) e m) in (b.0, begun-kept k l past d w n b.0 all m b.1)

pub acked-begun : (k : Declarations) (l : Limits) (past : Past) → AllAllowed k l past → (n c : ℕ) → has (acked past n) c ≡ true → (o : Operation) × (operation past n ≡ Some o)
acked-begun k l [] all n c h = absurd cc
acked-begun k l (e ∷ past) all n c h =
    acked-begun-by k l past e.core.0 e.what n c all.1 (allowed-moment k l past e all.1 all.0) (acked-begun k l past all.1 n c) (acked-after past e.core.0 e.what n c h)
