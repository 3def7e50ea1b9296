-- Boot comes first.
use Rattle.std.proofs.Common.{◌≡◌, ◌≢◌, ℕ, Bool, true, false, [], ◌∷◌, Option, Some, None, refl, ap, sym, ◌∙◌, subst, if◌then◌else◌}
use Rattle.em_log.specs.declared.declarations.Declarations.{Declarations}
use Rattle.em_log.specs.declared.entry.Body.{Body}
use Rattle.em_log.specs.declared.entry.Entry.{Entry}
use Rattle.em_log.specs.declared.entry.What.{What}
use Rattle.em_log.specs.declared.ids.Limits.{Limits}
use Rattle.em_log.specs.History.{Past, entry_by}
use Rattle.em_log.specs.Contexts.{context, context_after, boot_ended, ends_boot, is_boot}
use Rattle.em_log.specs.Lawful.{AllAllowed, Begins, Boots, Steps, Takes, Starts, Untakes, Asks}
use Rattle.em_moments.proofs.Moments.{Moment, EntersBoot, EntersStep, allowed-moment}
use Rattle.em_moments.proofs.Steps.{Owes, OwesAck, OwesGlobalStart, OwesLocalStart, OwesLocalStop, OwesGlobalStop}
use Rattle.em_laws.proofs.Cores.{Compared, Same, Other, compared}

-- boot has not begun, is under way, or has ended
pub data Stage (past : Past) : Type 0 where
  Fresh : past ≡ [] → Stage past
  Booting : context past 0 ≡ Some (What.Enter Body.Boot) → boot_ended past ≡ false → Stage past
  Running : boot_ended past ≡ true → Stage past

-- the first entry begins boot
first : (k : Declarations) (l : Limits) (c : ℕ) (w : What) → Begins k l [] c w → Stage (entry_by c w ∷ [])
first k l c w (Boots none core is) = rw (core, is) (Booting refl refl)
first k l c w (Steps between is) = absurd (cc between)
first k l c w (Takes q choice is) = absurd (cc choice)
first k l c w (Starts q x xs closed queue taken is) = absurd (cc taken)
first k l c w (Untakes q x xs closed queue taken is) = absurd (cc taken)
first k l c w (Asks a may is) = absurd (cc may)

-- where boot is core 0's open context
own : (k : Declarations) (l : Limits) (past : Past) (w : What) → context past 0 ≡ Some (What.Enter Body.Boot) → boot_ended past ≡ false → Moment k l past 0 w
    → Stage (entry_by 0 w ∷ past)
own k l past (What.Enter b) at early (EntersBoot none core is) = absurd (cc (none, at))
own k l past (What.Enter b) at early (EntersStep between owed owes) = let closed = between.closed in absurd (cc (closed, at))
own k l past (What.Start q e s) at early m = let closed = m.closed in absurd (cc (closed, at))
own k l past (What.End lost cells) at early m = Running (rw at refl)
own k l past w at early m = Booting at early

ended-or-not : (past : Past) (b : Bool) → context past 0 ≡ Some (What.Enter Body.Boot) → boot_ended past ≡ false → (now : Past) → context now 0 ≡ context past 0
    → boot_ended now ≡ (if b then true else boot_ended past) → Stage now
ended-or-not past true at early now same is = Running is
ended-or-not past false at early now same is = Booting (same ∙ at) (is ∙ early)

next : (k : Declarations) (l : Limits) (past : Past) (c : ℕ) (w : What) → Moment k l past c w → context past 0 ≡ Some (What.Enter Body.Boot) → boot_ended past ≡ false
    → Stage (entry_by c w ∷ past)
next k l past c w m at early = by_core (compared c 0)
  where
    by_core : Compared c 0 → Stage (entry_by c w ∷ past)
    by_core (Same t e) = subst (λ (n : ℕ). Stage (entry_by n w ∷ past)) (sym e) (own k l past w at early (subst (λ (n : ℕ). Moment k l past n w) e m))
    by_core (Other f e) = ended-or-not past (ends_boot w (context past c)) at early (entry_by c w ∷ past) (rw f refl) refl

still : (past : Past) (c : ℕ) (w : What) → boot_ended past ≡ true → boot_ended (entry_by c w ∷ past) ≡ true
still past c w over = by_test (ends_boot w (context past c))
  where
    by_test : (b : Bool) → (if b then true else boot_ended past) ≡ true
    by_test true = refl
    by_test false = over

pub stage : (k : Declarations) (l : Limits) (past : Past) → AllAllowed k l past → Stage past
stage k l [] all = Fresh refl
stage k l (e ∷ past) all = by_stage past e all (stage k l past all.1)
  where
    by_stage : (past : Past) (e : Entry) → AllAllowed k l (e ∷ past) → Stage past → Stage (e ∷ past)
    by_stage [] e all s = first k l e.core.0 e.what all.0.next
    by_stage (x ∷ past) e all (Fresh none) = absurd (cc none)
    by_stage (x ∷ past) e all (Booting at early) = next k l (x ∷ past) e.core.0 e.what (allowed-moment k l (x ∷ past) e all.1 all.0) at early
    by_stage (x ∷ past) e all (Running over) = Running (still (x ∷ past) e.core.0 e.what over)

-- boot is core 0's, and while it is open it has not ended

boot-is : (o : Option What) → is_boot o ≡ true → o ≡ Some (What.Enter Body.Boot)
boot-is None h = absurd (cc h)
boot-is (Some (What.Enter Body.Boot)) h = refl
boot-is (Some b) h = absurd (cc h)

no-boot : {k : Declarations} {past : Past} {c : ℕ} {b : Body} → Owes k past c (What.Enter b) → Some (What.Enter b) ≡ Some (What.Enter Body.Boot) → ⊥
no-boot (OwesAck n o g m is job un e) h = cc e
no-boot (OwesGlobalStart n o x is job un by e) h = cc (e, h)
no-boot (OwesLocalStart n o x is job done un e) h = cc (e, h)
no-boot (OwesLocalStop n o x is job done un e) h = cc (e, h)
no-boot (OwesGlobalStop n o x is job done at last e) h = cc (e, h)

own-boot : (k : Declarations) (l : Limits) (past : Past) (c : ℕ) (w : What) → Moment k l past c w → (context past c ≡ Some (What.Enter Body.Boot) → c ≡ 0)
    → context_after w (context past c) ≡ Some (What.Enter Body.Boot) → c ≡ 0
own-boot k l past c (What.Enter b) (EntersBoot none core is) older h = core
own-boot k l past c (What.Enter b) (EntersStep between owed owes) older h = absurd (no-boot owes h)
own-boot k l past c (What.Start q e s) m older h = absurd (cc h)
own-boot k l past c (What.End lost cells) m older h = absurd (cc h)
own-boot k l past c w m older h = older h

pub boot-core : (k : Declarations) (l : Limits) (past : Past) (c : ℕ) → AllAllowed k l past → context past c ≡ Some (What.Enter Body.Boot) → c ≡ 0
boot-core k l [] c all h = absurd (cc h)
boot-core k l (e ∷ past) c all h = by_core (compared e.core.0 c) (boot-core k l past c all.1)
  where
    by_core : Compared e.core.0 c → (context past c ≡ Some (What.Enter Body.Boot) → c ≡ 0) → c ≡ 0
    by_core (Same t same) older =
        own-boot k l past c e.what (subst (λ (n : ℕ). Moment k l past n e.what) same (allowed-moment k l past e all.1 all.0)) older (rw t at h)
    by_core (Other f other) older = older (rw f at h)

own-open : (k : Declarations) (l : Limits) (past : Past) (c : ℕ) (w : What) → Moment k l past c w → (context past c ≡ Some (What.Enter Body.Boot) → boot_ended past ≡ false)
    → context_after w (context past c) ≡ Some (What.Enter Body.Boot) → boot_ended (entry_by c w ∷ past) ≡ false
own-open k l past c (What.Enter b) (EntersBoot none core is) older h = ap boot_ended none
own-open k l past c (What.Enter b) (EntersStep between owed owes) older h = absurd (no-boot owes h)
own-open k l past c (What.Start q e s) m older h = absurd (cc h)
own-open k l past c (What.End lost cells) m older h = absurd (cc h)
own-open k l past c w m older h = older h

other-open : (k : Declarations) (l : Limits) (past : Past) (c d : ℕ) (w : What) → AllAllowed k l past → c ≢ d → context past d ≡ Some (What.Enter Body.Boot) → boot_ended past ≡ false
    → boot_ended (entry_by c w ∷ past) ≡ false
other-open k l past c d (What.End lost cells) all ne at early = by_test (is_boot (context past c)) refl
  where
    by_test : (b : Bool) → is_boot (context past c) ≡ b → (if b then true else boot_ended past) ≡ false
    by_test false off = early
    by_test true on = absurd (ne (boot-core k l past c all (boot-is (context past c) on) ∙ sym (boot-core k l past d all at)))
other-open k l past c d w all ne at early = early

pub boot-open : (k : Declarations) (l : Limits) (past : Past) (c : ℕ) → AllAllowed k l past → context past c ≡ Some (What.Enter Body.Boot) → boot_ended past ≡ false
boot-open k l [] c all h = refl
boot-open k l (e ∷ past) c all h = by_core (compared e.core.0 c) (boot-open k l past c all.1)
  where
    by_core : Compared e.core.0 c → (context past c ≡ Some (What.Enter Body.Boot) → boot_ended past ≡ false) → boot_ended (e ∷ past) ≡ false
    by_core (Same t same) older =
        subst (λ (n : ℕ). boot_ended (entry_by n e.what ∷ past) ≡ false) (sym same)
        (own-open k l past c e.what (subst (λ (n : ℕ). Moment k l past n e.what) same (allowed-moment k l past e all.1 all.0)) older (rw t at h))
    by_core (Other f other) older = other-open k l past e.core.0 c e.what all.1 other (rw f at h) (older (rw f at h))
