-- Stopped objects are quiet.
use Rattle.std.proofs.Common.{◌≡◌, ◌≢◌, inr, ℕ, ◌==◌, Bool, true, false, [], ◌∷◌, Option, Some, None, refl, sym, ◌∙◌, subst, ap, if◌then◌else◌}
use Rattle.std.proofs.lemmas.Bool.{false_from_ne_true}
use Rattle.std.specs.Option.{option_map_or}
use Rattle.em_log.specs.declared.declarations.Declarations.{Declarations}
use Rattle.em_log.specs.declared.entry.What.{What}
use Rattle.em_log.specs.declared.entry.Begun.{Begun}
use Rattle.em_log.specs.declared.ids.EoState.{EoState}
use Rattle.em_log.specs.declared.ids.Limits.{Limits}
use Rattle.em_log.specs.History.{Past, entry_by}
use Rattle.em_log.specs.Declarations.{object_of}
use Rattle.em_log.specs.Operations.{Operation, operation}
use Rattle.em_log.specs.States.{state, state_begun, state_done}
use Rattle.em_log.specs.Lawful.{AllAllowed}
use Rattle.em_log.specs.Laws.{Always, Each, stopped_by, is_stopped, NotStopped, NoneOfStopped, StoppedIsQuiet, StopQuiet}
use Rattle.em_moments.proofs.Choices.{IsReady}
use Rattle.em_moments.proofs.Moments.{Moment, allowed-moment}
use Rattle.em_laws.proofs.Cores.{Compared, Same, Other, compared, some-inj}
use Rattle.em_laws.proofs.Served.{Serves, ServesAfter, ServedBefore, TakesNow, serves-after, cons-some}
use Rattle.em_laws.proofs.Dones.{Completes, CompletesChange, CompletesStart, FailsStart, CompletesStop, done-completes}
use Rattle.em_laws.proofs.Respects.{Respects, all-respect}

-- an object that is stopped does not run

abbrev IsOff : ℕ → EoState → Bool → Type 0
IsOff x s b = b ≡ true → s ≢ EoState.Running

off-begun : (x : ℕ) (job : Begun) (s : EoState) (b : Bool) → IsOff x s b → IsOff x (state_begun x job s) b
off-begun x (Begun.Start y) s b h = by_test (y.0 == x)
  where
    by_test : (v : Bool) → IsOff x (if v then EoState.Starting else s) b
    by_test true = λ stopped e. absurd (cc e)
    by_test false = h
off-begun x (Begun.Stop y) s b h = by_test (y.0 == x)
  where
    by_test : (v : Bool) → IsOff x (if v then EoState.Stopping else s) b
    by_test true = λ stopped e. absurd (cc e)
    by_test false = h
off-begun x (Begun.Modify g m) s b h = h

off-done : (x : ℕ) (job : Begun) (ok : Bool) (s : EoState) (b : Bool) → IsOff x s b → IsOff x (state_done x job ok s) (stopped_by x job ok b)
off-done x (Begun.Start y) true s b h = by_test (y.0 == x)
  where
    by_test : (v : Bool) → IsOff x (if v then EoState.Running else s) (if v then false else b)
    by_test true = λ stopped e. absurd (cc stopped)
    by_test false = h
off-done x (Begun.Start y) false s b h = by_test (y.0 == x)
  where
    by_test : (v : Bool) → IsOff x (if v then EoState.Created else s) b
    by_test true = λ stopped e. absurd (cc e)
    by_test false = h
off-done x (Begun.Stop y) true s b h = by_test (y.0 == x)
  where
    by_test : (v : Bool) → IsOff x (if v then EoState.Created else s) (if v then true else b)
    by_test true = λ stopped e. absurd (cc e)
    by_test false = h
off-done x (Begun.Stop y) false s b h = by_test (y.0 == x)
  where
    by_test : (v : Bool) → IsOff x (if v then EoState.Created else s) b
    by_test true = λ stopped e. absurd (cc e)
    by_test false = h
off-done x (Begun.Modify g m) true s b h = h
off-done x (Begun.Modify g m) false s b h = h

off-after : (k : Declarations) (past : Past) (x d : ℕ) (w : What) → IsOff x (state k past x) (is_stopped past x) → IsOff x (state k (entry_by d w ∷ past) x) (is_stopped (entry_by d w ∷ past) x)
off-after k past x d (What.Begin op job notes) h = off-begun x job (state k past x) (is_stopped past x) h
off-after k past x d (What.Done op ok) h = by_operation (operation past op.0)
  where
    by_operation : (o : Option Operation) → IsOff x (option_map_or (λ p. state_done x p.job ok (state k past x)) o (state k past x)) (option_map_or (λ p. stopped_by x p.job ok (is_stopped past x)) o (is_stopped past x))
    by_operation None = h
    by_operation (Some o) = off-done x o.job ok (state k past x) (is_stopped past x) h
off-after k past x d w h = h

off : (k : Declarations) (past : Past) (x : ℕ) → is_stopped past x ≡ true → state k past x ≢ EoState.Running
off k [] x = λ h. absurd (cc h)
off k (e ∷ past) x = off-after k past x e.core.0 e.what (off k past x)

ready-not_stopped : (k : Declarations) (past : Past) (c q : ℕ) → IsReady k past c q → NotStopped k past q
ready-not_stopped k past c q ready = λ x is. false_from_ne_true _ (λ stopped.
    let r = ready.runs in
    let same : r.0 ≡ x = some-inj _ _ (sym r.1.0 ∙ is) in
    off k past x stopped (ap (state k past) (sym same) ∙ r.1.1))

-- what is stopped by an entry respects it

stopped-job : (k : Declarations) (past : Past) (c q x : ℕ) (job : Begun) (ok b : Bool) → Respects k job c q → object_of k q ≡ Some x → b ≡ false → stopped_by x job ok b ≡ false
stopped-job k past c q x (Begun.Start y) true b r is h = by_test (y.0 == x)
  where
    by_test : (v : Bool) → (if v then false else b) ≡ false
    by_test true = refl
    by_test false = h
stopped-job k past c q x (Begun.Start y) false b r is h = h
stopped-job k past c q x (Begun.Stop y) true b r is h = by_test (compared y.0 x)
  where
    by_test : Compared y.0 x → (if y.0 == x then true else b) ≡ false
    by_test (Same _ e) = absurd (r (is ∙ ap (λ (i : ℕ). Some i) (sym e)))
    by_test (Other f _) = rw f h
stopped-job k past c q x (Begun.Stop y) false b r is h = h
stopped-job k past c q x (Begun.Modify g m) true b r is h = h
stopped-job k past c q x (Begun.Modify g m) false b r is h = h

stopped-failed : (x : ℕ) (job : Begun) (b : Bool) → stopped_by x job false b ≡ b
stopped-failed x (Begun.Start y) b = refl
stopped-failed x (Begun.Stop y) b = refl
stopped-failed x (Begun.Modify g m) b = refl

stopped-done : (k : Declarations) (l : Limits) (past : Past) (c q n x : ℕ) (ok : Bool) → AllAllowed k l past → Completes k past n ok → Serves k past c q → object_of k q ≡ Some x
    → is_stopped past x ≡ false → option_map_or (λ o. stopped_by x o.job ok (is_stopped past x)) (operation past n) (is_stopped past x) ≡ false
stopped-done k l past c q n x ok all (CompletesChange o g m at job un e acks) s is h =
    rw at (stopped-job k past c q x o.job ok _ (all-respect k l past all n o at un acks c q s) is h)
stopped-done k l past c q n x ok all (CompletesStart o y at job un e global acks) s is h =
    rw at (stopped-job k past c q x o.job ok _ (all-respect k l past all n o at un acks c q s) is h)
stopped-done k l past c q n x ok all (FailsStart o y at job un e global) s is h =
    rw (at, e) (stopped-failed x o.job (is_stopped past x) ∙ h)
stopped-done k l past c q n x ok all (CompletesStop o y at job un e global acks) s is h =
    rw at (stopped-job k past c q x o.job ok _ (all-respect k l past all n o at un acks c q s) is h)

still-not_stopped : (k : Declarations) (l : Limits) (past : Past) (d : ℕ) (w : What) (c q : ℕ) → AllAllowed k l past → Moment k l past d w → Serves k past c q → NotStopped k past q
    → NotStopped k (entry_by d w ∷ past) q
still-not_stopped k l past d (What.Done op ok) c q all m s h = λ x is. stopped-done k l past c q op.0 x ok all (done-completes k l past d op ok all m) s is (h x is)
still-not_stopped k l past d w c q all m s h = h

next-quiet : (k : Declarations) (l : Limits) (past : Past) (d : ℕ) (w : What) → AllAllowed k l past → Moment k l past d w → StoppedIsQuiet k past → StoppedIsQuiet k (entry_by d w ∷ past)
next-quiet k l past d w all m older c q s = by_after (serves-after k l past c q d w m s)
  where
    by_after : ServesAfter k past c q d w → NotStopped k (entry_by d w ∷ past) q
    by_after (ServedBefore was) = still-not_stopped k l past d w c q all m was (older c q was)
    by_after (TakesNow n t same e ready) = subst (λ v. NotStopped k (entry_by d v ∷ past) q) (sym e) (ready-not_stopped k past c q ready)

stopped-quiet : (k : Declarations) (l : Limits) (past : Past) → AllAllowed k l past → StoppedIsQuiet k past
stopped-quiet k l [] all = λ c q s x is. refl
stopped-quiet k l (e ∷ past) all = next-quiet k l past e.core.0 e.what all.1 (allowed-moment k l past e all.1 all.0) (stopped-quiet k l past all.1)

none-of-stopped : (k : Declarations) (l : Limits) (past : Past) (d : ℕ) (w : What) → Moment k l past d w → StoppedIsQuiet k past → NoneOfStopped k past d w
none-of-stopped k l past d (What.Take q n t) m quiet = ready-not_stopped k past d q.0 m.ready
none-of-stopped k l past d (What.Start q e s) m quiet = quiet d q.0 (inr (cons-some m.item _ m.rest m.taken, m.queue))
none-of-stopped k l past d w m quiet = tt

stop-entries : (k : Declarations) (l : Limits) (past : Past) → AllAllowed k l past → Each (NoneOfStopped k) past
stop-entries k l [] all = tt
stop-entries k l (e ∷ past) all =
    (none-of-stopped k l past e.core.0 e.what (allowed-moment k l past e all.1 all.0) (stopped-quiet k l past all.1), stop-entries k l past all.1)

stop-after : (k : Declarations) (l : Limits) (past : Past) → AllAllowed k l past → Always (StoppedIsQuiet k) past
stop-after k l [] all = stopped-quiet k l [] all
stop-after k l (e ∷ past) all = (stopped-quiet k l (e ∷ past) all, stop-after k l past all.1)

-- stopped objects are quiet
pub stop-quiet : (k : Declarations) (l : Limits) (past : Past) → AllAllowed k l past → StopQuiet k past
stop-quiet k l past all = record { entries = stop-entries k l past all; after = stop-after k l past all }
