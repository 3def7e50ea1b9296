-- Changed queue groups are quiet.
use Rattle.std.proofs.Common.{◌≡◌, ℕ, ◌==◌, Bool, true, false, [], ◌∷◌, Option, Some, None, refl, sym, ◌∙◌, subst, ap, if◌then◌else◌}
use Rattle.std.specs.Option.{option_map_or}
use Rattle.em_log.specs.declared.declarations.Declarations.{Declarations}
use Rattle.em_log.specs.declared.entry.What.{What}
use Rattle.em_log.specs.declared.entry.Begun.{Begun}
use Rattle.em_log.specs.declared.ids.Limits.{Limits}
use Rattle.em_log.specs.History.{Past, entry_by}
use Rattle.em_log.specs.Declarations.{group_of}
use Rattle.em_log.specs.Operations.{operation}
use Rattle.em_log.specs.States.{mask, mask_done, change, within_change, effective}
use Rattle.em_log.specs.Eligible.{has_core}
use Rattle.em_log.specs.Lawful.{AllAllowed}
use Rattle.em_log.specs.Laws.{Always, Each, settled_by, settled, InSettled, TakesInSettled, ServedInSettled, GroupQuiet}
use Rattle.em_moments.proofs.Choices.{IsReady}
use Rattle.em_moments.proofs.Moments.{Moment, allowed-moment}
use Rattle.em_laws.proofs.Cores.{Compared, Same, Other, compared, none-some, some-inj}
use Rattle.em_laws.proofs.Served.{Serves, ServesAfter, ServedBefore, TakesNow, serves-after}
use Rattle.em_laws.proofs.Dones.{Completes, CompletesChange, CompletesStart, FailsStart, CompletesStop, done-completes}
use Rattle.em_laws.proofs.Respects.{Respects, all-respect, and-core}

-- the mask of a change that has completed is the group's mask

abbrev IsMask : ℕ → Option ℕ → Type 0
IsMask m s = (n : ℕ) → s ≡ Some n → m ≡ n

mask-done : (g : ℕ) (job : Begun) (m : ℕ) (s : Option ℕ) → IsMask m s → IsMask (mask_done g job m) (settled_by g job true s)
mask-done g (Begun.Start y) m s h = h
mask-done g (Begun.Stop y) m s h = h
mask-done g (Begun.Modify i new) m s h = by_test (i.0 == g)
  where
    by_test : (v : Bool) → IsMask (if v then new else m) (if v then Some new else s)
    by_test true = λ n e. some-inj _ _ e
    by_test false = h

mask-completes : (k : Declarations) (past : Past) (g n : ℕ) (ok : Bool) → Completes k past n ok → IsMask (mask k past g) (settled past g)
    → IsMask (option_map_or (λ o. mask_done g o.job (mask k past g)) (operation past n) (mask k past g)) (option_map_or (λ o. settled_by g o.job ok (settled past g)) (operation past n) (settled past g))
mask-completes k past g n ok (CompletesChange o i m at job un e acks) h = rw (at, e) (mask-done g o.job (mask k past g) (settled past g) h)
mask-completes k past g n ok (CompletesStart o x at job un e global acks) h = rw (at, e) (mask-done g o.job (mask k past g) (settled past g) h)
mask-completes k past g n ok (FailsStart o x at job un e global) h = rw (at, e, job) h
mask-completes k past g n ok (CompletesStop o x at job un e global acks) h = rw (at, e) (mask-done g o.job (mask k past g) (settled past g) h)

mask-after : (k : Declarations) (l : Limits) (past : Past) (d : ℕ) (w : What) (g : ℕ) → AllAllowed k l past → Moment k l past d w → IsMask (mask k past g) (settled past g)
    → IsMask (mask k (entry_by d w ∷ past) g) (settled (entry_by d w ∷ past) g)
mask-after k l past d (What.Done op ok) g all m h = mask-completes k past g op.0 ok (done-completes k l past d op ok all m) h
mask-after k l past d w g all m h = h

settled-mask : (k : Declarations) (l : Limits) (past : Past) (g : ℕ) → AllAllowed k l past → IsMask (mask k past g) (settled past g)
settled-mask k l [] g all = λ n e. absurd (none-some n e)
settled-mask k l (e ∷ past) g all = mask-after k l past e.core.0 e.what g all.1 (allowed-moment k l past e all.1 all.0) (settled-mask k l past g all.1)

within-core : (m c : ℕ) (o : Option ℕ) → has_core (within_change m o) c ≡ true → has_core m c ≡ true
within-core m c None h = h
within-core m c (Some n) h = (and-core m n c h).0

ready-settled : (k : Declarations) (l : Limits) (past : Past) (c q : ℕ) → AllAllowed k l past → IsReady k past c q → InSettled k past c q
ready-settled k l past c q all ready = λ g m is at.
    let in_group : has_core (effective k past g) c ≡ true = rw is at ready.in_group in
    let in_mask : has_core (mask k past g) c ≡ true = within-core (mask k past g) c (change past g) in_group in
    subst (λ n. has_core n c ≡ true) (settled-mask k l past g all m at) in_mask

-- what an entry settles is respected

settled-job : (k : Declarations) (c q g m : ℕ) (job : Begun) (ok : Bool) (s : Option ℕ) → Respects k job c q → group_of k q ≡ Some g → (s ≡ Some m → has_core m c ≡ true)
    → settled_by g job ok s ≡ Some m → has_core m c ≡ true
settled-job k c q g m (Begun.Start y) true s r is older = older
settled-job k c q g m (Begun.Start y) false s r is older = older
settled-job k c q g m (Begun.Stop y) true s r is older = older
settled-job k c q g m (Begun.Stop y) false s r is older = older
settled-job k c q g m (Begun.Modify i new) true s r is older = by_test (compared i.0 g)
  where
    by_test : Compared i.0 g → (if i.0 == g then Some new else s) ≡ Some m → has_core m c ≡ true
    by_test (Same t e) h =
        let here : has_core new c ≡ true = r (is ∙ ap (λ (j : ℕ). Some j) (sym e)) in
        subst (λ n. has_core n c ≡ true) (some-inj _ _ (rw t at h)) here
    by_test (Other f _) h = older (rw f at h)
settled-job k c q g m (Begun.Modify i new) false s r is older = older

settled-failed : (g : ℕ) (job : Begun) (s : Option ℕ) → settled_by g job false s ≡ s
settled-failed g (Begun.Start y) s = refl
settled-failed g (Begun.Stop y) s = refl
settled-failed g (Begun.Modify i m) s = refl

settled-done : (k : Declarations) (l : Limits) (past : Past) (c q n g m : ℕ) (ok : Bool) → AllAllowed k l past → Completes k past n ok → Serves k past c q → group_of k q ≡ Some g
    → (settled past g ≡ Some m → has_core m c ≡ true) → option_map_or (λ o. settled_by g o.job ok (settled past g)) (operation past n) (settled past g) ≡ Some m → has_core m c ≡ true
settled-done k l past c q n g m ok all (CompletesChange o i new at job un e acks) s is older h =
    settled-job k c q g m o.job ok (settled past g) (all-respect k l past all n o at un acks c q s) is older (rw at at h)
settled-done k l past c q n g m ok all (CompletesStart o y at job un e global acks) s is older h =
    settled-job k c q g m o.job ok (settled past g) (all-respect k l past all n o at un acks c q s) is older (rw at at h)
settled-done k l past c q n g m ok all (FailsStart o y at job un e global) s is older h =
    older (sym (settled-failed g o.job (settled past g)) ∙ (rw (at, e) at h))
settled-done k l past c q n g m ok all (CompletesStop o y at job un e global acks) s is older h =
    settled-job k c q g m o.job ok (settled past g) (all-respect k l past all n o at un acks c q s) is older (rw at at h)

still-settled : (k : Declarations) (l : Limits) (past : Past) (d : ℕ) (w : What) (c q : ℕ) → AllAllowed k l past → Moment k l past d w → Serves k past c q → InSettled k past c q
    → InSettled k (entry_by d w ∷ past) c q
still-settled k l past d (What.Done op ok) c q all m s h = λ g new is. settled-done k l past c q op.0 g new ok all (done-completes k l past d op ok all m) s is (h g new is)
still-settled k l past d w c q all m s h = h

next-served : (k : Declarations) (l : Limits) (past : Past) (d : ℕ) (w : What) → AllAllowed k l past → Moment k l past d w → ServedInSettled k past → ServedInSettled k (entry_by d w ∷ past)
next-served k l past d w all m older c q s = by_after (serves-after k l past c q d w m s)
  where
    by_after : ServesAfter k past c q d w → InSettled k (entry_by d w ∷ past) c q
    by_after (ServedBefore was) = still-settled k l past d w c q all m was (older c q was)
    by_after (TakesNow n t same e ready) = subst (λ v. InSettled k (entry_by d v ∷ past) c q) (sym e) (ready-settled k l past c q all ready)

served-settled : (k : Declarations) (l : Limits) (past : Past) → AllAllowed k l past → ServedInSettled k past
served-settled k l [] all = λ c q s g m is at. absurd (none-some m at)
served-settled k l (e ∷ past) all = next-served k l past e.core.0 e.what all.1 (allowed-moment k l past e all.1 all.0) (served-settled k l past all.1)

takes-settled : (k : Declarations) (l : Limits) (past : Past) (d : ℕ) (w : What) → AllAllowed k l past → Moment k l past d w → TakesInSettled k past d w
takes-settled k l past d (What.Take q n t) all m = ready-settled k l past d q.0 all m.ready
takes-settled k l past d w all m = tt

group-entries : (k : Declarations) (l : Limits) (past : Past) → AllAllowed k l past → Each (TakesInSettled k) past
group-entries k l [] all = tt
group-entries k l (e ∷ past) all = (takes-settled k l past e.core.0 e.what all.1 (allowed-moment k l past e all.1 all.0), group-entries k l past all.1)

group-after : (k : Declarations) (l : Limits) (past : Past) → AllAllowed k l past → Always (ServedInSettled k) past
group-after k l [] all = served-settled k l [] all
group-after k l (e ∷ past) all = (served-settled k l (e ∷ past) all, group-after k l past all.1)

-- changed queue groups are quiet
pub group-quiet : (k : Declarations) (l : Limits) (past : Past) → AllAllowed k l past → GroupQuiet k past
group-quiet k l past all = record { entries = group-entries k l past all; after = group-after k l past all }
