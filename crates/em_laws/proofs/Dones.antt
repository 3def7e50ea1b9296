-- Each operation is done once, and what stands of it then.
use Rattle.std.proofs.Common.{◌≡◌, ◌⊎◌, inl, inr, ℕ, ◌<◌, Bool, true, false, [], ◌∷◌, Option, Some, None, refl, sym, ◌∙◌, subst, ap}
use Rattle.em_log.specs.declared.declarations.Declarations.{Declarations}
use Rattle.em_log.specs.declared.entry.Entry.{Entry}
use Rattle.em_log.specs.declared.entry.What.{What}
use Rattle.em_log.specs.declared.entry.Body.{Body}
use Rattle.em_log.specs.declared.entry.Begun.{Begun}
use Rattle.em_log.specs.declared.ids.OpId.{OpId}
use Rattle.em_log.specs.declared.ids.EoId.{EoId}
use Rattle.em_log.specs.declared.ids.GroupId.{GroupId}
use Rattle.em_log.specs.declared.ids.Cells.{Cells}
use Rattle.em_log.specs.declared.ids.Limits.{Limits}
use Rattle.em_log.specs.History.{Past, entry_by, has}
use Rattle.em_log.specs.Operations.{Operation, operation, done, global_done, acked, all_acked}
use Rattle.em_log.specs.Lawful.{AllAllowed}
use Rattle.em_log.specs.Laws.{Always}
use Rattle.em_moments.proofs.Steps.{Owes, OwesAck, OwesGlobalStart, OwesLocalStart, OwesLocalStop, OwesGlobalStop, step-owes}
use Rattle.em_moments.proofs.Moments.{Moment, DoneMoment, DoneChange, DoneStart, FailedStart, DoneStop, allowed-moment}
use Rattle.em_laws.proofs.Cores.{Compared, Same, Other, compared, if-own, none-some, some-inj}
use Rattle.em_laws.proofs.Acks.{all-acked-has, all-acked-more}
use Rattle.em_laws.proofs.Begun.{begun-kept}
use Rattle.em_laws.proofs.Steps.{InStep, InBoot, InGlobalStart, InLocalStart, InLocalStop, InGlobalStop, Contexts, contexts, always-here, always-before, Finishing, FinishingStart, FinishingStop, global-ends}

-- what stands of an operation that is done
pub data Finished (k : Declarations) (past : Past) (n : ℕ) : Type 0 where
  FinishedChange : (o : Operation) (g : GroupId) (m : ℕ) → operation past n ≡ Some o → o.job ≡ Begun.Modify g m → all_acked k past n ≡ true → Finished k past n
  FinishedStart : (o : Operation) (x : EoId) → operation past n ≡ Some o → o.job ≡ Begun.Start x
      → (global_done past n ≡ Some false) ⊎ ((global_done past n ≡ Some true) × (all_acked k past n ≡ true)) → Finished k past n
  FinishedStop : (o : Operation) (x : EoId) → operation past n ≡ Some o → o.job ≡ Begun.Stop x → global_done past n ≡ Some true → Finished k past n

abbrev pub AllFinished : Declarations → Past → Type 0
AllFinished k past = (n : ℕ) (b : Bool) → done past n ≡ Some b → Finished k past n

-- what stands of an operation as it is done: it was not done before
pub data Completes (k : Declarations) (past : Past) (n : ℕ) (ok : Bool) : Type 0 where
  CompletesChange : (o : Operation) (g : GroupId) (m : ℕ) → operation past n ≡ Some o → o.job ≡ Begun.Modify g m → done past n ≡ None → ok ≡ true
      → all_acked k past n ≡ true → Completes k past n ok
  CompletesStart : (o : Operation) (x : EoId) → operation past n ≡ Some o → o.job ≡ Begun.Start x → done past n ≡ None → ok ≡ true
      → global_done past n ≡ Some true → all_acked k past n ≡ true → Completes k past n ok
  FailsStart : (o : Operation) (x : EoId) → operation past n ≡ Some o → o.job ≡ Begun.Start x → done past n ≡ None → ok ≡ false
      → global_done past n ≡ Some false → Completes k past n ok
  CompletesStop : (o : Operation) (x : EoId) → operation past n ≡ Some o → o.job ≡ Begun.Stop x → done past n ≡ None → ok ≡ true
      → global_done past n ≡ Some true → all_acked k past n ≡ true → Completes k past n ok

undone : (past : Past) (n : ℕ) → ((b : Bool) → done past n ≡ Some b → ⊥) → done past n ≡ None
undone past n h = by_done (done past n) refl
  where
    by_done : (o : Option Bool) → done past n ≡ o → o ≡ None
    by_done None is = refl
    by_done (Some b) is = absurd (h b is)

undone-change : (k : Declarations) (past : Past) (c n : ℕ) (o : Operation) (g : GroupId) (m : ℕ) → c < k.cores → AllFinished k past → operation past n ≡ Some o
    → o.job ≡ Begun.Modify g m → has (acked past n) c ≡ false → done past n ≡ None
undone-change k past c n o g m lt held is job un = undone past n (λ b h. by_finished (held n b h))
  where
    by_finished : Finished k past n → ⊥
    by_finished (FinishedChange p h i at job2 all) = absurd (cc (un, all-acked-has k past n c all lt))
    by_finished (FinishedStart p x at job2 f) = let one : o ≡ p = some-inj _ _ (sym is ∙ at) in absurd (cc (one, job, job2))
    by_finished (FinishedStop p x at job2 f) = let one : o ≡ p = some-inj _ _ (sym is ∙ at) in absurd (cc (one, job, job2))

undone-started : (k : Declarations) (past : Past) (c n : ℕ) (o : Operation) (x : EoId) → c < k.cores → AllFinished k past → operation past n ≡ Some o
    → o.job ≡ Begun.Start x → global_done past n ≡ Some true → has (acked past n) c ≡ false → done past n ≡ None
undone-started k past c n o x lt held is job global un = undone past n (λ b h. by_finished (held n b h))
  where
    by_finished : Finished k past n → ⊥
    by_finished (FinishedChange p h i at job2 all) = absurd (cc (un, all-acked-has k past n c all lt))
    by_finished (FinishedStart p x at job2 (inl f)) = absurd (cc (global, f))
    by_finished (FinishedStart p x at job2 (inr f)) = absurd (cc (un, all-acked-has k past n c f.1 lt))
    by_finished (FinishedStop p x at job2 f) = let one : o ≡ p = some-inj _ _ (sym is ∙ at) in absurd (cc (one, job, job2))

undone-global : (k : Declarations) (past : Past) (n : ℕ) (o : Operation) → AllFinished k past → operation past n ≡ Some o
    → ((g : GroupId) (m : ℕ) → o.job ≡ Begun.Modify g m → ⊥) → global_done past n ≡ None → done past n ≡ None
undone-global k past n o held is other none = undone past n (λ b h. by_finished (held n b h))
  where
    by_finished : Finished k past n → ⊥
    by_finished (FinishedChange p h i at job2 all) = let one : o ≡ p = some-inj _ _ (sym is ∙ at) in other h i (ap (λ (q : Operation). q.job) one ∙ job2)
    by_finished (FinishedStart p x at job2 (inl f)) = absurd (cc (none, f))
    by_finished (FinishedStart p x at job2 (inr f)) = absurd (cc (none, f.0))
    by_finished (FinishedStop p x at job2 f) = absurd (cc (none, f))

all-before : (k : Declarations) (l : Limits) (past before : Past) (e : Entry) → past ≡ e ∷ before → AllAllowed k l past → AllAllowed k l before × (e.core.0 < k.cores)
all-before k l past before e is all = let a = subst (AllAllowed k l) is all in (a.1, a.0.core)

completes-change : (k : Declarations) (l : Limits) (before : Past) (c : ℕ) (op : OpId) → c < k.cores → AllFinished k before → Owes k before c (What.Ack op)
    → all_acked k (entry_by c (What.Ack op) ∷ before) op.0 ≡ true → Completes k (entry_by c (What.Ack op) ∷ before) op.0 true
completes-change k l before c op lt held (OwesAck n o g m is job un e) all =
    let same : op.0 ≡ n = ap (λ (i : OpId). i.0) (cc) in
    let is2 : operation before op.0 ≡ Some o = ap (operation before) same ∙ is in
    let un2 : has (acked before op.0) c ≡ false = ap (λ i. has (acked before i) c) same ∙ un in
    CompletesChange o g m is2 job (undone-change k before c op.0 o g m lt held is2 job un2) refl all
completes-change k l before c op lt held (OwesGlobalStart n o x is job none core e) all = absurd cc
completes-change k l before c op lt held (OwesLocalStart n o x is job done un e) all = absurd cc
completes-change k l before c op lt held (OwesLocalStop n o x is job none un e) all = absurd cc
completes-change k l before c op lt held (OwesGlobalStop n o x is job none at last e) all = absurd cc

completes-start : (k : Declarations) (l : Limits) (before : Past) (c lost : ℕ) (cells : Option Cells) (op : OpId) → c < k.cores → AllFinished k before → InStep k before c (Body.LocalStart op)
    → all_acked k (entry_by c (What.Ack op) ∷ entry_by c (What.End lost cells) ∷ before) op.0 ≡ true → Completes k (entry_by c (What.Ack op) ∷ entry_by c (What.End lost cells) ∷ before) op.0 true
completes-start k l before c lost cells op lt held (InBoot e) all = absurd cc
completes-start k l before c lost cells op lt held (InGlobalStart n o x e is job none core) all = absurd cc
completes-start k l before c lost cells op lt held (InLocalStart n o x e is job global un) all =
    let same : op.0 ≡ n = ap (λ (i : OpId). i.0) (cc) in
    let is2 : operation before op.0 ≡ Some o = ap (operation before) same ∙ is in
    let global2 : global_done before op.0 ≡ Some true = ap (global_done before) same ∙ global in
    let un2 : has (acked before op.0) c ≡ false = ap (λ i. has (acked before i) c) same ∙ un in
    CompletesStart o x is2 job (undone-started k before c op.0 o x lt held is2 job global2 un2) refl global2 all
completes-start k l before c lost cells op lt held (InLocalStop n o x e is job un) all = absurd cc
completes-start k l before c lost cells op lt held (InGlobalStop n o x e is job none done last) all = absurd cc

fails-start : (k : Declarations) (l : Limits) (before : Past) (c lost : ℕ) (cells : Option Cells) (op : OpId) → AllFinished k before → InStep k before c (Body.GlobalStart op)
    → Completes k (entry_by c (What.GlobalDone op false) ∷ entry_by c (What.End lost cells) ∷ before) op.0 false
fails-start k l before c lost cells op held (InBoot e) = absurd cc
fails-start k l before c lost cells op held (InGlobalStart n o x e is job none core) =
    let same : op.0 ≡ n = ap (λ (i : OpId). i.0) (cc) in
    let is2 : operation before op.0 ≡ Some o = ap (operation before) same ∙ is in
    let none2 : global_done before op.0 ≡ None = ap (global_done before) same ∙ none in
    FailsStart o x is2 job (undone-global k before op.0 o held is2 (λ g m j. absurd (cc (j, job))) none2) refl (if-own op.0 _ _)
fails-start k l before c lost cells op held (InLocalStart n o x e is job global un) = absurd cc
fails-start k l before c lost cells op held (InLocalStop n o x e is job un) = absurd cc
fails-start k l before c lost cells op held (InGlobalStop n o x e is job none done last) = absurd cc

completes-stop : (k : Declarations) (l : Limits) (before : Past) (c lost : ℕ) (cells : Option Cells) (op : OpId) → AllFinished k before → InStep k before c (Body.GlobalStop op)
    → Completes k (entry_by c (What.GlobalDone op true) ∷ entry_by c (What.End lost cells) ∷ before) op.0 true
completes-stop k l before c lost cells op held (InBoot e) = absurd cc
completes-stop k l before c lost cells op held (InGlobalStart n o x e is job none core) = absurd cc
completes-stop k l before c lost cells op held (InLocalStart n o x e is job global un) = absurd cc
completes-stop k l before c lost cells op held (InLocalStop n o x e is job un) = absurd cc
completes-stop k l before c lost cells op held (InGlobalStop n o x e is job none all last) =
    let same : op.0 ≡ n = ap (λ (i : OpId). i.0) (cc) in
    let is2 : operation before op.0 ≡ Some o = ap (operation before) same ∙ is in
    let none2 : global_done before op.0 ≡ None = ap (global_done before) same ∙ none in
    let all2 : all_acked k before op.0 ≡ true = ap (all_acked k before) same ∙ all in
    CompletesStop o x is2 job (undone-global k before op.0 o held is2 (λ g m j. absurd (cc (j, job))) none2) refl (if-own op.0 _ _) all2

told-so : (k : Declarations) (past now : Past) (n : ℕ) (b ok : Bool) → past ≡ now → ok ≡ b → Completes k now n b → Completes k past n ok
told-so k past now n b ok was e d = subst (λ p. Completes k p n ok) (sym was) (subst (λ v. Completes k now n v) (sym e) d)

-- an operation that is done now had begun and was not done
pub completes : (k : Declarations) (l : Limits) (past : Past) (c : ℕ) (op : OpId) (ok : Bool) → AllAllowed k l past → Always (AllFinished k) past → DoneMoment k past c op ok
    → Completes k past op.0 ok
completes k l past c op ok all held (DoneChange before was owed acked e) =
    let a = all-before k l past before _ was all in
    let d : Completes k (entry_by c (What.Ack op) ∷ before) op.0 true =
    completes-change k l before c op a.1 (always-before (AllFinished k) past before _ was held) (step-owes k before c _ owed) (subst (λ p. all_acked k p op.0 ≡ true) was acked) in
    told-so k past _ op.0 _ ok was e d
completes k l past c op ok all held (DoneStart before lost cells was is acked e) =
    let a = all-before k l past _ _ was all in
    let b = all-before k l _ before _ refl a.0 in
    let h = subst (Always (AllFinished k)) was held in
    let s = always-here (Contexts k) before (contexts k l before b.0) in
    let d : Completes k (entry_by c (What.Ack op) ∷ entry_by c (What.End lost cells) ∷ before) op.0 true =
    completes-start k l before c lost cells op a.1 (always-here (AllFinished k) before h.1.1) (s.steps c _ is) (subst (λ p. all_acked k p op.0 ≡ true) was acked) in
    told-so k past _ op.0 _ ok was e d
completes k l past c op ok all held (FailedStart before lost cells was is e) =
    let a = all-before k l past _ _ was all in
    let b = all-before k l _ before _ refl a.0 in
    let h = subst (Always (AllFinished k)) was held in
    let s = always-here (Contexts k) before (contexts k l before b.0) in
    let d : Completes k (entry_by c (What.GlobalDone op false) ∷ entry_by c (What.End lost cells) ∷ before) op.0 false =
    fails-start k l before c lost cells op (always-here (AllFinished k) before h.1.1) (s.steps c _ is) in
    told-so k past _ op.0 _ ok was e d
completes k l past c op ok all held (DoneStop before lost cells was is e) =
    let a = all-before k l past _ _ was all in
    let b = all-before k l _ before _ refl a.0 in
    let h = subst (Always (AllFinished k)) was held in
    let s = always-here (Contexts k) before (contexts k l before b.0) in
    let d : Completes k (entry_by c (What.GlobalDone op true) ∷ entry_by c (What.End lost cells) ∷ before) op.0 true =
    completes-stop k l before c lost cells op (always-here (AllFinished k) before h.1.1) (s.steps c _ is) in
    told-so k past _ op.0 _ ok was e d

-- the end of a global step is told once
global-kept : (k : Declarations) (l : Limits) (past : Past) (d : ℕ) (w : What) (n : ℕ) (v : Bool) → AllAllowed k l past → Moment k l past d w
    → global_done past n ≡ Some v → global_done (entry_by d w ∷ past) n ≡ Some v
global-kept k l past d (What.GlobalDone op ok) n v all m h = by_test (compared op.0 n) (global-ends k past d op ok (contexts k l past all) m).finishing
  where
    clash : op.0 ≡ n → Finishing k past d op.0 → ⊥
    clash same (FinishingStart p y at job none core) =
        let now : global_done past n ≡ None = ap (global_done past) (sym same) ∙ none in absurd (cc (now, h))
    clash same (FinishingStop p y at job none done last) =
        let now : global_done past n ≡ None = ap (global_done past) (sym same) ∙ none in absurd (cc (now, h))

    by_test : Compared op.0 n → Finishing k past d op.0 → global_done (entry_by d (What.GlobalDone op ok) ∷ past) n ≡ Some v
    by_test (Same _ e) f = absurd (clash e f)
    by_test (Other u _) f = rw u h
global-kept k l past d w n v all m h = h

finished-kept : (k : Declarations) (l : Limits) (past : Past) (d : ℕ) (w : What) (n : ℕ) → AllAllowed k l past → Moment k l past d w → Finished k past n
    → Finished k (entry_by d w ∷ past) n
finished-kept k l past d w n all m (FinishedChange o g i is job acked) =
    FinishedChange o g i (begun-kept k l past d w n o all m is) job (all-acked-more k past d w n acked)
finished-kept k l past d w n all m (FinishedStart o x is job (inl f)) =
    FinishedStart o x (begun-kept k l past d w n o all m is) job (inl (global-kept k l past d w n false all m f))
finished-kept k l past d w n all m (FinishedStart o x is job (inr f)) =
    FinishedStart o x (begun-kept k l past d w n o all m is) job (inr (global-kept k l past d w n true all m f.0, all-acked-more k past d w n f.1))
finished-kept k l past d w n all m (FinishedStop o x is job f) =
    FinishedStop o x (begun-kept k l past d w n o all m is) job (global-kept k l past d w n true all m f)

finished-now : (k : Declarations) (past : Past) (d : ℕ) (op : OpId) (ok : Bool) → Completes k past op.0 ok → Finished k (entry_by d (What.Done op ok) ∷ past) op.0
finished-now k past d op ok (CompletesChange o g m is job un e all) = FinishedChange o g m is job all
finished-now k past d op ok (CompletesStart o x is job un e global all) = FinishedStart o x is job (inr (global, all))
finished-now k past d op ok (FailsStart o x is job un e global) = FinishedStart o x is job (inl global)
finished-now k past d op ok (CompletesStop o x is job un e global all) = FinishedStop o x is job global

next-finished : (k : Declarations) (l : Limits) (past : Past) (d : ℕ) (w : What) → AllAllowed k l past → Always (AllFinished k) past → Moment k l past d w
    → (n : ℕ) (b : Bool) → done (entry_by d w ∷ past) n ≡ Some b → Finished k (entry_by d w ∷ past) n
next-finished k l past d (What.Done op ok) all held m n b h = by_test (compared op.0 n) h
  where
    by_test : Compared op.0 n → done (entry_by d (What.Done op ok) ∷ past) n ≡ Some b → Finished k (entry_by d (What.Done op ok) ∷ past) n
    by_test (Same _ e) h = subst (λ (i : ℕ). Finished k (entry_by d (What.Done op ok) ∷ past) i) e (finished-now k past d op ok (completes k l past d op ok all held m))
    by_test (Other u _) h = finished-kept k l past d (What.Done op ok) n all m ((always-here (AllFinished k) past held) n b (rw u at h))
next-finished k l past d w all held m n b h = finished-kept k l past d w n all m ((always-here (AllFinished k) past held) n b h)

none-finished : (k : Declarations) → AllFinished k []
none-finished k n b h = absurd (none-some b h)

next-all-finished : (k : Declarations) (l : Limits) (past : Past) (d : ℕ) (w : What) → AllAllowed k l past → Always (AllFinished k) past → Moment k l past d w → AllFinished k (entry_by d w ∷ past)
next-all-finished k l past d w all held m n b h = next-finished k l past d w all held m n b h

pub finished : (k : Declarations) (l : Limits) (past : Past) → AllAllowed k l past → Always (AllFinished k) past
finished k l [] all = none-finished k
finished k l (e ∷ past) all =
    let held = finished k l past all.1 in
    (next-all-finished k l past e.core.0 e.what all.1 held (allowed-moment k l past e all.1 all.0), held)

-- an operation that is done now had begun, was not done, and each core had done its part
pub done-completes : (k : Declarations) (l : Limits) (past : Past) (c : ℕ) (op : OpId) (ok : Bool) → AllAllowed k l past → DoneMoment k past c op ok → Completes k past op.0 ok
done-completes k l past c op ok all m = completes k l past c op ok all (finished k l past all) m
