-- An operation that is pending while nothing is due is owed a step.
use Rattle.std.proofs.Common.{◌≡◌, ◌⊎◌, inl, inr, ℕ, zero, suc, ◌+◌, ◌<◌, ◌==◌, Bool, true, false, ◌&&◌, ◌||◌, List, [], ◌∷◌, ◌++◌, Option, Some, None, refl, sym, ◌∙◌, subst, ap, if◌then◌else◌, arith}
use Rattle.em_bounds.proofs.Whats.{whats, whats-by}
use Rattle.std.specs.List.{list_all, list_any}
use Rattle.std.specs.Option.{option_and_then}
use Rattle.std.proofs.lemmas.Bool.{eq-eqb}
use Rattle.em_log.specs.declared.declarations.Declarations.{Declarations}
use Rattle.em_log.specs.declared.entry.Entry.{Entry}
use Rattle.em_log.specs.declared.entry.What.{What}
use Rattle.em_log.specs.declared.entry.Body.{Body}
use Rattle.em_log.specs.declared.entry.Begun.{Begun}
use Rattle.em_log.specs.declared.ids.Cells.{Cells}
use Rattle.em_log.specs.declared.ids.EoId.{EoId}
use Rattle.em_log.specs.declared.ids.GroupId.{GroupId}
use Rattle.em_log.specs.declared.ids.OpId.{OpId}
use Rattle.em_log.specs.declared.ids.Limits.{Limits}
use Rattle.em_log.specs.declared.ids.Note.{Note}
use Rattle.em_log.specs.declared.ids.Stamp.{Stamp}
use Rattle.em_log.specs.History.{Past, entry_by, entries_by, has}
use Rattle.em_log.specs.Declarations.{numbers_from, kind_of, is_output}
use Rattle.em_log.specs.Contexts.{context}
use Rattle.em_log.specs.Handles.{Minting, minting}
use Rattle.em_log.specs.Operations.{Operation, operation, operations, notes_of, done, global_done, acked, all_acked, last_acker, op_id, owed_for, owed_to}
use Rattle.em_log.specs.Order.{Sent, open_ticket, let_in}
use Rattle.em_log.specs.Arrivals.{Item, note_entering, send_entering}
use Rattle.em_log.specs.Places.{taken}
use Rattle.em_log.specs.States.{closed}
use Rattle.em_log.specs.EventGroups.{applied_notes, count, is_current, open_stamp}
use Rattle.em_log.specs.Tails.{first_start, out_of, out, outs, note_result, note_results, completion, notification, has_failed, ack_tail, global_start_tail, end_tail, tail_of, tail}
use Rattle.em_log.specs.Lawful.{due, due_after, Begins, Boots, Steps, Takes, Starts, Untakes, Asks, IsNext, AllAllowed, Lawful}
use Rattle.em_log.specs.Laws.{Always}
use Rattle.em_moments.proofs.Moments.{Moment, BeginMoment, AckMoment, AckChange, AckStart, AckStop, allowed-moment}
use Rattle.em_moments.proofs.Follows.{is_asked, lead-is_asked}
use Rattle.em_moments.proofs.Steps.{Owes, OwesAck, OwesGlobalStart, OwesLocalStart, OwesLocalStop, OwesGlobalStop, step-owes}
use Rattle.em_laws.proofs.Cores.{Compared, Same, Other, compared, none-some, some-inj}
use Rattle.em_laws.proofs.Begun.{begun-kept, numbered, BegunAfter, BegunBefore, BeginsNow, begun-after}
use Rattle.em_laws.proofs.Acks.{AckedAfter, AckedBefore, AcksNow, acked-after, all-acked-has, last-all}
use Rattle.em_laws.proofs.Steps.{Contexts, contexts, always-here, always-before, global-ends, Finishing, FinishingStart, FinishingStop, InStep, InBoot, InGlobalStart, InLocalStart, InLocalStop, InGlobalStop, acked-begun}
use Rattle.em_bounds.specs.Pending.{IsOwed}

-- a completion is among these

abbrev pub is_done_of : ℕ → What → Bool
is_done_of n (What.Done op ok) = op.0 == n
is_done_of n w = false

abbrev pub has_done : ℕ → List What → Bool
has_done n ws = list_any (is_done_of n) ws

-- what an acknowledgement or the end of a global step leaves due
abbrev pub Leaves : Declarations → Past → What → List What → Type 0
Leaves k now (What.Ack op) ws =
    ((o : Operation) × (x : EoId) × (operation now op.0 ≡ Some o) × (o.job ≡ Begun.Stop x)) ⊎ (all_acked k now op.0 ≡ true → has_done op.0 ws ≡ true)
Leaves k now (What.GlobalDone op ok) ws =
    ((o : Operation) × (x : EoId) × (operation now op.0 ≡ Some o) × (o.job ≡ Begun.Start x) × (ok ≡ true)) ⊎ (has_done op.0 ws ≡ true)
Leaves k now w ws = Unit {0}

-- what each of these leaves due, one after another
abbrev pub AllLeave : Declarations → Past → ℕ → List What → Type 0
AllLeave k past d [] = Unit {0}
AllLeave k past d (w ∷ ws) = Leaves k (entry_by d w ∷ past) w ws × AllLeave k (entry_by d w ∷ past) d ws

-- outputs, notes and notifications leave nothing
abbrev is_calm : What → Bool
is_calm (What.Ack op) = false
is_calm (What.GlobalDone op ok) = false
is_calm w = true

calm-leaves : (k : Declarations) (now : Past) (w : What) (ws : List What) → is_calm w ≡ true → Leaves k now w ws
calm-leaves k now (What.Ack op) ws is = absurd cc
calm-leaves k now (What.GlobalDone op ok) ws is = absurd cc
calm-leaves k now w ws is = tt

abbrev AllCalm : List What → Type 0
AllCalm [] = Unit {0}
AllCalm (w ∷ ws) = (is_calm w ≡ true) × AllCalm ws

calm-append : (vs ws : List What) → AllCalm vs → AllCalm ws → AllCalm (vs ++ ws)
calm-append [] ws a b = b
calm-append (v ∷ vs) ws a b = (a.0, calm-append vs ws a.1 b)

all-calm : (k : Declarations) (past : Past) (d : ℕ) (ws : List What) → AllCalm ws → AllLeave k past d ws
all-calm k past d [] a = tt
all-calm k past d (w ∷ ws) a = (calm-leaves k (entry_by d w ∷ past) w ws a.0, all-calm k (entry_by d w ∷ past) d ws a.1)

out-calm : (k : Declarations) (at : Past) (s : Sent) → AllCalm (out k at s)
out-calm k at s = by_kind (is_output (kind_of k s.queue)) (minting at s.handle)
  where
    by_kind : (b : Bool) (m : Option Minting) → AllCalm (if b then out_of s.queue m else [])
    by_kind false m = tt
    by_kind true None = tt
    by_kind true (Some m) = (refl, tt)

outs-calm : (k : Declarations) (at : Past) (ss : List Sent) → AllCalm (outs k at ss)
outs-calm k at [] = tt
outs-calm k at (s ∷ ss) = calm-append (out k at s) (outs k at ss) (out-calm k at s) (outs-calm k at ss)

results-calm : (k : Declarations) (at : Past) (d : ℕ) (ns : List Note) → AllCalm (note_results k at d ns)
results-calm k at d [] = tt
results-calm k at d (n ∷ ns) = calm-append (note_result k at n (note_entering d n (closed k at n.queue.0))) (note_results k at d ns) (by_sent (note_entering d n (closed k at n.queue.0))) (results-calm k at d ns)
  where
    by_sent : (o : Option Sent) → AllCalm (note_result k at n o)
    by_sent None = (refl, tt)
    by_sent (Some s) = out-calm k at s

notification-calm : (k : Declarations) (at : Past) (d : ℕ) (s : Option Stamp) → AllCalm (notification k at d s)
notification-calm k at d None = tt
notification-calm k at d (Some s) = by_test (is_current at s.group.0 s.app && (count at s.group.0 == 0))
  where
    by_test : (b : Bool) → AllCalm (if b then What.Notify s.group s.app ∷ note_results k (entry_by d (What.Notify s.group s.app) ∷ at) d (applied_notes at s.group.0) else [])
    by_test false = tt
    by_test true = (refl, results-calm k (entry_by d (What.Notify s.group s.app) ∷ at) d (applied_notes at s.group.0))

completion-calm : (k : Declarations) (at : Past) (d : ℕ) (op : OpId) → AllCalm (completion k at d op)
completion-calm k at d op = (refl, results-calm k (entry_by d (What.Done op true) ∷ at) d (notes_of (operation at op.0)))

ack-calm : (k : Declarations) (at : Past) (d : ℕ) (op : OpId) → AllCalm (ack_tail k at d op)
ack-calm k at d op = by_acked (all_acked k at op.0)
  where
    by_acked : (b : Bool) → AllCalm (if b then completion k at d op else [])
    by_acked true = completion-calm k at d op
    by_acked false = tt

own-done : (op : OpId) (ok : Bool) (ws : List What) → has_done op.0 (What.Done op ok ∷ ws) ≡ true
own-done op ok ws = rw (eq-eqb op.0 op.0 refl) refl

ack-done : (k : Declarations) (now : Past) (d : ℕ) (op : OpId) → all_acked k now op.0 ≡ true → has_done op.0 (ack_tail k now d op) ≡ true
ack-done k now d op all = by_acked (all_acked k now op.0) all
  where
    by_acked : (b : Bool) → b ≡ true → has_done op.0 (if b then completion k now d op else []) ≡ true
    by_acked true e = own-done op true (note_results k (entry_by d (What.Done op true) ∷ now) d (notes_of (operation now op.0)))
    by_acked false e = absurd cc

-- the tail of an entry that begins a block

end-leaves : (k : Declarations) (past : Past) (d lost : ℕ) (cells : Option Cells) (o : Option What) → context past d ≡ o → Contexts k past
    → AllLeave k (entry_by d (What.End lost cells) ∷ past) d (end_tail k past (entry_by d (What.End lost cells) ∷ past) d o)
end-leaves k past d lost cells (Some (What.Enter (Body.LocalStart op))) is stands =
    let now : Past = entry_by d (What.End lost cells) ∷ past in
    (inr (λ all. ack-done k (entry_by d (What.Ack op) ∷ now) d op all), all-calm k (entry_by d (What.Ack op) ∷ now) d _ (ack-calm k (entry_by d (What.Ack op) ∷ now) d op))
end-leaves k past d lost cells (Some (What.Enter (Body.LocalStop op))) is stands = (inl (by_step (stands.steps d (Body.LocalStop op) is)), tt)
  where
    by_step : InStep k past d (Body.LocalStop op) → (o : Operation) × (x : EoId) × (operation past op.0 ≡ Some o) × (o.job ≡ Begun.Stop x)
    by_step (InBoot e) = absurd cc
    by_step (InGlobalStart n o x e at job none core) = absurd cc
    by_step (InLocalStart n o x e at job global un) = absurd cc
    by_step (InLocalStop n o x e at job un) = let same : op.0 ≡ n = ap (λ (i : OpId). i.0) (cc) in (o, x, ap (operation past) same ∙ at, job)
    by_step (InGlobalStop n o x e at job none all last) = absurd cc
end-leaves k past d lost cells (Some (What.Enter (Body.GlobalStart op))) is stands = by_failed (has_failed past d)
  where
    by_step : InStep k past d (Body.GlobalStart op) → (o : Operation) × (x : EoId) × (operation past op.0 ≡ Some o) × (o.job ≡ Begun.Start x)
    by_step (InBoot e) = absurd cc
    by_step (InGlobalStart n o x e at job none core) = let same : op.0 ≡ n = ap (λ (i : OpId). i.0) (cc) in (o, x, ap (operation past) same ∙ at, job)
    by_step (InLocalStart n o x e at job global un) = absurd cc
    by_step (InLocalStop n o x e at job un) = absurd cc
    by_step (InGlobalStop n o x e at job none all last) = absurd cc

    by_failed : (b : Bool) → AllLeave k (entry_by d (What.End lost cells) ∷ past) d (global_start_tail op b)
    by_failed true = (inr (own-done op false []), (tt, tt))
    by_failed false = let s = by_step (stands.steps d (Body.GlobalStart op) is) in (inl (s.0, s.1, s.2, s.3, refl), tt)
end-leaves k past d lost cells (Some (What.Enter (Body.GlobalStop op))) is stands =
    let now : Past = entry_by d (What.GlobalDone op true) ∷ entry_by d (What.End lost cells) ∷ past in
    (inr (own-done op true (note_results k (entry_by d (What.Done op true) ∷ now) d (notes_of (operation now op.0)))), all-calm k now d (completion k now d op) (completion-calm k now d op))
end-leaves k past d lost cells o is stands =
    let now : Past = entry_by d (What.End lost cells) ∷ past in
    all-calm k now d _ (calm-append (outs k past (let_in past now (open_ticket past d))) (notification k now d (open_stamp past d)) (outs-calm k past (let_in past now (open_ticket past d)))
    (notification-calm k now d (open_stamp past d)))

pub tail-leaves : (k : Declarations) (past : Past) (d : ℕ) (w : What) → Contexts k past → AllLeave k (entry_by d w ∷ past) d (tail_of k past (entry_by d w ∷ past) d w)
tail-leaves k past d (What.Take q n t) stands = by_taken (taken k (entry_by d (What.Take q n t) ∷ past) d)
  where
    by_taken : (xs : List Item) → AllLeave k (entry_by d (What.Take q n t) ∷ past) d (first_start (entry_by d (What.Take q n t) ∷ past) q.0 xs)
    by_taken [] = tt
    by_taken (x ∷ xs) = (tt, tt)
tail-leaves k past d (What.Send h q t st) stands = all-calm k _ d _ (outs-calm k past (send_entering past d (What.Send h q t st)))
tail-leaves k past d (What.End lost cells) stands = end-leaves k past d lost cells (context past d) refl stands
tail-leaves k past d What.EndOrdered stands = all-calm k _ d _ (outs-calm k past (let_in past (entry_by d What.EndOrdered ∷ past) (open_ticket past d)))
tail-leaves k past d What.EndGroup stands = all-calm k _ d _ (notification-calm k (entry_by d What.EndGroup ∷ past) d (open_stamp past d))
tail-leaves k past d (What.Ack op) stands = all-calm k _ d _ (ack-calm k (entry_by d (What.Ack op) ∷ past) d op)
tail-leaves k past d w stands = tt

-- the entries that are due

AllDueLeave : Declarations → Past → List Entry → Type 0
AllDueLeave k past [] = Unit {0}
AllDueLeave k past (e ∷ es) = Leaves k (e ∷ past) e.what (whats es) × AllDueLeave k (e ∷ past) es

due-leave-by : (k : Declarations) (past : Past) (d : ℕ) (ws : List What) → AllLeave k past d ws → AllDueLeave k past (entries_by d ws)
unfolding AllDueLeave
due-leave-by k past d [] a = tt
due-leave-by k past d (w ∷ ws) a = (subst (λ xs. Leaves k (entry_by d w ∷ past) w xs) (sym (whats-by d ws)) a.0, due-leave-by k (entry_by d w ∷ past) d ws a.1)

due-leave-next : (k : Declarations) (l : Limits) (past : Past) (e : Entry) (ds : List Entry) → IsNext k l past ds e → Contexts k past → AllDueLeave k past ds
    → AllDueLeave k (e ∷ past) (due_after ds (tail k past e))
unfolding AllDueLeave
due-leave-next k l past e [] next stands was = due-leave-by k (e ∷ past) e.core.0 (tail_of k past (e ∷ past) e.core.0 e.what) (tail-leaves k past e.core.0 e.what stands)
due-leave-next k l past e (d ∷ ds) next stands was = subst (λ v. AllDueLeave k (v ∷ past) ds) (sym next) was.1

due-leave : (k : Declarations) (l : Limits) (past : Past) → AllAllowed k l past → AllDueLeave k past (due k past)
unfolding AllDueLeave
due-leave k l [] all = tt
due-leave k l (e ∷ past) all = due-leave-next k l past e (due k past) all.0.next (always-here (Contexts k) past (contexts k l past all.1)) (due-leave k l past all.1)

-- no end of a global step begins a block

owes-no_global : (k : Declarations) (past : Past) (c : ℕ) (w : What) (op : OpId) (ok : Bool) → Owes k past c w → w ≡ What.GlobalDone op ok → ⊥
owes-no_global k past c w op ok (OwesAck _ _ _ _ _ _ _ is) e = absurd (cc (is, e))
owes-no_global k past c w op ok (OwesGlobalStart _ _ _ _ _ _ _ is) e = absurd (cc (is, e))
owes-no_global k past c w op ok (OwesLocalStart _ _ _ _ _ _ _ is) e = absurd (cc (is, e))
owes-no_global k past c w op ok (OwesLocalStop _ _ _ _ _ _ _ is) e = absurd (cc (is, e))
owes-no_global k past c w op ok (OwesGlobalStop _ _ _ _ _ _ _ _ is) e = absurd (cc (is, e))

begins-no_global : (k : Declarations) (l : Limits) (past : Past) (c : ℕ) (w : What) (op : OpId) (ok : Bool) → Begins k l past c w → w ≡ What.GlobalDone op ok → ⊥
begins-no_global k l past c w op ok (Boots none core is) e = absurd (cc (is, e))
begins-no_global k l past c w op ok (Steps between owed) e = owes-no_global k past c w op ok (step-owes k past c w owed) e
begins-no_global k l past c w op ok (Takes q choice is) e = absurd (cc (is, e))
begins-no_global k l past c w op ok (Starts q x xs closed queue taken is) e = absurd (cc (is, e))
begins-no_global k l past c w op ok (Untakes q x xs closed queue taken is) e = absurd (cc (is, e))
begins-no_global k l past c w op ok (Asks a may is) e =
    let asked : is_asked w ≡ true = subst (λ v. is_asked v ≡ true) (sym is) (lead-is_asked k past c a) in
    absurd (cc (subst (λ v. is_asked v ≡ true) e asked))

-- what an entry leaves due

begins-leave : (k : Declarations) (l : Limits) (past : Past) (d : ℕ) (w : What) → Begins k l past d w → Leaves k (entry_by d w ∷ past) w (tail_of k past (entry_by d w ∷ past) d w)
begins-leave k l past d (What.Ack op) b = inr (λ all. ack-done k (entry_by d (What.Ack op) ∷ past) d op all)
begins-leave k l past d (What.GlobalDone op ok) b = absurd (begins-no_global k l past d (What.GlobalDone op ok) op ok b refl)
begins-leave k l past d w b = calm-leaves k (entry_by d w ∷ past) w (tail_of k past (entry_by d w ∷ past) d w) refl

leaves-next : (k : Declarations) (l : Limits) (past : Past) (e : Entry) (ds : List Entry) → IsNext k l past ds e → AllDueLeave k past ds
    → Leaves k (e ∷ past) e.what (whats (due_after ds (tail k past e)))
unfolding AllDueLeave
leaves-next k l past e [] next was =
    let d = e.core.0 in
    subst (λ xs. Leaves k (e ∷ past) e.what xs) (sym (whats-by d (tail_of k past (e ∷ past) d e.what))) (begins-leave k l past d e.what next)
leaves-next k l past e (d ∷ ds) next was = subst (λ v. Leaves k (v ∷ past) v.what (whats ds)) (sym next) was.0

-- a completion that is due stays due until it comes
due-shift : (k : Declarations) (l : Limits) (past : Past) (e : Entry) (ds : List Entry) (n : ℕ) → IsNext k l past ds e → has_done n (whats ds) ≡ true
    → (is_done_of n e.what ≡ true) ⊎ (has_done n (whats (due_after ds (tail k past e))) ≡ true)
due-shift k l past e [] n next is = absurd cc
due-shift k l past e (d ∷ ds) n next is = by_test (is_done_of n d.what) refl is
  where
    by_test : (b : Bool) → is_done_of n d.what ≡ b → (b || has_done n (whats ds)) ≡ true → (is_done_of n e.what ≡ true) ⊎ (has_done n (whats ds) ≡ true)
    by_test true at is = inl (ap (λ (v : Entry). is_done_of n v.what) next ∙ at)
    by_test false at is = inr is

-- what has happened to an operation that is to be done now
data Completed (k : Declarations) (past : Past) (n : ℕ) (o : Operation) : Type 0 where
  ChangeAcked : (g : GroupId) (m : ℕ) → o.job ≡ Begun.Modify g m → all_acked k past n ≡ true → Completed k past n o
  StartFailed : (x : EoId) → o.job ≡ Begun.Start x → global_done past n ≡ Some false → Completed k past n o
  StartAcked : (x : EoId) → o.job ≡ Begun.Start x → global_done past n ≡ Some true → all_acked k past n ≡ true → Completed k past n o
  StopEnded : (x : EoId) (ok : Bool) → o.job ≡ Begun.Stop x → global_done past n ≡ Some ok → Completed k past n o

Settled : Declarations → Past → List Entry → Type 0
Settled k past ds = (n : ℕ) (o : Operation) → operation past n ≡ Some o → Completed k past n o → ((b : Bool) × (done past n ≡ Some b)) ⊎ (has_done n (whats ds) ≡ true)

Goal : Past → ℕ → List What → Type 0
Goal now n ws = ((b : Bool) × (done now n ≡ Some b)) ⊎ (has_done n ws ≡ true)

done-more : (past : Past) (d : ℕ) (w : What) (n : ℕ) (b : Bool) → done past n ≡ Some b → (v : Bool) × (done (entry_by d w ∷ past) n ≡ Some v)
done-more past d (What.Done op ok) n b is = by_test (op.0 == n)
  where
    by_test : (t : Bool) → (v : Bool) × ((if t then Some ok else done past n) ≡ Some v)
    by_test true = (ok, refl)
    by_test false = (b, is)
done-more past d w n b is = (b, is)

done-here : (past : Past) (d : ℕ) (w : What) (n : ℕ) → is_done_of n w ≡ true → (v : Bool) × (done (entry_by d w ∷ past) n ≡ Some v)
done-here past d (What.Done op ok) n is = (ok, rw is refl)
done-here past d w n is = absurd cc

-- a start is acknowledged after its global start
start-acked-next : (k : Declarations) (l : Limits) (past : Past) (d : ℕ) (w : What) (n c : ℕ) (o : Operation) (x : EoId) → AllAllowed k l past → Moment k l past d w → Always (Contexts k) past
    → (has (acked past n) c ≡ true → global_done past n ≡ Some true) → operation past n ≡ Some o → o.job ≡ Begun.Start x → AckedAfter past n c d w → global_done past n ≡ Some true
start-acked-next k l past d w n c o x all m stands older at job (AckedBefore was) = older was
start-acked-next k l past d w n c o x all m stands older at job (AcksNow core e) = by_moment (subst (Moment k l past d) e m)
  where
    by_moment : AckMoment k past d (record { 0 = n }) → global_done past n ≡ Some true
    by_moment (AckChange between owed owes) = by_owes owes
      where
        by_owes : Owes k past d (What.Ack (record { 0 = n })) → global_done past n ≡ Some true
        by_owes (OwesAck i p g mask is jobp un eq) =
            let same : n ≡ i = ap (λ (v : OpId). v.0) (cc) in
            let one : o ≡ p = some-inj _ _ (sym at ∙ (ap (operation past) same ∙ is)) in absurd (cc (one, job, jobp))
        by_owes (OwesGlobalStart _ _ _ _ _ _ _ eq) = absurd cc
        by_owes (OwesLocalStart _ _ _ _ _ _ _ eq) = absurd cc
        by_owes (OwesLocalStop _ _ _ _ _ _ _ eq) = absurd cc
        by_owes (OwesGlobalStop _ _ _ _ _ _ _ _ eq) = absurd cc
    by_moment (AckStart before lost cells was is) =
        let c2 : Contexts k before = always-before (Contexts k) past before _ was stands in
        by_step (c2.steps d _ is)
      where
        by_step : InStep k before d (Body.LocalStart (record { 0 = n })) → global_done past n ≡ Some true
        by_step (InBoot e) = absurd cc
        by_step (InGlobalStart i p y e is2 jobp none core2) = absurd cc
        by_step (InLocalStart i p y e is2 jobp global un) =
            let same : n ≡ i = ap (λ (v : OpId). v.0) (cc) in
            ap (λ (h : Past). global_done h n) was ∙ (ap (global_done before) same ∙ global)
        by_step (InLocalStop i p y e is2 jobp un) = absurd cc
        by_step (InGlobalStop i p y e is2 jobp none allp last) = absurd cc
    by_moment (AckStop before lost cells was is) =
        let c2 : Contexts k before = always-before (Contexts k) past before _ was stands in
        by_step (c2.steps d _ is)
      where
        by_step : InStep k before d (Body.LocalStop (record { 0 = n })) → global_done past n ≡ Some true
        by_step (InBoot e) = absurd cc
        by_step (InGlobalStart i p y e is2 jobp none core2) = absurd cc
        by_step (InLocalStart i p y e is2 jobp global un) = absurd cc
        by_step (InLocalStop i p y e is2 jobp un) =
            let same : n ≡ i = ap (λ (v : OpId). v.0) (cc) in
            let one : o ≡ p = some-inj _ _ (sym at ∙ (ap (λ (h : Past). operation h n) was ∙ (ap (operation before) same ∙ is2))) in absurd (cc (one, job, jobp))
        by_step (InGlobalStop i p y e is2 jobp none allp last) = absurd cc

settle-ack : (k : Declarations) (past : Past) (d n : ℕ) (op : OpId) (o : Operation) (ws : List What) → operation past n ≡ Some o → Leaves k (entry_by d (What.Ack op) ∷ past) (What.Ack op) ws
    → (Completed k past n o → Goal (entry_by d (What.Ack op) ∷ past) n ws) → Completed k (entry_by d (What.Ack op) ∷ past) n o → Goal (entry_by d (What.Ack op) ∷ past) n ws
unfolding Goal
settle-ack k past d n op o ws at leaves older comp = by_test (compared op.0 n)
  where
    now : Past
    now = entry_by d (What.Ack op) ∷ past

    due_now : op.0 ≡ n → all_acked k now n ≡ true → ((x : EoId) → o.job ≡ Begun.Stop x → ⊥) → Goal now n ws
    due_now e all other = by_leaves leaves
      where
        by_leaves : Leaves k now (What.Ack op) ws → Goal now n ws
        by_leaves (inl s) = absurd (other s.1 (ap (λ (v : Operation). v.job) (some-inj _ _ (sym at ∙ (ap (operation past) (sym e) ∙ s.2))) ∙ s.3))
        by_leaves (inr f) = inr (ap (λ (i : ℕ). has_done i ws) (sym e) ∙ f (ap (all_acked k now) e ∙ all))

    by_comp : op.0 ≡ n → Completed k now n o → Goal now n ws
    by_comp e (ChangeAcked g m job all) = due_now e all (λ x j. absurd (cc (job, j)))
    by_comp e (StartFailed x job gl) = older (StartFailed x job gl)
    by_comp e (StartAcked x job gl all) = due_now e all (λ y j. absurd (cc (job, j)))
    by_comp e (StopEnded x ok job gl) = older (StopEnded x ok job gl)

    by_other : (op.0 == n) ≡ false → Completed k now n o → Goal now n ws
    by_other f (ChangeAcked g m job all) = older (ChangeAcked g m job (rw f at all))
    by_other f (StartFailed x job gl) = older (StartFailed x job gl)
    by_other f (StartAcked x job gl all) = older (StartAcked x job gl (rw f at all))
    by_other f (StopEnded x ok job gl) = older (StopEnded x ok job gl)

    by_test : Compared op.0 n → Goal now n ws
    by_test (Same t e) = by_comp e comp
    by_test (Other f ne) = by_other f comp

settle-global : (k : Declarations) (past : Past) (d n : ℕ) (op : OpId) (ok : Bool) (o : Operation) (ws : List What) → operation past n ≡ Some o
    → Leaves k (entry_by d (What.GlobalDone op ok) ∷ past) (What.GlobalDone op ok) ws → ((x : EoId) → op.0 ≡ n → o.job ≡ Begun.Start x → all_acked k past n ≡ true → ⊥)
    → (Completed k past n o → Goal (entry_by d (What.GlobalDone op ok) ∷ past) n ws) → Completed k (entry_by d (What.GlobalDone op ok) ∷ past) n o
    → Goal (entry_by d (What.GlobalDone op ok) ∷ past) n ws
unfolding Goal
settle-global k past d n op ok o ws at leaves unacked older comp = by_test (compared op.0 n)
  where
    now : Past
    now = entry_by d (What.GlobalDone op ok) ∷ past

    by_comp : (op.0 == n) ≡ true → op.0 ≡ n → Completed k now n o → Goal now n ws
    by_comp t e (ChangeAcked g m job all) = older (ChangeAcked g m job all)
    by_comp t e (StartFailed x job gl) = by_leaves leaves
      where
        by_leaves : Leaves k now (What.GlobalDone op ok) ws → Goal now n ws
        by_leaves (inl s) = absurd (let g : Some ok ≡ Some false = rw t at gl in cc (g, s.4))
        by_leaves (inr f) = inr (ap (λ (i : ℕ). has_done i ws) (sym e) ∙ f)
    by_comp t e (StartAcked x job gl all) = absurd (unacked x e job all)
    by_comp t e (StopEnded x v job gl) = by_leaves leaves
      where
        by_leaves : Leaves k now (What.GlobalDone op ok) ws → Goal now n ws
        by_leaves (inl s) = absurd (let j = ap (λ (v : Operation). v.job) (some-inj _ _ (sym at ∙ (ap (operation past) (sym e) ∙ s.2))) ∙ s.3 in cc (job, j))
        by_leaves (inr f) = inr (ap (λ (i : ℕ). has_done i ws) (sym e) ∙ f)

    by_other : (op.0 == n) ≡ false → Completed k now n o → Goal now n ws
    by_other f (ChangeAcked g m job all) = older (ChangeAcked g m job all)
    by_other f (StartFailed x job gl) = older (StartFailed x job (rw f at gl))
    by_other f (StartAcked x job gl all) = older (StartAcked x job (rw f at gl) all)
    by_other f (StopEnded x v job gl) = older (StopEnded x v job (rw f at gl))

    by_test : Compared op.0 n → Goal now n ws
    by_test (Same t e) = by_comp t e comp
    by_test (Other f ne) = by_other f comp

-- operations are begun by cores of the graph, and nothing of them comes before

core-bound : (k : Declarations) (l : Limits) (past : Past) (n : ℕ) (o : Operation) → AllAllowed k l past → operation past n ≡ Some o → o.core < k.cores
core-bound k l [] n o all at = absurd (none-some o at)
core-bound k l (e ∷ past) n o all at = by_begun (begun-after past e.core.0 e.what n o at) (core-bound k l past n o all.1)
  where
    by_begun : BegunAfter past n o e.core.0 e.what → (operation past n ≡ Some o → o.core < k.cores) → o.core < k.cores
    by_begun (BegunBefore was) older = older was
    by_begun (BeginsNow is core) older = let lt = all.0.core in omega (arith, lt, core)

global-kept : (k : Declarations) (l : Limits) (past : Past) (d : ℕ) (w : What) (n : ℕ) → AllAllowed k l past → Moment k l past d w → ((b : Bool) → global_done past n ≡ Some b → (o : Operation) × (operation past n ≡ Some o))
    → (b : Bool) → global_done (entry_by d w ∷ past) n ≡ Some b → (o : Operation) × (operation past n ≡ Some o)
global-kept k l past d (What.GlobalDone op ok) n all m older b is = by_test (compared op.0 n)
  where
    by_finishing : op.0 ≡ n → Finishing k past d op.0 → (o : Operation) × (operation past n ≡ Some o)
    by_finishing e (FinishingStart o x at job none core) = (o, ap (operation past) (sym e) ∙ at)
    by_finishing e (FinishingStop o x at job none acked last) = (o, ap (operation past) (sym e) ∙ at)

    by_test : Compared op.0 n → (o : Operation) × (operation past n ≡ Some o)
    by_test (Same t e) = by_finishing e (global-ends k past d op ok (contexts k l past all) m).finishing
    by_test (Other f ne) = older b (rw f at is)
global-kept k l past d w n all m older b is = older b is

global-begun : (k : Declarations) (l : Limits) (past : Past) (n : ℕ) (b : Bool) → AllAllowed k l past → global_done past n ≡ Some b → (o : Operation) × (operation past n ≡ Some o)
global-begun k l [] n b all is = absurd (none-some b is)
global-begun k l (e ∷ past) n b all is =
    let m = allowed-moment k l past e all.1 all.0 in
    let o = global-kept k l past e.core.0 e.what n all.1 m (λ v t. global-begun k l past n v all.1 t) b is in
    (o.0, begun-kept k l past e.core.0 e.what n o.0 all.1 m o.1)

-- what a begin begins is new
unbegun : (k : Declarations) (l : Limits) (past : Past) (n : ℕ) (o : Operation) → AllAllowed k l past → n ≡ operations past → operation past n ≡ Some o → ⊥
unbegun k l past n o all new at = let lt = numbered k l past all n o at in omega (arith, lt, new)

-- the end of a global step was not done before
global-undone : (k : Declarations) (l : Limits) (past : Past) (d : ℕ) (op : OpId) (ok : Bool) → AllAllowed k l past → Moment k l past d (What.GlobalDone op ok) → global_done past op.0 ≡ None
global-undone k l past d op ok all m = by_finishing (global-ends k past d op ok (contexts k l past all) m).finishing
  where
    by_finishing : Finishing k past d op.0 → global_done past op.0 ≡ None
    by_finishing (FinishingStart o x at job none core) = none
    by_finishing (FinishingStop o x at job none acked last) = none

global-stays : (k : Declarations) (l : Limits) (past : Past) (d : ℕ) (w : What) (n : ℕ) (b : Bool) → AllAllowed k l past → Moment k l past d w → global_done past n ≡ Some b → global_done (entry_by d w ∷ past) n ≡ Some b
global-stays k l past d (What.GlobalDone op ok) n b all m is = by_test (compared op.0 n)
  where
    by_test : Compared op.0 n → global_done (entry_by d (What.GlobalDone op ok) ∷ past) n ≡ Some b
    by_test (Same t e) = let none : global_done past n ≡ None = ap (global_done past) (sym e) ∙ global-undone k l past d op ok all m in absurd (cc (none, is))
    by_test (Other f ne) = rw f is
global-stays k l past d w n b all m is = is

start-acked : (k : Declarations) (l : Limits) (past : Past) (n c : ℕ) (o : Operation) (x : EoId) → AllAllowed k l past → operation past n ≡ Some o → o.job ≡ Begun.Start x → has (acked past n) c ≡ true
    → global_done past n ≡ Some true
start-acked k l [] n c o x all at job there = absurd (none-some o at)
start-acked k l (e ∷ past) n c o x all at job there =
    let m = allowed-moment k l past e all.1 all.0 in
    by_begun m (begun-after past e.core.0 e.what n o at) (acked-after past e.core.0 e.what n c there) (start-acked k l past n c o x all.1)
  where
    by_begun : Moment k l past e.core.0 e.what → BegunAfter past n o e.core.0 e.what → AckedAfter past n c e.core.0 e.what
        → (operation past n ≡ Some o → o.job ≡ Begun.Start x → has (acked past n) c ≡ true → global_done past n ≡ Some true) → global_done (e ∷ past) n ≡ Some true
    by_begun m (BegunBefore was) acks older =
        global-stays k l past e.core.0 e.what n true all.1 m (start-acked-next k l past e.core.0 e.what n c o x all.1 m (contexts k l past all.1) (older was job) was job acks)
    by_begun m (BeginsNow is core) (AckedBefore was) older =
        let b = acked-begun k l past all.1 n c was in
        let mo : BeginMoment k past e.core.0 (op_id n) o.job o.notes = subst (Moment k l past e.core.0) is m in
        absurd (unbegun k l past n b.0 all.1 (ap (λ (v : OpId). v.0) mo.number) b.1)
    by_begun m (BeginsNow is core) (AcksNow d ack) older = absurd (cc (is, ack))

-- the last acknowledgement

last-exists-next : (k : Declarations) (past : Past) (d : ℕ) (w : What) (n : ℕ) → d < k.cores → (all_acked k past n ≡ true → (c : ℕ) × (c < k.cores) × (last_acker k past n ≡ Some c))
    → all_acked k (entry_by d w ∷ past) n ≡ true → (c : ℕ) × (c < k.cores) × (last_acker k (entry_by d w ∷ past) n ≡ Some c)
last-exists-next k past d (What.Ack op) n lt older all = by_number (compared op.0 n)
  where
    now : Past
    now = entry_by d (What.Ack op) ∷ past

    by_last : (op.0 == n) ≡ true → (o : Option ℕ) → last_acker k past n ≡ o → (c : ℕ) × (c < k.cores) × (last_acker k now n ≡ Some c)
    by_last same None is = (d, lt, rw (all, is, same) refl)
    by_last same (Some c) is = by_acked (all_acked k past n) refl
      where
        by_acked : (b : Bool) → all_acked k past n ≡ b → (c : ℕ) × (c < k.cores) × (last_acker k now n ≡ Some c)
        by_acked true was = let o = older was in (o.0, o.1, rw (all, o.2, same) refl)
        by_acked false was = absurd (let on = last-all k past n c is in cc (on, was))

    by_number : Compared op.0 n → (c : ℕ) × (c < k.cores) × (last_acker k now n ≡ Some c)
    by_number (Same t e) = by_last t (last_acker k past n) refl
    by_number (Other f e) = rw f (older (rw f at all))
last-exists-next k past d w n lt older all = older all

last-exists : (k : Declarations) (l : Limits) (past : Past) (n : ℕ) → AllAllowed k l past → 0 < k.cores → all_acked k past n ≡ true → (c : ℕ) × (c < k.cores) × (last_acker k past n ≡ Some c)
last-exists k l [] n all some acks = absurd (let there = all-acked-has k [] n 0 acks some in cc there)
last-exists k l (e ∷ past) n all some acks = last-exists-next k past e.core.0 e.what n all.0.core (last-exists k l past n all.1 some) acks

-- completions have come, or are due

settle : (k : Declarations) (l : Limits) (past : Past) (d : ℕ) (w : What) (n : ℕ) (o : Operation) (ws : List What) → d < k.cores → AllAllowed k l past → Moment k l past d w → operation past n ≡ Some o
    → Leaves k (entry_by d w ∷ past) w ws → (Completed k past n o → Goal (entry_by d w ∷ past) n ws) → Completed k (entry_by d w ∷ past) n o → Goal (entry_by d w ∷ past) n ws
settle k l past d (What.Ack op) n o ws lt all m at leaves older comp = settle-ack k past d n op o ws at leaves older comp
settle k l past d (What.GlobalDone op ok) n o ws lt all m at leaves older comp =
    settle-global k past d n op ok o ws at leaves (λ x e job acks.
    let gl = start-acked k l past n d o x all at job (all-acked-has k past n d acks lt) in
    let none : global_done past n ≡ None = ap (global_done past) (sym e) ∙ global-undone k l past d op ok all m in cc (none, gl)) older comp
settle k l past d w n o ws lt all m at leaves older (ChangeAcked g mk job acks) = older (ChangeAcked g mk job acks)
settle k l past d w n o ws lt all m at leaves older (StartFailed x job gl) = older (StartFailed x job gl)
settle k l past d w n o ws lt all m at leaves older (StartAcked x job gl acks) = older (StartAcked x job gl acks)
settle k l past d w n o ws lt all m at leaves older (StopEnded x ok job gl) = older (StopEnded x ok job gl)

-- an operation that begins now has nothing of it behind
fresh-incomplete : (k : Declarations) (l : Limits) (past : Past) (d n : ℕ) (o : Operation) (w : What) → d < k.cores → AllAllowed k l past → Moment k l past d w → w ≡ What.Begin (op_id n) o.job o.notes
    → Completed k (entry_by d w ∷ past) n o → ⊥
fresh-incomplete k l past d n o w lt all m is comp = by_comp (subst (λ v. Completed k (entry_by d v ∷ past) n o) is comp)
  where
    mo : BeginMoment k past d (op_id n) o.job o.notes
    mo = subst (Moment k l past d) is m

    new : n ≡ operations past
    new = ap (λ (v : OpId). v.0) mo.number

    unacked : all_acked k past n ≡ true → ⊥
    unacked acks = let b = acked-begun k l past all n d (all-acked-has k past n d acks lt) in unbegun k l past n b.0 all new b.1

    unended : (b : Bool) → global_done past n ≡ Some b → ⊥
    unended b gl = let p = global-begun k l past n b all gl in unbegun k l past n p.0 all new p.1

    by_comp : Completed k (entry_by d (What.Begin (op_id n) o.job o.notes) ∷ past) n o → ⊥
    by_comp (ChangeAcked g mk job acks) = unacked acks
    by_comp (StartFailed x job gl) = unended false gl
    by_comp (StartAcked x job gl acks) = unacked acks
    by_comp (StopEnded x ok job gl) = unended ok gl

settled : (k : Declarations) (l : Limits) (past : Past) → AllAllowed k l past → Settled k past (due k past)
unfolding Settled Goal whats
settled k l [] all = λ n o at comp. absurd (none-some o at)
settled k l (e ∷ past) all = next (settled k l past all.1)
  where
    d : ℕ
    d = e.core.0

    ds : List Entry
    ds = due k past

    ws : List What
    ws = whats (due_after ds (tail k past e))

    m : Moment k l past d e.what
    m = allowed-moment k l past e all.1 all.0

    leaves : Leaves k (e ∷ past) e.what ws
    leaves = leaves-next k l past e ds all.0.next (due-leave k l past all.1)

    carried : (n : ℕ) → ((b : Bool) × (done past n ≡ Some b)) ⊎ (has_done n (whats ds) ≡ true) → Goal (e ∷ past) n ws
    carried n (inl b) = inl (done-more past d e.what n b.0 b.1)
    carried n (inr there) = by_shift (due-shift k l past e ds n all.0.next there)
      where
        by_shift : (is_done_of n e.what ≡ true) ⊎ (has_done n ws ≡ true) → Goal (e ∷ past) n ws
        by_shift (inl is) = inl (done-here past d e.what n is)
        by_shift (inr t) = inr t

    next : Settled k past ds → (n : ℕ) (o : Operation) → operation (e ∷ past) n ≡ Some o → Completed k (e ∷ past) n o → ((b : Bool) × (done (e ∷ past) n ≡ Some b)) ⊎ (has_done n ws ≡ true)
    next older n o at comp = by_begun (begun-after past d e.what n o at)
      where
        by_begun : BegunAfter past n o d e.what → Goal (e ∷ past) n ws
        by_begun (BegunBefore was) = settle k l past d e.what n o ws all.0.core all.1 m was leaves (λ c. carried n (older n o was c)) comp
        by_begun (BeginsNow is core) = absurd (fresh-incomplete k l past d n o e.what all.0.core all.1 m is comp)

-- nothing due: what is complete is done
complete-done : (k : Declarations) (l : Limits) (past : Past) (n : ℕ) (o : Operation) → Lawful k l past → operation past n ≡ Some o → done past n ≡ None → Completed k past n o → ⊥
unfolding Settled Goal whats
complete-done k l past n o lawful at undone comp = by_case (settled k l past lawful.each n o at comp)
  where
    nothing : has_done n (whats (due k past)) ≡ true → ⊥
    nothing is = let none : has_done n [] ≡ true = subst (λ es. has_done n (whats es) ≡ true) lawful.whole is in cc none

    by_case : ((b : Bool) × (done past n ≡ Some b)) ⊎ (has_done n (whats (due k past)) ≡ true) → ⊥
    by_case (inl b) = let e = b.1 in cc (undone, e)
    by_case (inr t) = nothing t

-- some core has not acknowledged
some-unacked-from : (p : ℕ → Bool) (a n : ℕ) → list_all p (numbers_from a n) ≡ false → (c : ℕ) × (c < a + n) × (p c ≡ false)
some-unacked-from p a zero is = absurd cc
some-unacked-from p a (suc n) is = by_test (p a) refl is (some-unacked-from p (suc a) n)
  where
    by_test : (b : Bool) → p a ≡ b → (b && list_all p (numbers_from (suc a) n)) ≡ false → (list_all p (numbers_from (suc a) n) ≡ false → (c : ℕ) × (c < suc a + n) × (p c ≡ false))
        → (c : ℕ) × (c < a + suc n) × (p c ≡ false)
    by_test false at is later = (a, omega arith, at)
    by_test true at is later = let r = later is in (r.0, (let lt = r.1 in omega (arith, lt)), r.2)

some-unacked : (k : Declarations) (past : Past) (n : ℕ) → all_acked k past n ≡ false → (c : ℕ) × (c < k.cores) × (has (acked past n) c ≡ false)
some-unacked k past n is = let r = some-unacked-from (has (acked past n)) 0 k.cores is in (r.0, (let lt = r.1 in omega (arith, lt)), r.2)

-- an operation that is pending is owed a step
pub is-owed : (k : Declarations) (l : Limits) (past : Past) → 0 < k.cores → Lawful k l past → IsOwed k past
is-owed k l past some lawful n o at undone = by_job o.job refl (global_done past n) refl (all_acked k past n) refl
  where
    Owed : Type 0
    Owed = (c : ℕ) × (c < k.cores) × ((w : What) × (owed_to k past c n ≡ Some w))

    never : Completed k past n o → Owed
    never comp = absurd (complete-done k l past n o lawful at undone comp)

    owes : (c : ℕ) (w : What) → c < k.cores → (j : Begun) → o.job ≡ j → (g : Option Bool) → global_done past n ≡ g → owed_for k past c n o.core j g ≡ Some w → Owed
    owes c w lt j job g gl is =
        let whole : owed_to k past c n ≡ Some w =
        ap (option_and_then (λ p. owed_for k past c n p.core p.job (global_done past n))) at
        ∙ (ap (λ v. owed_for k past c n o.core v (global_done past n)) job ∙ (ap (owed_for k past c n o.core j) gl ∙ is)) in
        (c, lt, (w, whole))

    by_job : (j : Begun) → o.job ≡ j → (g : Option Bool) → global_done past n ≡ g → (b : Bool) → all_acked k past n ≡ b → Owed
    by_job (Begun.Modify h mk) job g gl true acks = never (ChangeAcked h mk job acks)
    by_job (Begun.Modify h mk) job g gl false acks =
        let u = some-unacked k past n acks in
        let un = u.2 in owes u.0 (What.Ack (op_id n)) u.1 (Begun.Modify h mk) job g gl (rw un refl)
    by_job (Begun.Start x) job None gl b acks =
        owes o.core (What.Enter (Body.GlobalStart (op_id n))) (core-bound k l past n o lawful.each at) (Begun.Start x) job None gl (rw (eq-eqb o.core o.core refl) refl)
    by_job (Begun.Start x) job (Some false) gl b acks = never (StartFailed x job gl)
    by_job (Begun.Start x) job (Some true) gl true acks = never (StartAcked x job gl acks)
    by_job (Begun.Start x) job (Some true) gl false acks =
        let u = some-unacked k past n acks in
        let un = u.2 in owes u.0 (What.Enter (Body.LocalStart (op_id n))) u.1 (Begun.Start x) job (Some true) gl (rw un refl)
    by_job (Begun.Stop x) job (Some ok) gl b acks = never (StopEnded x ok job gl)
    by_job (Begun.Stop x) job None gl false acks =
        let u = some-unacked k past n acks in
        let un = u.2 in owes u.0 (What.Enter (Body.LocalStop (op_id n))) u.1 (Begun.Stop x) job None gl (rw un refl)
    by_job (Begun.Stop x) job None gl true acks =
        let u = last-exists k l past n lawful.each some acks in
        let last = u.2 in
        let acked_now = all-acked-has k past n u.0 acks u.1 in
        owes u.0 (What.Enter (Body.GlobalStop (op_id n))) u.1 (Begun.Stop x) job None gl (rw (acked_now, last, eq-eqb u.0 u.0 refl) refl)
