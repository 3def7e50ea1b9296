-- What is done by the steps of operations is told done by the history, or is to be told next.
use Rattle.std.proofs.Common.{◌≡◌, ℕ, ◌==◌, Bool, true, false, ◌||◌, List, [], ◌∷◌, Option, Some, None, is_some, if◌then◌else◌, refl, sym, ◌∙◌, subst, ap}
use Rattle.em_log.specs.declared.declarations.Declarations.{Declarations}
use Rattle.em_log.specs.declared.entry.Entry.{Entry}
use Rattle.em_log.specs.declared.entry.What.{What}
use Rattle.em_log.specs.declared.ids.Cells.{Cells}
use Rattle.em_log.specs.declared.ids.Limits.{Limits}
use Rattle.em_log.specs.History.{Past, entry_by, onto}
use Rattle.em_log.specs.Operations.{done, is_done}
use Rattle.em_log.specs.Lawful.{AllAllowed, Lawful, due}
use Rattle.em_moments.proofs.Follows.{AllDue}
use Rattle.em_moments.proofs.Inversion.{due-follows}
use Rattle.em_laws.proofs.Blocks.{due-lawful}
use Rattle.em_acks.specs.Operations.{done_as}
use Rattle.em_acks.specs.Operations as part
use Rattle.em_operation_parts.specs.AckSteps.{ack_steps}
use Rattle.em_operation_parts.specs.OperationsAlike.{completes, completes_by}
use Rattle.em_operation_parts.proofs.CompleteOperations.{is_complete, same-complete, told-nowhere}
use Rattle.em_operation_parts.proofs.DueEntries.{is_calm, is_step, AllCalm, DueKind, EndsStep, IsCalm, due-kind, calm-not_end, rest-calm, end-first}

-- calm entries complete nothing, and tell done what they tell

complete-kept : (k : Declarations) (past : Past) (d : ℕ) (w : What) (n : ℕ) → is_calm w ≡ true → is_complete k (entry_by d w ∷ past) n ≡ is_complete k past n
complete-kept k past d (What.Begin op job notes) n is = absurd cc
complete-kept k past d (What.GlobalDone op ok) n is = absurd cc
complete-kept k past d (What.Ack op) n is = absurd cc
complete-kept k past d w n is = refl

told-one : (past : Past) (d : ℕ) (w : What) (n : ℕ) (later : Bool) → is_calm w ≡ true
    → (is_done (entry_by d w ∷ past) n || later) ≡ (is_done past n || completes_by n w later)
told-one past d (What.Done op ok) n later is = by_tests (op.0 == n) (done past n)
  where
    by_tests : (b : Bool) (o : Option Bool) → (is_some (if b then Some ok else o) || later) ≡ (is_some o || (b || later))
    by_tests true None = refl
    by_tests true (Some v) = refl
    by_tests false o = refl
told-one past d (What.GlobalDone op ok) n later is = absurd cc
told-one past d (What.Ack op) n later is = absurd cc
told-one past d w n later is = refl

or-false : (b : Bool) → (b || false) ≡ b
or-false true = refl
or-false false = refl

onto-complete : (k : Declarations) (es : List Entry) (past : Past) (n : ℕ) → AllCalm es → is_complete k (onto es past) n ≡ is_complete k past n
onto-complete k [] past n calm = refl
onto-complete k (e ∷ es) past n calm = onto-complete k es (e ∷ past) n calm.1 ∙ complete-kept k past e.core.0 e.what n calm.0

onto-told : (es : List Entry) (past : Past) (n : ℕ) → AllCalm es → is_done (onto es past) n ≡ (is_done past n || completes n es)
onto-told [] past n calm = sym (or-false (is_done past n))
onto-told (e ∷ es) past n calm = onto-told es (e ∷ past) n calm.1 ∙ told-one past e.core.0 e.what n (completes n es) calm.0

-- at any moment

told-calm : (k : Declarations) (l : Limits) (past : Past) (n : ℕ) → AllAllowed k l past → AllCalm (due k past)
    → is_complete k past n ≡ (is_done past n || completes n (due k past))
told-calm k l past n all calm =
    sym (onto-complete k (due k past) past n calm)
    ∙ (told-nowhere k l (onto (due k past) past) n (due-lawful k l past all) ∙ onto-told (due k past) past n calm)

step-completes : (n : ℕ) (w : What) (later : Bool) → is_step w ≡ true → completes_by n w later ≡ false
step-completes n (What.GlobalDone op ok) later is = refl
step-completes n (What.Ack op) later is = refl
step-completes n w later is = absurd cc

-- after the end of the context of a step, and before the end of the step
told-ended : (k : Declarations) (l : Limits) (before : Past) (d lost : ℕ) (cells : Option Cells) (n : ℕ) → AllAllowed k l (entry_by d (What.End lost cells) ∷ before)
    → is_complete k before n ≡ is_done before n
told-ended k l before d lost cells n all =
    told-nowhere k l before n
    (record { each = all.1; whole = end-first k l before (entry_by d (What.End lost cells)) (due k before) refl (due-follows k l before all.1) all.0.next })

told-head : (k : Declarations) (l : Limits) (past : Past) (n : ℕ) (d : Entry) (ds : List Entry) → AllAllowed k l past → AllDue k past (d ∷ ds) → due k past ≡ d ∷ ds
    → is_complete k past n ≡ (is_done past n || completes n (d ∷ ds))
told-head k l past n d ds all follow is = by_kind (due-kind k past d.core.0 d.what follow.0)
  where
    by_kind : DueKind past d.core.0 d.what → is_complete k past n ≡ (is_done past n || completes n (d ∷ ds))
    by_kind (EndsStep before lost cells was step) =
        subst (λ (h : Past). is_complete k h n ≡ is_done h n) (sym was)
        (told-ended k l before d.core.0 lost cells n (subst (AllAllowed k l) was all))
        ∙ sym (ap (λ b. is_done past n || b) (step-completes n d.what (completes n ds) step) ∙ or-false (is_done past n))
    by_kind (IsCalm calm) =
        let all_calm : AllCalm (d ∷ ds) = (calm, rest-calm k past d ds (calm-not_end d.what calm) follow.1) in
        subst (λ es. is_complete k past n ≡ (is_done past n || completes n es)) is (told-calm k l past n all (subst AllCalm (sym is) all_calm))

told-due : (k : Declarations) (l : Limits) (past : Past) (n : ℕ) (ds : List Entry) → AllAllowed k l past → AllDue k past ds → due k past ≡ ds
    → is_complete k past n ≡ (is_done past n || completes n ds)
told-due k l past n [] all follow is = told-nowhere k l past n (record { each = all; whole = is }) ∙ sym (or-false (is_done past n))
told-due k l past n (d ∷ ds) all follow is = told-head k l past n d ds all follow is

pub same-done : (k : Declarations) (l : Limits) (past : Past) → AllAllowed k l past → (n : ℕ)
    → part.is_done k.cores (ack_steps past) n ≡ (is_done past n || completes n (due k past))
same-done k l past all n = same-complete k l past all n ∙ told-due k l past n (due k past) all (due-follows k l past all) refl

-- where nothing is due
pub same-told : (k : Declarations) (l : Limits) (past : Past) → Lawful k l past → (n : ℕ) → part.is_done k.cores (ack_steps past) n ≡ is_done past n
same-told k l past lawful n = same-complete k l past lawful.each n ∙ told-nowhere k l past n lawful
