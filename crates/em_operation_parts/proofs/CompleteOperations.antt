-- What each core has done of an operation, and whether that is all: then the history tells it done where nothing is due.
use Rattle.std.proofs.Common.{◌≡◌, inl, inr, ℕ, ◌<◌, Bool, true, false, [], ◌∷◌, Option, Some, None, is_some, refl, sym, ◌∙◌, arith}
use Rattle.std.specs.Option.{option_map, option_map_or, option_and_then}
use Rattle.em_log.specs.declared.declarations.Declarations.{Declarations}
use Rattle.em_log.specs.declared.entry.Begun.{Begun}
use Rattle.em_log.specs.declared.entry.Entry.{Entry}
use Rattle.em_log.specs.declared.entry.What.{What}
use Rattle.em_log.specs.declared.ids.Limits.{Limits}
use Rattle.em_log.specs.History.{Past}
use Rattle.em_log.specs.Operations.{Operation, operation, done, is_done, global_done, all_acked, owed_for, owed_to}
use Rattle.em_log.specs.Lawful.{AllAllowed, Lawful}
use Rattle.em_laws.proofs.Acks.{all-acked-has}
use Rattle.em_laws.proofs.Cores.{none-some}
use Rattle.em_laws.proofs.Dones.{Finished, FinishedChange, FinishedStart, FinishedStop, finished, AllFinished}
use Rattle.em_laws.proofs.Steps.{always-here}
use Rattle.em_bounds.proofs.Pending.{is-owed}
use Rattle.em_acks.specs.Operations.{done_as}
use Rattle.em_acks.specs.Operations as part
use Rattle.em_operation_parts.specs.AckSteps.{job_of, operation_of, ack_steps}
use Rattle.em_operation_parts.proofs.OperationSteps.{same-operation, same-global, same-all}

-- whether each core has done what operation n asks of it, as the history tells it
abbrev pub is_complete : Declarations → Past → ℕ → Bool
is_complete k past n = option_map_or (λ (o : Operation). done_as (all_acked k past n) (job_of o.job) (global_done past n)) (operation past n) false

pub same-complete : (k : Declarations) (l : Limits) (past : Past) → AllAllowed k l past → (n : ℕ) → part.is_done k.cores (ack_steps past) n ≡ is_complete k past n
same-complete k l past all n =
    (λ i. option_map_or (λ (o : part.Operation). done_as (same-all k past n i) o.job (same-global past n i)) (same-operation k l past all n i) false)
    ∙ by_operation (operation past n)
  where
    by_operation : (o : Option Operation)
        → option_map_or (λ (q : part.Operation). done_as (all_acked k past n) q.job (global_done past n)) (option_map operation_of o) false
        ≡ option_map_or (λ (q : Operation). done_as (all_acked k past n) (job_of q.job) (global_done past n)) o false
    by_operation None = refl
    by_operation (Some o) = refl

-- what is complete is owed nothing

unowed-by_job : (k : Declarations) (past : Past) (c n b : ℕ) → c < k.cores → (j : Begun) (ended : Option Bool)
    → done_as (all_acked k past n) (job_of j) ended ≡ true → owed_for k past c n b j ended ≡ None
unowed-by_job k past c n b lt (Begun.Modify g m) ended is = let acks = all-acked-has k past n c is lt in rw acks refl
unowed-by_job k past c n b lt (Begun.Start x) None is = absurd cc
unowed-by_job k past c n b lt (Begun.Start x) (Some true) is = let acks = all-acked-has k past n c is lt in rw acks refl
unowed-by_job k past c n b lt (Begun.Start x) (Some false) is = refl
unowed-by_job k past c n b lt (Begun.Stop x) None is = absurd cc
unowed-by_job k past c n b lt (Begun.Stop x) (Some ok) is = refl

pub complete-unowed : (k : Declarations) (past : Past) (c n : ℕ) → c < k.cores → is_complete k past n ≡ true → owed_to k past c n ≡ None
complete-unowed k past c n lt is = by_operation (operation past n) is
  where
    by_operation : (o : Option Operation)
        → option_map_or (λ (q : Operation). done_as (all_acked k past n) (job_of q.job) (global_done past n)) o false ≡ true
        → option_and_then (λ (q : Operation). owed_for k past c n q.core q.job (global_done past n)) o ≡ None
    by_operation None is = absurd cc
    by_operation (Some o) is = unowed-by_job k past c n o.core lt o.job (global_done past n) is

-- what is told done is complete

pub finished-complete : (k : Declarations) (past : Past) (n : ℕ) → Finished k past n → is_complete k past n ≡ true
finished-complete k past n (FinishedChange o g m is job acks) = rw (is, job) acks
finished-complete k past n (FinishedStart o x is job (inl failed)) = rw (is, failed, job) refl
finished-complete k past n (FinishedStart o x is job (inr (started, acks))) = rw (is, started, job) acks
finished-complete k past n (FinishedStop o x is job ended) = rw (is, ended, job) refl

pub finished-begun : (k : Declarations) (past : Past) (n : ℕ) → Finished k past n → (o : Operation) × (operation past n ≡ Some o)
finished-begun k past n (FinishedChange o g m is job acks) = (o, is)
finished-begun k past n (FinishedStart o x is job ended) = (o, is)
finished-begun k past n (FinishedStop o x is job ended) = (o, is)

told-complete : (k : Declarations) (l : Limits) (past : Past) (n : ℕ) → AllAllowed k l past → is_done past n ≡ true → is_complete k past n ≡ true
told-complete k l past n all is = by_done (done past n) refl is
  where
    by_done : (o : Option Bool) → done past n ≡ o → is_some o ≡ true → is_complete k past n ≡ true
    by_done None at is = absurd cc
    by_done (Some b) at is = finished-complete k past n (always-here (AllFinished k) past (finished k l past all) n b at)

-- where nothing is due, what is complete is told done

complete-begun : (k : Declarations) (past : Past) (n : ℕ) → is_complete k past n ≡ true → (o : Operation) × (operation past n ≡ Some o)
complete-begun k past n is = by_operation (operation past n) refl is
  where
    by_operation : (o : Option Operation) → operation past n ≡ o
        → option_map_or (λ (q : Operation). done_as (all_acked k past n) (job_of q.job) (global_done past n)) o false ≡ true → (o : Operation) × (operation past n ≡ Some o)
    by_operation None at is = absurd cc
    by_operation (Some o) at is = (o, at)

complete-told : (k : Declarations) (l : Limits) (past : Past) (n : ℕ) → 0 < k.cores → Lawful k l past → is_complete k past n ≡ true → is_done past n ≡ true
complete-told k l past n some lawful is = by_done (done past n) refl
  where
    by_done : (o : Option Bool) → done past n ≡ o → is_some o ≡ true
    by_done (Some b) at = refl
    by_done None at =
        let o = complete-begun k past n is in
        let owed = is-owed k l past some lawful n o.0 o.1 at in
        absurd (none-some owed.2.0 (sym (complete-unowed k past owed.0 n owed.1 is) ∙ owed.2.1))

pub same-bools : (a b : Bool) → (a ≡ true → b ≡ true) → (b ≡ true → a ≡ true) → a ≡ b
same-bools true true f g = refl
same-bools true false f g = absurd (let e = f refl in cc e)
same-bools false true f g = absurd (let e = g refl in cc e)
same-bools false false f g = refl

told-lawful : (k : Declarations) (l : Limits) (past : Past) (n : ℕ) → 0 < k.cores → Lawful k l past → is_complete k past n ≡ is_done past n
told-lawful k l past n some lawful = same-bools _ _ (complete-told k l past n some lawful) (told-complete k l past n lawful.each)

some-core : (k : Declarations) (l : Limits) (e : Entry) (past : Past) → AllAllowed k l (e ∷ past) → 0 < k.cores
some-core k l e past all = let lt = all.0.core in omega (arith, lt)

pub told-nowhere : (k : Declarations) (l : Limits) (past : Past) (n : ℕ) → Lawful k l past → is_complete k past n ≡ is_done past n
told-nowhere k l [] n lawful = refl
told-nowhere k l (e ∷ past) n lawful = told-lawful k l (e ∷ past) n (some-core k l e past lawful.each) lawful

-- what is owed is not done
pub owed-undone : (k : Declarations) (l : Limits) (past : Past) → AllAllowed k l past → (c n : ℕ) (w : What) → c < k.cores → owed_to k past c n ≡ Some w → done past n ≡ None
owed-undone k l past all c n w lt owed = by_done (done past n) refl
  where
    by_done : (o : Option Bool) → done past n ≡ o → o ≡ None
    by_done None is = refl
    by_done (Some b) is =
        let complete = finished-complete k past n (always-here (AllFinished k) past (finished k l past all) n b is) in
        absurd (none-some w (sym (complete-unowed k past c n lt complete) ∙ owed))
