-- The operations of the steps of a history, and who has done his part, are those of the history.
use Rattle.std.proofs.Common.{◌≡◌, ℕ, ◌==◌, Bool, true, false, List, [], ◌∷◌, length, Option, Some, if◌then◌else◌, refl, ap, sym, ◌∙◌}
use Rattle.std.specs.List.{list_all}
use Rattle.std.specs.Option.{option_map}
use Rattle.em_log.specs.declared.declarations.Declarations.{Declarations}
use Rattle.em_log.specs.declared.entry.Begun.{Begun}
use Rattle.em_log.specs.declared.entry.What.{What}
use Rattle.em_log.specs.declared.ids.Limits.{Limits}
use Rattle.em_log.specs.declared.ids.Note.{Note}
use Rattle.em_log.specs.declared.ids.OpId.{OpId}
use Rattle.em_log.specs.History.{Past, has}
use Rattle.em_log.specs.Declarations.{below}
use Rattle.em_log.specs.Lawful.{AllAllowed}
use Rattle.em_log.specs.Operations.{last_if}
use Rattle.em_log.specs.Operations as log
use Rattle.em_moments.proofs.Moments.{Moment, allowed-moment}
use Rattle.em_acks.specs.Steps.{AckStep}
use Rattle.em_acks.specs.Operations.{operations, operation, global_done, acked, all_acked, not_acked, last_acker, left_after}
use Rattle.em_acks.specs.declared.job.Left.{Left}
use Rattle.em_operation_parts.specs.OperationsAlike.{is_last}
use Rattle.em_operation_parts.specs.AckSteps.{job_of, target_of, operation_of, ack_after, ack_steps, touches_operations}

-- operations

operations-after : (c : ℕ) (w : What) (s : List AckStep) → operations (ack_after c w s) ≡ log.one_more_begun w (operations s)
operations-after c (What.Begin op job notes) s = refl
operations-after c (What.GlobalDone op ok) s = refl
operations-after c (What.Ack op) s = refl
operations-after c w s = refl

pub same-operations : (past : Past) → operations (ack_steps past) ≡ log.operations past
same-operations [] = refl
same-operations (e ∷ past) = operations-after e.core.0 e.what (ack_steps past) ∙ ap (log.one_more_begun e.what) (same-operations past)

operation-begun : (c n : ℕ) (op : OpId) (job : Begun) (notes : List Note) (o : Option log.Operation)
    → (if op.0 == n then Some (record { core = c; job = job_of job; target = target_of job }) else option_map operation_of o)
    ≡ option_map operation_of (if op.0 == n then Some (record { core = c; job = job; notes = notes }) else o)
operation-begun c n op job notes o = by_test (op.0 == n)
  where
    by_test : (b : Bool) → (if b then Some (record { core = c; job = job_of job; target = target_of job }) else option_map operation_of o)
        ≡ option_map operation_of (if b then Some (record { core = c; job = job; notes = notes }) else o)
    by_test true = refl
    by_test false = refl

operation-after : (k : Declarations) (l : Limits) (past : Past) (c : ℕ) (w : What) → Moment k l past c w → (n : ℕ)
    → operation (ack_steps past) n ≡ option_map operation_of (log.operation past n)
    → operation (ack_after c w (ack_steps past)) n ≡ option_map operation_of (log.begun_by n c w (log.operation past n))
operation-after k l past c (What.Begin op job notes) m n same =
    let number : operations (ack_steps past) ≡ op.0 = same-operations past ∙ ap (λ (i : OpId). i.0) (sym m.number) in
    (λ i. if number i == n then Some (record { core = c; job = job_of job; target = target_of job }) else same i)
    ∙ operation-begun c n op job notes (log.operation past n)
operation-after k l past c (What.GlobalDone op ok) m n same = same
operation-after k l past c (What.Ack op) m n same = same
operation-after k l past c w m n same = same

pub same-operation : (k : Declarations) (l : Limits) (past : Past) → AllAllowed k l past → (n : ℕ)
    → operation (ack_steps past) n ≡ option_map operation_of (log.operation past n)
same-operation k l [] all n = refl
same-operation k l (e ∷ past) all n =
    operation-after k l past e.core.0 e.what (allowed-moment k l past e all.1 all.0) n (same-operation k l past all.1 n)

-- global steps and acknowledgements

global-after : (c : ℕ) (w : What) (s : List AckStep) (n : ℕ) → global_done (ack_after c w s) n ≡ log.global_done_by n w (global_done s n)
global-after c (What.Begin op job notes) s n = refl
global-after c (What.GlobalDone op ok) s n = refl
global-after c (What.Ack op) s n = refl
global-after c w s n = refl

pub same-global : (past : Past) (n : ℕ) → global_done (ack_steps past) n ≡ log.global_done past n
same-global [] n = refl
same-global (e ∷ past) n = global-after e.core.0 e.what (ack_steps past) n ∙ ap (log.global_done_by n e.what) (same-global past n)

acked-after : (c : ℕ) (w : What) (s : List AckStep) (n : ℕ) → acked (ack_after c w s) n ≡ log.acked_by n c w (acked s n)
acked-after c (What.Begin op job notes) s n = refl
acked-after c (What.GlobalDone op ok) s n = refl
acked-after c (What.Ack op) s n = refl
acked-after c w s n = refl

pub same-acked : (past : Past) (n : ℕ) → acked (ack_steps past) n ≡ log.acked past n
same-acked [] n = refl
same-acked (e ∷ past) n = acked-after e.core.0 e.what (ack_steps past) n ∙ ap (log.acked_by n e.core.0 e.what) (same-acked past n)

module _ (k : Declarations) where
  pub same-all : (past : Past) (n : ℕ) → all_acked k.cores (ack_steps past) n ≡ log.all_acked k past n
  same-all past n = ap (λ those. list_all (has those) (below k.cores)) (same-acked past n)

  pub same-last_left : (past : Past) (n : ℕ) → is_last (left_after k.cores (ack_steps past) n) ≡ log.all_acked k past n
  same-last_left past n = by_all (all_acked k.cores (ack_steps past) n) (same-all past n)
    where
      by_all : (b : Bool) → b ≡ log.all_acked k past n → is_last (if b then Left.Last else Left.More (length (not_acked k.cores (ack_steps past) n))) ≡ log.all_acked k past n
      by_all true is = is
      by_all false is = is

  last-after : (now : Past) (c : ℕ) (w : What) (s : List AckStep) (n : ℕ) → all_acked k.cores (ack_after c w s) n ≡ log.all_acked k now n
      → last_acker k.cores (ack_after c w s) n ≡ log.last_acker_by k now n c w (last_acker k.cores s n)
  last-after now c (What.Begin op job notes) s n all = refl
  last-after now c (What.GlobalDone op ok) s n all = refl
  last-after now c (What.Ack op) s n all = ap (λ b. if op.0 == n then last_if b c (last_acker k.cores s n) else last_acker k.cores s n) all
  last-after now c w s n all = refl

  pub same-last : (past : Past) (n : ℕ) → last_acker k.cores (ack_steps past) n ≡ log.last_acker k past n
  same-last [] n = refl
  same-last (e ∷ past) n =
      last-after (e ∷ past) e.core.0 e.what (ack_steps past) n (same-all (e ∷ past) n)
      ∙ ap (log.last_acker_by k (e ∷ past) n e.core.0 e.what) (same-last past n)

pub operations-untouched : (c : ℕ) (w : What) (steps : List AckStep) → touches_operations w ≡ false → ack_after c w steps ≡ steps
operations-untouched c (What.Begin op job notes) steps is = absurd cc
operations-untouched c (What.GlobalDone op ok) steps is = absurd cc
operations-untouched c (What.Ack op) steps is = absurd cc
operations-untouched c w steps is = refl
