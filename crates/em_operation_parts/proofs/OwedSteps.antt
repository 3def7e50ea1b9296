-- The steps that cores owe by the steps of operations are those that they owe by the history.
use Rattle.std.proofs.Common.{◌≡◌, ℕ, ◌==◌, Bool, true, false, not, List, [], ◌∷◌, Option, Some, None, is_some, refl, ap, sym, ◌∙◌}
use Rattle.std.specs.Option.{option_map, option_or, option_and_then}
use Rattle.em_log.specs.declared.declarations.Declarations.{Declarations}
use Rattle.em_log.specs.declared.entry.Begun.{Begun}
use Rattle.em_log.specs.declared.entry.Body.{Body}
use Rattle.em_log.specs.declared.entry.What.{What}
use Rattle.em_log.specs.declared.ids.Limits.{Limits}
use Rattle.em_log.specs.declared.ids.OpId.{OpId}
use Rattle.em_log.specs.History.{Past, has}
use Rattle.em_log.specs.Declarations.{below, is_number}
use Rattle.em_log.specs.Lawful.{AllAllowed}
use Rattle.em_log.specs.Operations.{Operation, op_id}
use Rattle.em_log.specs.Operations as log
use Rattle.em_acks.specs.declared.job.Phase.{Phase}
use Rattle.em_acks.specs.Operations.{only_if, owed_for, owed_to, step_to, first_owed, step}
use Rattle.em_acks.specs.Operations as part
use Rattle.em_operation_parts.specs.AckSteps.{job_of, operation_of, ack_steps, phase_of, step_of, entry_of, entry_for}
use Rattle.em_operation_parts.proofs.OperationSteps.{same-operations, same-operation, same-global, same-acked, same-last}

-- a step that is due by a test is its entry that is due by that test

if-owed : (b : Bool) (w : What) (p : Phase) → phase_of w ≡ Some p → only_if b p ≡ option_and_then phase_of (log.only_if b w)
if-owed true w p is = sym is
if-owed false w p is = refl

or-owed : (a b : Bool) (v w : What) (p q : Phase) → phase_of v ≡ Some p → phase_of w ≡ Some q
    → option_or (only_if a p) (only_if b q) ≡ option_and_then phase_of (option_or (log.only_if a v) (log.only_if b w))
or-owed true b v w p q is at = sym is
or-owed false b v w p q is at = if-owed b w q at

module _ (k : Declarations) where
  module _ (past : Past) (c n b : ℕ) where
    unacked : not (has (part.acked (ack_steps past) n) c) ≡ not (has (log.acked past n) c)
    unacked = ap (λ those. not (has those c)) (same-acked past n)

    same-owed_for : (job : Begun) (ended : Option Bool)
        → owed_for k.cores (ack_steps past) c n b (job_of job) ended ≡ option_and_then phase_of (log.owed_for k past c n b job ended)
    same-owed_for (Begun.Modify g m) ended =
        ap (λ t. only_if t Phase.Local) unacked ∙ if-owed (not (has (log.acked past n) c)) (What.Ack (op_id n)) Phase.Local refl
    same-owed_for (Begun.Start x) None = if-owed (b == c) (What.Enter (Body.GlobalStart (op_id n))) Phase.Global refl
    same-owed_for (Begun.Start x) (Some true) =
        ap (λ t. only_if t Phase.Local) unacked
        ∙ if-owed (not (has (log.acked past n) c)) (What.Enter (Body.LocalStart (op_id n))) Phase.Local refl
    same-owed_for (Begun.Start x) (Some false) = refl
    same-owed_for (Begun.Stop x) None =
        (λ i. option_or (only_if (unacked i) Phase.Local) (only_if (is_number c (same-last k past n i)) Phase.Global))
        ∙ or-owed (not (has (log.acked past n) c)) (is_number c (log.last_acker k past n)) (What.Enter (Body.LocalStop (op_id n)))
        (What.Enter (Body.GlobalStop (op_id n))) Phase.Local Phase.Global refl refl
    same-owed_for (Begun.Stop x) (Some ok) = refl

  pub same-owed : (l : Limits) (past : Past) → AllAllowed k l past → (c n : ℕ)
      → owed_to k.cores (ack_steps past) c n ≡ option_and_then phase_of (log.owed_to k past c n)
  same-owed l past all c n =
      (λ i. option_and_then (λ (o : part.Operation). owed_for k.cores (ack_steps past) c n o.core o.job (same-global past n i)) (same-operation k l past all n i))
      ∙ by_operation (log.operation past n)
    where
      by_operation : (o : Option Operation)
          → option_and_then (λ (q : part.Operation). owed_for k.cores (ack_steps past) c n q.core q.job (log.global_done past n)) (option_map operation_of o)
          ≡ option_and_then phase_of (option_and_then (λ (q : Operation). log.owed_for k past c n q.core q.job (log.global_done past n)) o)
      by_operation None = refl
      by_operation (Some o) = same-owed_for past c n o.core o.job (log.global_done past n)

-- what is owed to operation n is an entry for a step of it
pub data OwedEntry (past : Past) (n : ℕ) : Option What → Type 0 where
  NoEntry : OwedEntry past n None
  AnEntry : (o : Operation) (p : Phase) (w : What) → log.operation past n ≡ Some o → w ≡ entry_of (op_id n) o.job p → step_of w ≡ Some (op_id n, p)
      → OwedEntry past n (Some w)

if-entry : (past : Past) (n : ℕ) (b : Bool) (o : Operation) (p : Phase) (w : What) → log.operation past n ≡ Some o → w ≡ entry_of (op_id n) o.job p
    → step_of w ≡ Some (op_id n, p) → OwedEntry past n (log.only_if b w)
if-entry past n true o p w at is step = AnEntry o p w at is step
if-entry past n false o p w at is step = NoEntry

or-entry : (past : Past) (n : ℕ) (a b : Option What) → OwedEntry past n a → OwedEntry past n b → OwedEntry past n (option_or a b)
or-entry past n None b x y = y
or-entry past n (Some w) b x y = x

entry-of : (op : OpId) (j job : Begun) (p : Phase) → job ≡ j → entry_of op j p ≡ entry_of op job p
entry-of op j job p e = ap (λ i. entry_of op i p) (sym e)

module _ (k : Declarations) (past : Past) (c n : ℕ) where
  entry-by_job : (o : Operation) → log.operation past n ≡ Some o → (j : Begun) → o.job ≡ j → (ended : Option Bool)
      → OwedEntry past n (log.owed_for k past c n o.core j ended)
  entry-by_job o at (Begun.Modify g m) job ended =
      if-entry past n (not (has (log.acked past n) c)) o Phase.Local (What.Ack (op_id n)) at (entry-of (op_id n) (Begun.Modify g m) o.job Phase.Local job) refl
  entry-by_job o at (Begun.Start x) job None =
      if-entry past n (o.core == c) o Phase.Global (What.Enter (Body.GlobalStart (op_id n))) at (entry-of (op_id n) (Begun.Start x) o.job Phase.Global job) refl
  entry-by_job o at (Begun.Start x) job (Some true) =
      if-entry past n (not (has (log.acked past n) c)) o Phase.Local (What.Enter (Body.LocalStart (op_id n))) at
      (entry-of (op_id n) (Begun.Start x) o.job Phase.Local job) refl
  entry-by_job o at (Begun.Start x) job (Some false) = NoEntry
  entry-by_job o at (Begun.Stop x) job None =
      or-entry past n (log.only_if (not (has (log.acked past n) c)) (What.Enter (Body.LocalStop (op_id n))))
      (log.only_if (is_number c (log.last_acker k past n)) (What.Enter (Body.GlobalStop (op_id n))))
      (if-entry past n (not (has (log.acked past n) c)) o Phase.Local (What.Enter (Body.LocalStop (op_id n))) at
      (entry-of (op_id n) (Begun.Stop x) o.job Phase.Local job) refl)
      (if-entry past n (is_number c (log.last_acker k past n)) o Phase.Global (What.Enter (Body.GlobalStop (op_id n))) at
      (entry-of (op_id n) (Begun.Stop x) o.job Phase.Global job) refl)
  entry-by_job o at (Begun.Stop x) job (Some ok) = NoEntry

  pub owed-entry : OwedEntry past n (log.owed_to k past c n)
  owed-entry = by_operation (log.operation past n) refl
    where
      by_operation : (o : Option Operation) → log.operation past n ≡ o
          → OwedEntry past n (option_and_then (λ (q : Operation). log.owed_for k past c n q.core q.job (log.global_done past n)) o)
      by_operation None at = NoEntry
      by_operation (Some o) at = entry-by_job o at o.job refl (log.global_done past n)

-- the first step that is owed

or-step : (past : Past) (n : ℕ) (a b : Option What) → OwedEntry past n a
    → option_or (option_and_then step_of a) (option_and_then step_of b) ≡ option_and_then step_of (option_or a b)
or-step past n None b x = refl
or-step past n (Some w) b (AnEntry o p v at is step) = ap (λ s. option_or s (option_and_then step_of b)) step ∙ sym step

step-entry : (past : Past) (n : ℕ) (a : Option What) → OwedEntry past n a → option_map (λ p. (op_id n, p)) (option_and_then phase_of a) ≡ option_and_then step_of a
step-entry past n None x = refl
step-entry past n (Some w) (AnEntry o p v at is step) =
    ap (λ (s : Option (OpId × Phase)). option_map (λ q. (op_id n, q)) (option_map (λ (r : OpId × Phase). r.1) s)) step ∙ sym step

entry-back : (past : Past) (n : ℕ) (a : Option What) → OwedEntry past n a → a ≡ option_and_then (entry_for past) (option_and_then step_of a)
entry-back past n None x = refl
entry-back past n (Some w) (AnEntry o p v at is step) =
    sym (ap (option_and_then (entry_for past)) step ∙ (ap (option_map (λ (q : Operation). entry_of (op_id n) q.job p)) at ∙ ap Some (sym is)))

module _ (k : Declarations) (l : Limits) (past : Past) (all : AllAllowed k l past) (c : ℕ) where
  pub same-step_to : (n : ℕ) → step_to k.cores (ack_steps past) c n ≡ option_and_then step_of (log.owed_to k past c n)
  same-step_to n = ap (option_map (λ p. (op_id n, p))) (same-owed k l past all c n) ∙ step-entry past n (log.owed_to k past c n) (owed-entry k past c n)

  first-step : (ns : List ℕ) → first_owed k.cores (ack_steps past) c ns ≡ option_and_then step_of (log.first_owed k past c ns)
  first-step [] = refl
  first-step (n ∷ ns) =
      (λ i. option_or (same-step_to n i) (first-step ns i)) ∙ or-step past n (log.owed_to k past c n) (log.first_owed k past c ns) (owed-entry k past c n)

  pub same-step : step k.cores (ack_steps past) c ≡ option_and_then step_of (log.step k past c)
  same-step = ap (λ m. first_owed k.cores (ack_steps past) c (below m)) (same-operations past) ∙ first-step (below (log.operations past))

  first-entry : (ns : List ℕ) → (n : ℕ) × OwedEntry past n (log.first_owed k past c ns)
  first-entry [] = (0, NoEntry)
  first-entry (n ∷ ns) = by_owed (log.owed_to k past c n) (owed-entry k past c n) (first-entry ns)
    where
      by_owed : (o : Option What) → OwedEntry past n o → (m : ℕ) × OwedEntry past m (log.first_owed k past c ns)
          → (m : ℕ) × OwedEntry past m (option_or o (log.first_owed k past c ns))
      by_owed None x later = later
      by_owed (Some w) x later = (n, x)

  pub same-entry : log.step k past c ≡ option_and_then (entry_for past) (step k.cores (ack_steps past) c)
  same-entry =
      let f = first-entry (below (log.operations past)) in
      entry-back past f.0 (log.step k past c) f.1 ∙ ap (option_and_then (entry_for past)) (sym same-step)

  owing-by : (p : Option (OpId × Phase)) (w : Option What) → p ≡ option_and_then step_of w → w ≡ option_and_then (entry_for past) p → is_some p ≡ is_some w
  owing-by None w is back = sym (ap is_some back)
  owing-by (Some r) None is back = ap is_some is
  owing-by (Some r) (Some w) is back = refl

  pub same-owing : is_some (step k.cores (ack_steps past) c) ≡ is_some (log.step k past c)
  same-owing = owing-by (step k.cores (ack_steps past) c) (log.step k past c) same-step same-entry
