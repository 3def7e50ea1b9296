-- The states and flags of the steps of objects are those of the history.
use Rattle.std.proofs.Common.{◌≡◌, ℕ, ◌&&◌, Bool, true, false, List, [], ◌∷◌, Option, Some, None, if◌then◌else◌, refl, ap, ◌∙◌}
use Rattle.std.specs.Option.{option_map, option_map_or, option_and_then}
use Rattle.em_log.specs.declared.declarations.Declarations.{Declarations}
use Rattle.em_log.specs.declared.entry.Begun.{Begun}
use Rattle.em_log.specs.declared.entry.What.{What}
use Rattle.em_log.specs.declared.fault.Fault.{Fault}
use Rattle.em_log.specs.History.{Past}
use Rattle.em_log.specs.Declarations.{kind_of, object_of, is_served}
use Rattle.em_log.specs.Operations.{Operation, operation}
use Rattle.em_log.specs.Eligible.{runs}
use Rattle.em_log.specs.States as log
use Rattle.em_objects.specs.Steps.{ObjectStep}
use Rattle.em_objects.specs.Queues.{state, flag}
use Rattle.em_objects.specs.Queues as part
use Rattle.em_operation_parts.specs.ObjectSteps.{begun_steps, done_steps, object_after, object_steps, touches_objects}
use Rattle.em_operation_parts.specs.ObjectsAlike.{ObjectsAlike}

module _ (k : Declarations) (x : ℕ) where
  state-begun : (job : Begun) (s : List ObjectStep) → state k (begun_steps job s) x ≡ log.state_begun x job (state k s x)
  state-begun (Begun.Start y) s = refl
  state-begun (Begun.Stop y) s = refl
  state-begun (Begun.Modify g m) s = refl

  state-done : (job : Begun) (ok : Bool) (s : List ObjectStep) → state k (done_steps job ok s) x ≡ log.state_done x job ok (state k s x)
  state-done (Begun.Start y) true s = refl
  state-done (Begun.Start y) false s = refl
  state-done (Begun.Stop y) ok s = refl
  state-done (Begun.Modify g m) ok s = refl

  state-completed : (o : Option Operation) (ok : Bool) (s : List ObjectStep)
      → state k (option_map_or (λ p. done_steps p.job ok s) o s) x ≡ option_map_or (λ p. log.state_done x p.job ok (state k s x)) o (state k s x)
  state-completed None ok s = refl
  state-completed (Some o) ok s = state-done o.job ok s

  state-after : (past : Past) (w : What) (s : List ObjectStep) → state k (object_after past w s) x ≡ log.state_after past x w (state k s x)
  state-after past (What.Begin op job notes) s = state-begun job s
  state-after past (What.Done op ok) s = state-completed (operation past op.0) ok s
  state-after past (What.Enable q) s = refl
  state-after past (What.Disable q) s = refl
  state-after past w s = refl

  pub same-state : (past : Past) → state k (object_steps past) x ≡ log.state k past x
  same-state [] = refl
  same-state (e ∷ past) = state-after past e.what (object_steps past) ∙ ap (log.state_after past x e.what) (same-state past)

module _ (q : ℕ) where
  flag-begun : (job : Begun) (s : List ObjectStep) → flag (begun_steps job s) q ≡ flag s q
  flag-begun (Begun.Start y) s = refl
  flag-begun (Begun.Stop y) s = refl
  flag-begun (Begun.Modify g m) s = refl

  flag-done : (job : Begun) (ok : Bool) (s : List ObjectStep) → flag (done_steps job ok s) q ≡ flag s q
  flag-done (Begun.Start y) true s = refl
  flag-done (Begun.Start y) false s = refl
  flag-done (Begun.Stop y) ok s = refl
  flag-done (Begun.Modify g m) ok s = refl

  flag-completed : (o : Option Operation) (ok : Bool) (s : List ObjectStep) → flag (option_map_or (λ p. done_steps p.job ok s) o s) q ≡ flag s q
  flag-completed None ok s = refl
  flag-completed (Some o) ok s = flag-done o.job ok s

  flag-after : (past : Past) (w : What) (s : List ObjectStep) → flag (object_after past w s) q ≡ log.flag_after q w (flag s q)
  flag-after past (What.Begin op job notes) s = flag-begun job s
  flag-after past (What.Done op ok) s = flag-completed (operation past op.0) ok s
  flag-after past (What.Enable r) s = refl
  flag-after past (What.Disable r) s = refl
  flag-after past w s = refl

  pub same-flag : (past : Past) → flag (object_steps past) q ≡ log.flag past q
  same-flag [] = refl
  same-flag (e ∷ past) = flag-after past e.what (object_steps past) ∙ ap (log.flag_after q e.what) (same-flag past)

module _ (k : Declarations) (past : Past) (q : ℕ) where
  closed-of : (o : Option ℕ) → option_and_then (λ x. log.closed_by (state k (object_steps past) x) (flag (object_steps past) q)) o
      ≡ option_and_then (λ x. log.closed_by (log.state k past x) (log.flag past q)) o
  closed-of None = refl
  closed-of (Some x) = (λ i. log.closed_by (same-state k x past i) (same-flag q past i))

  pub same-closed : part.closed k (object_steps past) q ≡ log.closed k past q
  same-closed = ap (λ o. if is_served (kind_of k q) then o else None) (closed-of (object_of k q))

  runs-of : (o : Option ℕ) → option_map_or (λ x. log.is_running (state k (object_steps past) x)) o false
      ≡ option_map_or (λ x. log.is_running (log.state k past x)) o false
  runs-of None = refl
  runs-of (Some x) = ap log.is_running (same-state k x past)

  pub same-delivers : part.delivers k (object_steps past) q ≡ (runs k past q && log.flag past q)
  same-delivers = (λ i. runs-of (object_of k q) i && same-flag q past i)

pub objects-alike : (k : Declarations) (past : Past) → ObjectsAlike k past
objects-alike k past = record {
  state = λ x. same-state k x past;
  flag = λ q. same-flag q past;
  closed = λ q. same-closed k past q;
  closed_fault = λ q. ap (option_map (λ why. Fault.QueueClosed why)) (same-closed k past q);
  delivers = λ q. same-delivers k past q;
}

pub objects-untouched : (past : Past) (w : What) (steps : List ObjectStep) → touches_objects w ≡ false → object_after past w steps ≡ steps
objects-untouched past (What.Begin op (Begun.Start x) notes) steps is = absurd cc
objects-untouched past (What.Begin op (Begun.Stop x) notes) steps is = absurd cc
objects-untouched past (What.Begin op (Begun.Modify g m) notes) steps is = refl
objects-untouched past (What.Done op ok) steps is = absurd cc
objects-untouched past (What.Enable q) steps is = absurd cc
objects-untouched past (What.Disable q) steps is = absurd cc
objects-untouched past w steps is = refl
