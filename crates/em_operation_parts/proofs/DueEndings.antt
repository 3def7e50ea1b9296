-- What is still to be told of an operation in an ask is due: the step is owed, or the operation is not done.
use Rattle.std.proofs.Common.{◌≡◌, ℕ, ◌<◌, Bool, true, false, ◌∷◌, Option, Some, None, if◌then◌else◌, refl, sym, ap, ◌∙◌, subst}
use Rattle.std.specs.Option.{option_map, option_and_then}
use Rattle.em_log.specs.declared.declarations.Declarations.{Declarations}
use Rattle.em_log.specs.declared.entry.Body.{Body}
use Rattle.em_log.specs.declared.entry.What.{What}
use Rattle.em_log.specs.declared.ids.Cells.{Cells}
use Rattle.em_log.specs.declared.ids.Limits.{Limits}
use Rattle.em_log.specs.declared.ids.OpId.{OpId}
use Rattle.em_log.specs.History.{Past, entry_by}
use Rattle.em_log.specs.Declarations.{below}
use Rattle.em_log.specs.Contexts.{context}
use Rattle.em_log.specs.Lawful.{AllAllowed}
use Rattle.em_log.specs.Operations.{Operation, operation, operations, done, all_acked, op_id}
use Rattle.em_log.specs.Operations as log
use Rattle.em_laws.proofs.Cores.{none-some, some-inj}
use Rattle.em_acks.specs.declared.job.Phase.{Phase}
use Rattle.em_acks.specs.Operations.{owed_to, owed_for}
use Rattle.em_acks.specs.Operations as part
use Rattle.em_operation_parts.specs.AckSteps.{ack_steps, operation_of, step_of, phase_of}
use Rattle.em_operation_parts.specs.Endings.{Ending, Acknowledges, AcknowledgesStop, EndsStart, EndsStop, Completes, Fails, told, ending_of, ending_after, IsUndone, IsDue}
use Rattle.em_operation_parts.proofs.IdleCores.{owed-first}
use Rattle.em_operation_parts.proofs.OperationSteps.{same-operation}
use Rattle.em_operation_parts.proofs.OpenSteps.{open-owed_to}
use Rattle.em_operation_parts.proofs.OwedSteps.{OwedEntry, AnEntry, owed-entry, same-owed}
use Rattle.em_operation_parts.proofs.Targets.{step-undone}

module _ (k : Declarations) (l : Limits) (past : Past) (all : AllAllowed k l past) where
  -- the end of the context of a step leaves it owed
  pub end-due : (c lost : ℕ) (cells : Option Cells) (b : Body) (failed : Bool) → c < k.cores → context past c ≡ Some (What.Enter b)
      → (e : Ending) → ending_of b failed ≡ Some e → IsDue k (entry_by c (What.End lost cells) ∷ past) c e
  end-due c lost cells Body.Boot failed lt entered e is = absurd (none-some e is)
  end-due c lost cells (Body.GlobalStart op) failed lt entered e is =
      subst (IsDue k (entry_by c (What.End lost cells) ∷ past) c) (some-inj _ e is)
      (open-owed_to k l past c (Body.GlobalStart op) (op, Phase.Global) lt all entered refl)
  end-due c lost cells (Body.LocalStart op) failed lt entered e is =
      subst (IsDue k (entry_by c (What.End lost cells) ∷ past) c) (some-inj _ e is)
      (open-owed_to k l past c (Body.LocalStart op) (op, Phase.Local) lt all entered refl)
  end-due c lost cells (Body.LocalStop op) failed lt entered e is =
      subst (IsDue k (entry_by c (What.End lost cells) ∷ past) c) (some-inj _ e is)
      (open-owed_to k l past c (Body.LocalStop op) (op, Phase.Local) lt all entered refl)
  end-due c lost cells (Body.GlobalStop op) failed lt entered e is =
      subst (IsDue k (entry_by c (What.End lost cells) ∷ past) c) (some-inj _ e is)
      (open-owed_to k l past c (Body.GlobalStop op) (op, Phase.Global) lt all entered refl)

  same-ack : (n : ℕ) (o : Option What) (op : OpId) → OwedEntry past n o → o ≡ Some (What.Ack op) → n ≡ op.0
  same-ack n None op entry is = absurd (none-some (What.Ack op) is)
  same-ack n (Some w) op (AnEntry o p v at entry step) is =
      ap (λ (r : OpId × Phase). r.0.0) (some-inj (op_id n, p) (op, Phase.Local) (sym step ∙ ap step_of (some-inj w (What.Ack op) is)))

  -- a change that a core has to acknowledge
  pub change-due : (c : ℕ) (op : OpId) → log.step k past c ≡ Some (What.Ack op) → IsDue k past c (Acknowledges op)
  change-due c op is =
      let owed = owed-first k past c (below (operations past)) (What.Ack op) is in
      let number : owed.0 ≡ op.0 = same-ack owed.0 (log.owed_to k past c owed.0) op (owed-entry k past c owed.0) owed.1 in
      same-owed k l past all c op.0 ∙ ap (option_and_then phase_of) (ap (log.owed_to k past c) (sym number) ∙ owed.1)

  -- what is owed a step has begun
  owed-begun : (c n : ℕ) (p : Phase) → owed_to k.cores (ack_steps past) c n ≡ Some p → (o : Operation) × (operation past n ≡ Some o)
  owed-begun c n p owed =
      by_operation (operation past n) refl
      (sym (ap (option_and_then (λ (o : part.Operation). owed_for k.cores (ack_steps past) c n o.core o.job (part.global_done (ack_steps past) n))) (same-operation k l past all n)) ∙ owed)
    where
      by_operation : (o : Option Operation) → operation past n ≡ o
          → option_and_then (λ (q : part.Operation). owed_for k.cores (ack_steps past) c n q.core q.job (part.global_done (ack_steps past) n)) (option_map operation_of o) ≡ Some p
          → (o : Operation) × (operation past n ≡ Some o)
      by_operation None is h = absurd (none-some p h)
      by_operation (Some o) is h = (o, is)

  still-undone : (c n : ℕ) (p : Phase) → c < k.cores → owed_to k.cores (ack_steps past) c n ≡ Some p → IsUndone past n
  still-undone c n p lt owed =
      let o = owed-begun c n p owed in record { begun = o.0; is = o.1; undone = step-undone k l past all c n p lt owed }

  -- what follows stays due
  pub next-due : (c : ℕ) (e f : Ending) → c < k.cores → IsDue k past c e → ending_after k (entry_by c (told e) ∷ past) e ≡ Some f
      → IsDue k (entry_by c (told e) ∷ past) c f
  next-due c (Acknowledges op) f lt due is = by_acked (all_acked k (entry_by c (What.Ack op) ∷ past) op.0) is
    where
      by_acked : (b : Bool) → (if b then Some (Completes op) else None) ≡ Some f → IsDue k (entry_by c (What.Ack op) ∷ past) c f
      by_acked false is = absurd (none-some f is)
      by_acked true is =
          let u = still-undone c op.0 Phase.Local lt due in
          subst (IsDue k (entry_by c (What.Ack op) ∷ past) c) (some-inj _ f is) (record { begun = u.begun; is = u.is; undone = u.undone })
  next-due c (AcknowledgesStop op) f lt due is = absurd (none-some f is)
  next-due c (EndsStart op true) f lt due is = absurd (none-some f is)
  next-due c (EndsStart op false) f lt due is =
      let u = still-undone c op.0 Phase.Global lt due in
      subst (IsDue k (entry_by c (What.GlobalDone op false) ∷ past) c) (some-inj _ f is) (record { begun = u.begun; is = u.is; undone = u.undone })
  next-due c (EndsStop op) f lt due is =
      let u = still-undone c op.0 Phase.Global lt due in
      subst (IsDue k (entry_by c (What.GlobalDone op true) ∷ past) c) (some-inj _ f is) (record { begun = u.begun; is = u.is; undone = u.undone })
  next-due c (Completes op) f lt due is = absurd (none-some f is)
  next-due c (Fails op) f lt due is = absurd (none-some f is)
