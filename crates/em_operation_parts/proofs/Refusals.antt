-- Where nothing is due, the parts refuse operations as the history does.
use Rattle.std.proofs.Common.{◌≡◌, ℕ, List, [], Option, Some, None, refl, sym, ◌∙◌, ap}
use Rattle.std.specs.Option.{option_or, option_map}
use Rattle.em_log.specs.declared.declarations.Declarations.{Declarations}
use Rattle.em_log.specs.declared.fault.Fault.{Fault}
use Rattle.em_log.specs.declared.ids.Limits.{Limits}
use Rattle.em_log.specs.declared.ids.Note.{Note}
use Rattle.em_log.specs.History.{Past}
use Rattle.em_log.specs.Lawful.{Lawful}
use Rattle.em_log.specs.Leads.{notes_refusal, operations_fault, start_operation, unless_created, unless_running}
use Rattle.em_log.specs.Leads as leads
use Rattle.em_log.specs.Operations.{op_id}
use Rattle.em_acks.specs.declared.job.Target.{Target}
use Rattle.em_operation_parts.specs.AckSteps.{aims_at}
use Rattle.em_operation_parts.specs.Refusals.{begin_refusal, RefusalsAlike}
use Rattle.em_operation_parts.proofs.ObjectStates.{same-state}
use Rattle.em_operation_parts.proofs.PendingOperations.{same-pending, same-begin_fault}

-- once the pending operation is looked at, that no number is left is all that may be wrong with the number
or-again : (o p q r : Option Fault) → option_or o (option_or p (option_or q r)) ≡ option_or o (option_or p (option_or (option_or o q) r))
or-again None p q r = refl
or-again (Some f) p q r = refl

module _ (k : Declarations) (l : Limits) (past : Past) (lawful : Lawful k l past) where
  same-refusal : (c : ℕ) (t : Target) (own : Option Fault) (notes : List Note)
      → leads.begin_refusal past c (aims_at t) own notes ≡ begin_refusal k past c t own notes
  same-refusal c t own notes =
      or-again (leads.pending_fault past (aims_at t)) own (operations_fault past) (notes_refusal past c [] notes)
      ∙ (λ i. option_or (option_map (λ n. Fault.OpPending (op_id n)) (sym (same-pending k l past lawful t) i))
      (option_or own (option_or (sym (same-begin_fault k l past lawful t) i) (notes_refusal past c [] notes))))

pub refusals-alike : (k : Declarations) (l : Limits) (past : Past) → Lawful k l past → RefusalsAlike k past
refusals-alike k l past lawful = record {
  start = λ c x notes.
      ap (λ s. leads.begin_refusal past c (aims_at (Target.Eo x)) (unless_created s) notes) (sym (same-state k x.0 past))
      ∙ same-refusal k l past lawful c (Target.Eo x) _ notes;
  stop = λ c x notes.
      ap (λ s. leads.begin_refusal past c (aims_at (Target.Eo x)) (unless_running s) notes) (sym (same-state k x.0 past))
      ∙ same-refusal k l past lawful c (Target.Eo x) _ notes;
  modify = λ c g m notes. same-refusal k l past lawful c (Target.Group g) _ notes;
  fail = λ c op entered. ap (λ o. Some (Fault.StartFailed (start_operation o))) entered;
  enable = λ c q. refl;
  disable = λ c q. refl;
}
