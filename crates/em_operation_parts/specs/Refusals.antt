-- Why operations are refused, as the parts tell it.
use Rattle.std.specs.Prelude.{ℕ, ◌≡◌, List, [], Option, Some}
use Rattle.std.specs.Option.{option_map, option_or}
use Rattle.em_log.specs.declared.ask.Ask.{Ask}
use Rattle.em_log.specs.declared.declarations.Declarations.{Declarations}
use Rattle.em_log.specs.declared.entry.Body.{Body}
use Rattle.em_log.specs.declared.entry.What.{What}
use Rattle.em_log.specs.declared.fault.Fault.{Fault}
use Rattle.em_log.specs.declared.ids.EoId.{EoId}
use Rattle.em_log.specs.declared.ids.GroupId.{GroupId}
use Rattle.em_log.specs.declared.ids.Note.{Note}
use Rattle.em_log.specs.declared.ids.OpId.{OpId}
use Rattle.em_log.specs.declared.ids.QueueId.{QueueId}
use Rattle.em_log.specs.History.{Past}
use Rattle.em_log.specs.Contexts.{context}
use Rattle.em_log.specs.Leads.{refusal, notes_refusal, kind_refusal, mask_fault, unless_created, unless_running}
use Rattle.em_log.specs.Operations.{op_id}
use Rattle.em_acks.specs.declared.job.Target.{Target}
use Rattle.em_acks.specs.Operations.{pending, begin_fault}
use Rattle.em_objects.specs.Queues.{state}
use Rattle.em_operation_parts.specs.AckSteps.{ack_steps}
use Rattle.em_operation_parts.specs.ObjectSteps.{object_steps}

abbrev pub pending_fault : Declarations → Past → Target → Option Fault
pending_fault k past t = option_map (λ n. Fault.OpPending (op_id n)) (pending k.cores (ack_steps past) t)

-- an operation of the target is pending, then its own reason, then no number is left, then its notes
abbrev pub begin_refusal : Declarations → Past → ℕ → Target → Option Fault → List Note → Option Fault
begin_refusal k past c t own notes =
    option_or (pending_fault k past t) (option_or own (option_or (begin_fault k.cores (ack_steps past) t) (notes_refusal past c [] notes)))

pub record RefusalsAlike (k : Declarations) (past : Past) : Type 0 where
  pub start : (c : ℕ) (x : EoId) (notes : List Note)
      → refusal k past c (Ask.Start x notes) ≡ begin_refusal k past c (Target.Eo x) (unless_created (state k (object_steps past) x.0)) notes
  pub stop : (c : ℕ) (x : EoId) (notes : List Note)
      → refusal k past c (Ask.Stop x notes) ≡ begin_refusal k past c (Target.Eo x) (unless_running (state k (object_steps past) x.0)) notes
  pub modify : (c : ℕ) (g : GroupId) (m : ℕ) (notes : List Note)
      → refusal k past c (Ask.Modify g m notes) ≡ begin_refusal k past c (Target.Group g) (mask_fault k m) notes
  pub fail : (c : ℕ) (op : OpId) → context past c ≡ Some (What.Enter (Body.GlobalStart op)) → refusal k past c Ask.Fail ≡ Some (Fault.StartFailed op)
  pub enable : (c : ℕ) (q : QueueId) → refusal k past c (Ask.Enable q) ≡ kind_refusal k q.0
  pub disable : (c : ℕ) (q : QueueId) → refusal k past c (Ask.Disable q) ≡ kind_refusal k q.0
