-- What core c has still to tell of an operation in an ask, one entry after another.
use Rattle.std.specs.Prelude.{ℕ, ◌≡◌, Bool, true, false, not, List, [], ◌∷◌, Option, Some, None, if◌then◌else◌}
use Rattle.em_log.specs.declared.declarations.Declarations.{Declarations}
use Rattle.em_log.specs.declared.entry.Body.{Body}
use Rattle.em_log.specs.declared.entry.What.{What}
use Rattle.em_log.specs.declared.ids.OpId.{OpId}
use Rattle.em_log.specs.History.{Past, entry_by}
use Rattle.em_log.specs.Operations.{Operation, operation, done, notes_of, all_acked}
use Rattle.em_log.specs.Tails.{note_results}
use Rattle.em_acks.specs.declared.job.Phase.{Phase}
use Rattle.em_acks.specs.Operations.{owed_to}
use Rattle.em_operation_parts.specs.AckSteps.{ack_steps}

pub data Ending : Type 0 where
  -- the core acknowledges a start or a change, which is done where every core has then acknowledged it
  Acknowledges : (op : OpId) → Ending
  -- it acknowledges a stop, whose global step is still to come
  AcknowledgesStop : (op : OpId) → Ending
  -- it ends the global start, well or not, or the global stop
  EndsStart : (op : OpId) (ok : Bool) → Ending
  EndsStop : (op : OpId) → Ending
  -- the operation is done, or has failed
  Completes : (op : OpId) → Ending
  Fails : (op : OpId) → Ending

-- the entry that is told next
abbrev pub told : Ending → What
told (Acknowledges op) = What.Ack op
told (AcknowledgesStop op) = What.Ack op
told (EndsStart op ok) = What.GlobalDone op ok
told (EndsStop op) = What.GlobalDone op true
told (Completes op) = What.Done op true
told (Fails op) = What.Done op false

-- what is told after it, where now has it
abbrev pub ending_after : Declarations → Past → Ending → Option Ending
ending_after k now (Acknowledges op) = if all_acked k now op.0 then Some (Completes op) else None
ending_after k now (AcknowledgesStop op) = None
ending_after k now (EndsStart op true) = None
ending_after k now (EndsStart op false) = Some (Fails op)
ending_after k now (EndsStop op) = Some (Completes op)
ending_after k now (Completes op) = None
ending_after k now (Fails op) = None

-- the notes that are told after it
abbrev pub notes_after : Declarations → Past → Past → ℕ → Ending → List What
notes_after k past now c (Completes op) = note_results k now c (notes_of (operation past op.0))
notes_after k past now c e = []

-- all that is told from here: what is done is told last, with its notes
abbrev pub told_last : Declarations → Past → ℕ → Ending → List What
told_last k past c e = told e ∷ notes_after k past (entry_by c (told e) ∷ past) c e

abbrev pub told_then : Declarations → Past → ℕ → Option Ending → List What
told_then k now c None = []
told_then k now c (Some e) = told_last k now c e

abbrev pub told_from : Declarations → Past → ℕ → Ending → List What
told_from k past c (Completes op) = told_last k past c (Completes op)
told_from k past c (Fails op) = told_last k past c (Fails op)
told_from k past c e = told e ∷ told_then k (entry_by c (told e) ∷ past) c (ending_after k (entry_by c (told e) ∷ past) e)

-- what the end of the context of a step has still to tell
abbrev pub ending_of : Body → Bool → Option Ending
ending_of Body.Boot failed = None
ending_of (Body.GlobalStart op) failed = Some (EndsStart op (not failed))
ending_of (Body.LocalStart op) failed = Some (Acknowledges op)
ending_of (Body.LocalStop op) failed = Some (AcknowledgesStop op)
ending_of (Body.GlobalStop op) failed = Some (EndsStop op)

-- what stands of an operation while this is still to be told: the core owes the step, or the operation is not done
pub record IsUndone (past : Past) (n : ℕ) : Type 0 where
  pub begun : Operation
  pub is : operation past n ≡ Some begun
  pub undone : done past n ≡ None

abbrev pub IsDue : Declarations → Past → ℕ → Ending → Type 0
IsDue k past c (Acknowledges op) = owed_to k.cores (ack_steps past) c op.0 ≡ Some Phase.Local
IsDue k past c (AcknowledgesStop op) = owed_to k.cores (ack_steps past) c op.0 ≡ Some Phase.Local
IsDue k past c (EndsStart op ok) = owed_to k.cores (ack_steps past) c op.0 ≡ Some Phase.Global
IsDue k past c (EndsStop op) = owed_to k.cores (ack_steps past) c op.0 ≡ Some Phase.Global
IsDue k past c (Completes op) = IsUndone past op.0
IsDue k past c (Fails op) = IsUndone past op.0
