-- How long a history of a run may become, whose contexts keep to their allowance.
use Rattle.std.specs.Prelude.{ℕ, suc, ◌≡◌, ◌+◌, ◌*◌, ◌≤◌, [], ◌∷◌, Some}
use Rattle.em_log.specs.declared.declarations.Declarations.{Declarations}
use Rattle.em_log.specs.declared.entry.Entry.{Entry}
use Rattle.em_log.specs.declared.entry.What.{What}
use Rattle.em_log.specs.declared.ids.Limits.{Limits}
use Rattle.em_log.specs.History.{Past}
use Rattle.em_log.specs.Contexts.{context}
use Rattle.em_log.specs.Lawful.{due}
use Rattle.em_log.specs.Bounds.{operation_limit}
use Rattle.em_log.specs.Allowance.{allowance, cost_of_lead, left}

-- the ask that this entry begins costs no more than its context has left
abbrev pub IsAfforded : Declarations → Past → Entry → Type 0
IsAfforded k past e = (b : What) → context past e.core.0 ≡ Some b → due k past ≡ [] → cost_of_lead e.what ≤ left k past e.core.0

abbrev pub AllAfforded : Declarations → Past → Type 0
AllAfforded k [] = Unit {0}
AllAfforded k (e ∷ past) = IsAfforded k past e × AllAfforded k past

-- a context: its beginning, its end, and the allowance of its asks
abbrev pub context_need : ℕ
context_need = 2 + allowance

-- a receive: its context, the take, and a giving back of what else was taken
abbrev pub receive_need : ℕ
receive_need = 2 + context_need

-- the part of one core in an operation: its context, and its acknowledgement
abbrev pub local_need : ℕ
local_need = suc context_need

-- an operation: its global context, and the part of each core; its own end was paid by the ask that began it
abbrev pub operation_need : ℕ → ℕ
operation_need cores = context_need + local_need * cores

-- boot, a context that each core may have open, the receives, and the operations
abbrev pub most_needed : ℕ → ℕ → ℕ → ℕ
most_needed cores receives operations = context_need + context_need * cores + receive_need * receives + operation_need cores * operations

-- the greatest length of a history that is under way under these limits
abbrev pub history_limit : Declarations → Limits → ℕ
history_limit k l = most_needed k.cores l.receives operation_limit
