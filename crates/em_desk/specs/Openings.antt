-- What the desk keeps of open contexts.
use Rattle.std.specs.Prelude.{ℕ, Bool, true, false, List, Option, Some, None, slice_index_or}
use Rattle.em_log.specs.declared.declarations.Declarations.{Declarations}
use Rattle.em_log.specs.declared.entry.Body.{Body}
use Rattle.em_log.specs.declared.entry.What.{What}
use Rattle.em_log.specs.declared.ids.EoId.{EoId}
use Rattle.em_log.specs.History.{Past}
use Rattle.em_log.specs.Contexts.{context}
use Rattle.em_log.specs.Leads.{scope}
use Rattle.em_desk.specs.declared.opening.Opening.{Opening}

abbrev pub opening_at : List Opening → ℕ → Opening
opening_at os c = slice_index_or os c Opening.Closed

abbrev pub opening_by : Option What → Option EoId → Opening
opening_by None x = Opening.Closed
opening_by (Some (What.Enter Body.Boot)) x = Opening.Boot
opening_by (Some b) x = Opening.Body x

-- what the history says of core c's context, of every kind
abbrev pub opening_of : Declarations → Past → ℕ → Opening
opening_of k past c = opening_by (context past c) (scope k past c)

abbrev pub is_closed : Opening → Bool
is_closed Opening.Closed = true
is_closed _ = false

abbrev pub is_boot : Opening → Bool
is_boot Opening.Boot = true
is_boot _ = false

-- the object of the context, if it has one
abbrev pub object_in : Opening → Option EoId
object_in (Opening.Body x) = x
object_in _ = None

abbrev pub object_or_first : Option EoId → EoId
object_or_first None = record { 0 = 0 }
object_or_first (Some x) = x

-- the same, as a number that is always there
abbrev pub receiver_in : Opening → EoId
receiver_in o = object_or_first (object_in o)
