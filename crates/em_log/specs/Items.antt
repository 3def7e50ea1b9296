-- What a value that threads share shows of a run: a fixed part, and a list of items that only grows.
use Rattle.std.specs.Prelude.{ℕ}
use Rattle.em_log.specs.declared.ids.CoreId.{CoreId}
use Rattle.em_log.specs.declared.ids.Limits.{Limits}
use Rattle.em_log.specs.declared.entry.Entry.{Entry}
use Rattle.em_log.specs.declared.declarations.Declarations.{Declarations}

-- what no step of a run changes: the declarations of the graph without names and bodies, and the limits
pub record Fixed : Type 0 where
  pub declarations : Declarations
  pub limits : Limits

-- an entry of the history, or the mark of a halt with the core that halted
pub data LogItem : Type 0 where
  Logged : Entry → LogItem
  Halted : CoreId → LogItem

-- the number of an item is that of its core
abbrev pub number_of : LogItem → ℕ
number_of (Logged e) = e.core.0
number_of (Halted c) = c.0
