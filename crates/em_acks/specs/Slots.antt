-- The operations in the places of their numbers.
use Rattle.std.specs.Prelude.{ℕ, Bool, false, List, length, filter_map, slice_index_or, Option, None}
use Rattle.std.specs.Option.{option_map_or}
use Rattle.em_log.specs.Declarations.{below}
use Rattle.em_acks.specs.declared.job.Target.{Target}
use Rattle.em_acks.specs.declared.unfinished.Unfinished.{Unfinished}
use Rattle.em_acks.specs.Operations.{is_target}

-- operation n, if it has begun and is not done
abbrev pub slot_at : List (Option Unfinished) → ℕ → Option Unfinished
slot_at slots n = slice_index_or slots n None

-- the operations that are not done, by number upwards
abbrev pub unfinished_in : List (Option Unfinished) → List Unfinished
unfinished_in slots = filter_map (slot_at slots) (below (length slots))

-- whether this is an operation of the target
abbrev pub has_target : Target → Option Unfinished → Bool
has_target t o = option_map_or (λ u. is_target t u.target) o false
