-- What the desk keeps of its history, and how much room for it there is.
use Rattle.std.specs.Prelude.{ℕ, ◌≡◌, ◌≤◌, reverse}
use Rattle.std.specs.Vec.{vec_capacity}
use Rattle.em_log.specs.History.{Past}
use Rattle.em_bounds.specs.Paid.{paid}
use Rattle.em_desk.specs.declared.history.History.TheInside.{Inside}

-- the newest entry first, and the number of entries that there is room for
pub record HistoryState : Type 0 where
  pub past : Past
  pub capacity : ℕ

abbrev pub history_state : Inside → HistoryState
history_state h = record { past = reverse h.entries.items; capacity = vec_capacity h.entries }

-- what its entries have paid is kept, and there is room for it
pub record IsCounted (h : Inside) : Type 0 where
  pub count : h.paid ≡ paid (reverse h.entries.items)
  pub fits : h.paid ≤ vec_capacity h.entries
