-- What lists of events mean.
use Rattle.std.specs.Prelude.{ℕ, ◌≤◌, List, [], map, slice_index_or, length}
use Rattle.std.specs.List.{AllByRecursion}
use Rattle.std.specs.VecDeque.{deque_capacity}
use Rattle.em_desk.specs.declared.lines.Lines.TheInside.{Inside}

-- the lists, and how many indices each has room for
pub record LinesState : Type 0 where
  pub lists : List (List ℕ)
  pub room : ℕ

abbrev pub lines_state : Inside → LinesState
lines_state l = record { lists = map (λ d. d.items) l.lists.items; room = l.room }

pub record HaveRoom (l : Inside) : Type 0 where
  pub few : length l.lists.items ≤ 65535
  pub each : AllByRecursion (λ d. l.room ≤ deque_capacity d) l.lists.items

abbrev pub list_at : LinesState → ℕ → List ℕ
list_at l i = slice_index_or l.lists i []
