-- Lists of events that are linked by their indices.
use Rattle.std.specs.Prelude.{ℕ, zero, suc, ◌≡◌, ◌+◌, ◌≤◌, ◌==◌, not, Bool, List, [], ◌∷◌, length, map, slice_index, slice_index_or, if◌then◌else◌}
use Rattle.std.specs.List.{sum_by, count_by}
use Rattle.em_queues.specs.declared.event_lists.ListEnds.{ListEnds}
use Rattle.em_queues.specs.Events.{list_in}

-- the event that comes n events after event i
abbrev pub event_at : List ℕ → ℕ → ℕ → ℕ
event_at next i zero = i
event_at next i (suc n) = event_at next (slice_index next i) n

-- the n events from event i on
abbrev pub chain : List ℕ → ℕ → ℕ → List ℕ
chain next i zero = []
chain next i (suc n) = i ∷ chain next (slice_index next i) n

abbrev pub no_ends : ListEnds
no_ends = record { first = 0; last = 0; count = 0 }

abbrev pub events_of : List ℕ → ListEnds → List ℕ
events_of next e = chain next e.first e.count

-- the events of each list
abbrev pub all_events : List ListEnds → List ℕ → List (List ℕ)
all_events ends next = map (events_of next) ends

-- whether an event with this one for the next is in a list
abbrev pub is_linked : ℕ → Bool
is_linked n = not (n == 65535)

-- how often event i is in a list
abbrev pub times : ℕ → List ℕ → ℕ
times i xs = count_by (λ x. x == i) xs

-- how many events are in no list
abbrev pub unlisted : List ℕ → ℕ
unlisted next = count_by (λ n. n == 65535) next

-- 1 for an event that is in a list, and 0 for any other
abbrev pub told : List ℕ → ℕ → ℕ
told next i = if is_linked (slice_index_or next i 65535) then 1 else 0

pub record IsLinked (lists : List (List ℕ)) (ends : List ListEnds) (next : List ℕ) : Type 0 where
  -- the last event of each list
  pub last : (l n : ℕ) → length (list_in lists l) ≡ suc n → slice_index (list_in lists l) n ≡ (slice_index_or ends l no_ends).last
  -- an event is in one list, or in none
  pub once : (i : ℕ) → sum_by (times i) lists ≡ told next i
  -- all lists together are no longer than there are events
  pub enough : sum_by (λ (xs : List ℕ). length xs) lists + unlisted next ≤ length next
  pub few : length next ≤ 4096

abbrev pub AreLinked : List ListEnds → List ℕ → Type 0
AreLinked ends next = IsLinked (all_events ends next) ends next
