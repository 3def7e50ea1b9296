-- The place of each event on the steps of the pools, and what a pool can give.
use Rattle.std.specs.Prelude.{ℕ, suc, ◌==◌, Bool, true, false, List, [], ◌∷◌, find, take, slice_get, nat_lt, Option, Some, None, Result, Ok, Err, if◌then◌else◌, unwrap_or, is_none}
use Rattle.std.specs.Option.{option_map_or}
use Rattle.em_log.specs.declared.declarations.PoolShape.{PoolShape}
use Rattle.em_log.specs.declared.fault.Fault.{Fault}
use Rattle.em_log.specs.declared.ids.Handle.{Handle}
use Rattle.em_log.specs.Declarations.{numbers_from, event_total}
use Rattle.em_log.specs.History.{index_of}
use Rattle.em_log.specs.Handles.{Minting}
use Rattle.em_pool.specs.declared.place.Place.{Place}
use Rattle.em_pool.specs.Steps.{PoolStep, Minted, Spent, Shifted, Lost}
use Rattle.em_pool.specs.Handles.{Spending, minting, spending, last_handle, next_handle}

-- places

abbrev pub shift_after : ℕ → PoolStep → Option Place → Option Place
shift_after i (Minted c e) was = if index_of e.handle.0 == i then None else was
shift_after i (Spent c h how p) was = was
shift_after i (Shifted j to) was = if j == i then Some to else was
shift_after i (Lost c p) was = was

-- where the event of this index was last shifted to since its last minting, if it was
abbrev pub shift : List PoolStep → ℕ → Option Place
shift [] i = None
shift (s ∷ steps) i = shift_after i s (shift steps i)

abbrev pub place_of : Option Minting → Option Spending → Option Place → Place
place_of None s to = Place.Free
place_of (Some m) None to = Place.Held (record { 0 = m.core })
place_of (Some m) (Some s) to = unwrap_or to s.to

abbrev pub place_by : List PoolStep → ℕ → Option ℕ → Place
place_by steps i None = Place.Free
place_by steps i (Some h) = place_of (minting steps h) (spending steps h) (shift steps i)

-- where the event of index i is, read off its last minting, what spent that handle, and the shifts since
abbrev pub place : List PoolStep → ℕ → Place
place steps i = place_by steps i (last_handle steps i)

-- kinds of places

abbrev pub is_free : Place → Bool
is_free Place.Free = true
is_free _ = false

abbrev pub is_held : Place → Bool
is_held (Place.Held c) = true
is_held _ = false

-- whether an event there can be shifted: it is live, and no core holds it
abbrev pub can_shift : Place → Bool
can_shift Place.Free = false
can_shift (Place.Held c) = false
can_shift _ = true

-- whether an event can be shifted to there
abbrev pub is_shift_target : Place → Bool
is_shift_target Place.Free = true
is_shift_target (Place.Waiting q) = true
is_shift_target (Place.Taken c) = true
is_shift_target Place.Lost = true
is_shift_target _ = false

-- whether an event there can be minted again: it is taken, kept or waiting
abbrev pub is_mintable : Place → Bool
is_mintable (Place.Kept x) = true
is_mintable (Place.Waiting q) = true
is_mintable (Place.Taken c) = true
is_mintable _ = false

-- pools

-- how many of these events are live: not free
abbrev pub live : List PoolStep → List ℕ → ℕ
live steps [] = 0
live steps (i ∷ is) = if is_free (place steps i) then live steps is else suc (live steps is)

-- the first of these events that is free
abbrev pub first_free : List PoolStep → List ℕ → Option ℕ
first_free steps is = find (λ i. is_free (place steps i)) is

abbrev pub events_of : List PoolShape → ℕ → ℕ
events_of pools p = option_map_or (λ d. d.events) (slice_get pools p) 0

abbrev pub words_of : List PoolShape → ℕ → ℕ
words_of pools p = option_map_or (λ d. d.words) (slice_get pools p) 0

-- the indices of a pool's events: they follow those of the pools before it
abbrev pub indices_of : List PoolShape → ℕ → List ℕ
indices_of pools p = numbers_from (event_total (take p pools)) (events_of pools p)

-- an alloc is refused for more words than the pool's, then where no event of the pool is free
abbrev pub alloc_refusal : List PoolShape → List PoolStep → ℕ → ℕ → Option Fault
alloc_refusal pools steps p size =
    if nat_lt (words_of pools p) size then Some (Fault.BadSize (words_of pools p))
    else if is_none (first_free steps (indices_of pools p)) then Some (Fault.PoolEmpty (live steps (indices_of pools p)))
    else None

-- the next handle of the pool's least free index
abbrev pub alloc_handle : List PoolShape → List PoolStep → ℕ → ℕ
alloc_handle pools steps p = next_handle steps (unwrap_or (first_free steps (indices_of pools p)) 0)

abbrev pub handle_unless : Option Fault → ℕ → Result Handle Fault
handle_unless None h = Ok (record { 0 = h })
handle_unless (Some f) h = Err f

-- what an alloc answers
abbrev pub alloc_answer : List PoolShape → List PoolStep → ℕ → ℕ → Result Handle Fault
alloc_answer pools steps p size = handle_unless (alloc_refusal pools steps p size) (alloc_handle pools steps p)
