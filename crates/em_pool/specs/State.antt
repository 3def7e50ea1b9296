-- What the pools mean: numbers, lists and a finite map, and what can be read off them.
use Rattle.std.specs.Prelude.{ℕ, ◌+◌, ◌/◌, ◌==◌, nat_le, Bool, false, ◌&&◌, List, [], slice_index_or, count_by, Option, Some, None, if◌then◌else◌, refl}
use Rattle.std.specs.Coded.{Coded, code_by, coded×, coded_ℕ, coded_list}
use Rattle.std.specs.FinMap as map
use Rattle.em_log.specs.declared.declarations.PoolShape.{PoolShape}
use Rattle.em_log.specs.declared.entry.Event.{Event}
use Rattle.em_log.specs.declared.fault.Fault.{Fault}
use Rattle.em_log.specs.History.{index_of, handle_of}
use Rattle.em_pool.specs.declared.place.Place.{Place}
use Rattle.em_pool.specs.declared.place.Spent.{Spent}
use Rattle.em_pool.specs.declared.slot.Slot.{Slot}
use Rattle.em_pool.specs.Handles.{spent_fault}
use Rattle.em_pool.specs.Codes.{shape_code, slot_code}
use Rattle.em_pool.specs.Older.{SpentHandles, spent_handles_code}

-- the shapes of the pools; what is kept of each event, by its index; how each handle was spent that is not the last of
-- its index; how many handles were minted; and how many can be minted before more memory is taken
pub record PoolState : Type 0 where
  pub pools : List PoolShape
  pub slots : List Slot
  pub older : SpentHandles
  pub mintings : ℕ
  pub spare : ℕ

abbrev pub state_code : Coded PoolState
state_code =
    code_by (List PoolShape × (List Slot × (SpentHandles × (ℕ × ℕ))))
    (coded× (coded_list shape_code) (coded× (coded_list slot_code) (coded× spent_handles_code (coded× coded_ℕ coded_ℕ))))
    (λ v. (v.pools, (v.slots, (v.older, (v.mintings, v.spare)))))
    (λ p. record { pools = p.0; slots = p.1.0; older = p.1.1.0; mintings = p.1.1.1.0; spare = p.1.1.1.1 })
    (λ _. refl)

-- what no call on an event changes: the shapes of the pools, and how many handles can be minted in all
pub record Shape : Type 0 where
  pub pools : List PoolShape
  pub handles : ℕ

abbrev pub shape : PoolState → Shape
shape v = record { pools = v.pools; handles = v.mintings + v.spare }

-- an event of which no handle was minted
abbrev pub fresh : Slot
fresh = record { generation = 0; kind = 0; words = []; place = Place.Free; spent = None }

-- what is kept of the event of this index: past the last one, as of an event of which no handle was minted
abbrev pub slot_at : PoolState → ℕ → Slot
slot_at v i = slice_index_or v.slots i fresh

abbrev pub generation_at : PoolState → ℕ → ℕ
generation_at v i = (slot_at v i).generation

abbrev pub place_at : PoolState → ℕ → Place
place_at v i = (slot_at v i).place

-- handles

-- the generation that a handle tells
abbrev pub generation_of : ℕ → ℕ
generation_of h = h / 65536

abbrev pub last_handle_in : ℕ → ℕ → Option ℕ
last_handle_in generation i = if nat_le 1 generation then Some (handle_of generation i) else None

abbrev pub event_in : Slot → ℕ → Option Event
event_in s i =
    if nat_le 1 s.generation then Some (record { handle = record { 0 = handle_of s.generation i }; kind = s.kind; words = s.words })
    else None

-- the event of this index under its last handle, if one was minted
abbrev pub event_at : PoolState → ℕ → Option Event
event_at v i = event_in (slot_at v i) i

-- whether a handle was minted: its generation is from 1 to that of its index
abbrev pub is_minted : PoolState → ℕ → Bool
is_minted v h = nat_le 1 (generation_of h) && nat_le (generation_of h) (generation_at v (index_of h))

-- whether a handle is the last of its index
abbrev pub is_last : PoolState → ℕ → Bool
is_last v h = generation_of h == generation_at v (index_of h)

abbrev pub spent_in : PoolState → ℕ → Option Spent
spent_in v h = if is_last v h then (slot_at v (index_of h)).spent else map.get v.older h

-- how a handle was spent, if it was
abbrev pub spent_at : PoolState → ℕ → Option Spent
spent_at v h = if is_minted v h then spent_in v h else None

abbrev pub is_held_by : ℕ → Place → Bool
is_held_by c (Place.Held d) = d.0 == c
is_held_by c _ = false

abbrev pub is_slot_held_by : ℕ → Slot → Bool
is_slot_held_by c s = is_held_by c s.place

-- whether core c holds this handle
abbrev pub holds : PoolState → ℕ → ℕ → Bool
holds v c h = is_last v h && is_held_by c (place_at v (index_of h))

-- how many events core c holds
abbrev pub held_count : PoolState → ℕ → ℕ
held_count v c = count_by (is_slot_held_by c) v.slots

-- the rule

abbrev pub unless_held_by : ℕ → Place → Option Fault
unless_held_by c (Place.Held d) = if d.0 == c then None else Some (Fault.HeldElsewhere d)
unless_held_by c _ = None

abbrev pub rule_by : ℕ → Place → Option Spent → Option Fault
rule_by c place (Some s) = Some (spent_fault s.freed s.place)
rule_by c place None = unless_held_by c place

-- why core c may not use the word, if it may not
abbrev pub rule_at : PoolState → ℕ → ℕ → Option Fault
rule_at v c w = if is_minted v w then rule_by c (place_at v (index_of w)) (spent_in v w) else Some (Fault.NeverMinted w)
