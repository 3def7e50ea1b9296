-- What is true of the fields of the pools.
use Rattle.std.specs.Prelude.{ℕ, ◌≡◌, ◌≤◌, ◌<◌, Bool, List, [], length, map, slice_index_or, slice_set}
use Rattle.em_log.specs.declared.declarations.PoolShape.{PoolShape}
use Rattle.em_log.specs.Declarations.{event_total}
use Rattle.em_pool.specs.declared.slot.Slot.{Slot}
use Rattle.em_pool.specs.Places.{is_free}
use Rattle.em_pool.specs.State.{fresh, is_slot_held_by}

abbrev pub is_free_slot : Slot → Bool
is_free_slot s = is_free s.place

-- the sets of what the cores hold after an event was put into core c's, or taken out
abbrev pub put_held : ℕ → ℕ → Bool → List (List Bool) → List (List Bool)
put_held c i is_in held = slice_set held c (slice_set (slice_index_or held c []) i is_in)

-- each set is that of the events that its core holds
abbrev pub AreHeld : List (List Bool) → List Slot → Type 0
AreHeld held slots = (c : ℕ) → c < length held → slice_index_or held c [] ≡ map (is_slot_held_by c) slots

pub record IsWhole (pools : List PoolShape) (slots : List Slot) (free : List Bool) (held : List (List Bool)) (mintings spare room : ℕ) : Type 0 where
  -- each event of each pool is kept
  pub events : length slots ≡ event_total pools
  pub few : event_total pools ≤ 4096
  -- the set of free indices is that of the events that are free
  pub free_is : free ≡ map is_free_slot slots
  pub held_are : AreHeld held slots
  -- no index has more mintings than all
  pub generations : (i : ℕ) → (slice_index_or slots i fresh).generation ≤ mintings
  -- what is told as spare is there
  pub enough : spare ≤ room
