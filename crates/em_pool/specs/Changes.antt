-- What each call does to the values of the pools.
use Rattle.std.specs.Prelude.{ℕ, suc, ◌+◌, ◌-◌, true, List, map as list_map, replicate, slice_set, Option, Some, None, if◌then◌else◌}
use Rattle.std.specs.FinMap as map
use Rattle.em_log.specs.declared.declarations.PoolShape.{PoolShape}
use Rattle.em_log.specs.Declarations.{event_total}
use Rattle.em_log.specs.History.{index_of, handle_of}
use Rattle.em_pool.specs.declared.place.Place.{Place}
use Rattle.em_pool.specs.declared.place.Spend.{Spend}
use Rattle.em_pool.specs.declared.place.Spent.{Spent}
use Rattle.em_pool.specs.declared.slot.Slot.{Slot}
use Rattle.em_pool.specs.Handles.{is_freed, place_of_spend}
use Rattle.em_pool.specs.Older.{SpentHandles}
use Rattle.em_pool.specs.State.{PoolState, fresh, slot_at, generation_at, is_slot_held_by}

-- all events are free, and no handle was minted
abbrev pub opened : List PoolShape → PoolState
opened pools = record { pools = pools; slots = replicate (event_total pools) fresh; older = map.empty; mintings = 0; spare = 0 }

abbrev pub with_slot : PoolState → ℕ → Slot → PoolState
with_slot v i s = record v { slots = slice_set v.slots i s }

abbrev pub older_by : SpentHandles → ℕ → Option Spent → SpentHandles
older_by older h None = older
older_by older h (Some s) = map.insert older h s

-- the last handle of an index is now an older one
abbrev pub older_with : PoolState → ℕ → SpentHandles
older_with v i = older_by v.older (handle_of (generation_at v i) i) (slot_at v i).spent

abbrev pub minted_slot : ℕ → ℕ → ℕ → List ℕ → Slot
minted_slot c g kind words =
    record { generation = suc g; kind = kind; words = words; place = Place.Held (record { 0 = c }); spent = None }

-- core c holds the event of index i under a new handle
abbrev pub minted : PoolState → ℕ → ℕ → ℕ → List ℕ → PoolState
minted v c i kind words =
    record {
      pools = v.pools;
      slots = slice_set v.slots i (minted_slot c (generation_at v i) kind words);
      older = older_with v i;
      mintings = v.mintings + 1;
      spare = v.spare - 1;
    }

abbrev pub spent_slot : Spend → ℕ → Slot → Slot
spent_slot how p s = record s { place = place_of_spend how; spent = Some (record { freed = is_freed how; place = p }) }

-- the handle is spent, and its event goes where it was sent
abbrev pub spent : PoolState → ℕ → Spend → ℕ → PoolState
spent v w how p = with_slot v (index_of w) (spent_slot how p (slot_at v (index_of w)))

abbrev pub shifted_slot : Place → Slot → Slot
shifted_slot to s = record s { place = to }

abbrev pub shifted : PoolState → ℕ → Place → PoolState
shifted v i to = with_slot v i (shifted_slot to (slot_at v i))

abbrev pub lost_now : ℕ → Slot → Slot
lost_now p s = record s { place = Place.Lost; spent = Some (record { freed = true; place = p }) }

abbrev pub lost_slot : ℕ → ℕ → Slot → Slot
lost_slot c p s =
    if is_slot_held_by c s then record s { place = Place.Lost; spent = Some (record { freed = true; place = p }) } else s

-- all that core c holds is lost
abbrev pub lost : PoolState → ℕ → ℕ → PoolState
lost v c p = record v { slots = list_map (lost_slot c p) v.slots }
