use Rattle.std.proofs.Common.{◌≡◌, ◌+◌, map, count_by}
use Rattle.em_pool.specs.State.{is_slot_held_by}
use Rattle.em_pool.specs.Changes.{lost_slot}
use Rattle.em_pool.proofs.holders.lose_held.Given as goal

abbrev pub invariant-events : goal.invariant-events
invariant-events l = record {
  held : l.held ≡ map (is_slot_held_by l.fn.core.0) l.slots;
  slots : map (lost_slot l.fn.core.0 l.place) l.slots ≡ map (lost_slot l.fn.core.0 l.place) l.fn.slots;
  lost : l.lost + count_by (is_slot_held_by l.fn.core.0) l.slots ≡ count_by (is_slot_held_by l.fn.core.0) l.fn.slots;
}

abbrev pub decreases-events : goal.decreases-events
decreases-events l = count_by (is_slot_held_by l.fn.core.0) l.slots
