use Rattle.std.proofs.Common.{◌≡◌, ◌++◌, take, drop, map, count_by}
use Rattle.em_pool.specs.State.{is_slot_held_by}
use Rattle.em_pool.specs.Changes.{lost_slot}
use Rattle.em_pool.proofs.slot.lose_all.Given as goal

abbrev pub invariant-loop-slot : goal.invariant-loop-slot
invariant-loop-slot l = record {
  slots : l.slots ≡ map (lost_slot l.core.0 l.place) (take l.slot-index l.fn.slots) ++ drop l.slot-index l.fn.slots;
  lost : l.lost ≡ count_by (is_slot_held_by l.core.0) (take l.slot-index l.fn.slots);
}
