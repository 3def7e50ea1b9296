use Rattle.std.proofs.Common.{◌≡◌, ◌≤◌, replicate, vec_len, vec_capacity}
use Rattle.em_pool.specs.State.{fresh}
use Rattle.em_pool.proofs.slot.fresh_slots.Given as goal

abbrev pub invariant-loop : goal.invariant-loop
invariant-loop l = record {
  items : l.slots.items ≡ replicate l.counter fresh;
  len : vec_len l.slots ≡ l.counter;
  room : l.count ≤ vec_capacity l.slots;
}
