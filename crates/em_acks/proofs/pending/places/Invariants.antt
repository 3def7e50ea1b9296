use Rattle.std.proofs.Common.{◌≡◌, ◌≤◌, None, replicate, vec_len, vec_capacity}
use Rattle.em_acks.proofs.pending.places.Given as goal

abbrev pub invariant-loop : goal.invariant-loop
invariant-loop l = record {
  items : l.places.items ≡ replicate l.counter None;
  len : vec_len l.places ≡ l.counter;
  room : 256 ≤ vec_capacity l.places;
}
