use Rattle.std.proofs.Common.{◌≡◌, ◌≤◌, replicate, false, vec_len, vec_capacity}
use Rattle.em_pool.proofs.holders.nothing_held.Given as goal

abbrev pub invariant-loop : goal.invariant-loop
invariant-loop l = record {
  items : l.held.items ≡ replicate l.counter (replicate l.events false);
  len : vec_len l.held ≡ l.counter;
  room : l.cores ≤ vec_capacity l.held;
}
