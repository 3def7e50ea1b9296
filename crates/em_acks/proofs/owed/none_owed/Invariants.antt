use Rattle.std.proofs.Common.{◌≡◌, ◌≤◌, vec_len, vec_capacity}
use Rattle.em_acks.specs.Sets.{AreClear}
use Rattle.em_acks.proofs.owed.none_owed.Given as goal

abbrev pub invariant-loop : goal.invariant-loop
invariant-loop l = record {
  items : AreClear l.counter l.owed.items;
  len : vec_len l.owed ≡ l.counter;
  room : l.cores ≤ vec_capacity l.owed;
}
