use Rattle.std.proofs.Common.{◌≡◌, ◌≤◌, replicate, vec_len, vec_capacity}
use Rattle.em_queues.proofs.event_lists.unlisted.Given as goal

abbrev pub invariant-loop : goal.invariant-loop
invariant-loop l = record {
  items : l.next.items ≡ replicate l.counter 65535;
  len : vec_len l.next ≡ l.counter;
  room : l.count ≤ vec_capacity l.next;
}
