use Rattle.std.proofs.Common.{◌≡◌, ◌≤◌, replicate, vec_len, vec_capacity}
use Rattle.em_queues.specs.Links.{no_ends}
use Rattle.em_queues.proofs.event_lists.empty_ends.Given as goal

abbrev pub invariant-loop : goal.invariant-loop
invariant-loop l = record {
  items : l.ends.items ≡ replicate l.counter no_ends;
  len : vec_len l.ends ≡ l.counter;
  room : l.count ≤ vec_capacity l.ends;
}
