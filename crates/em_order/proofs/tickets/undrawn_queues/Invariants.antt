use Rattle.std.proofs.Common.{◌≡◌, ◌≤◌, replicate, vec_len, vec_capacity}
use Rattle.em_order.specs.State.{undrawn}
use Rattle.em_order.proofs.tickets.undrawn_queues.Given as goal

abbrev pub invariant-loop : goal.invariant-loop
invariant-loop l = record {
  items : l.queues.items ≡ replicate l.counter undrawn;
  len : vec_len l.queues ≡ l.counter;
  room : l.count ≤ vec_capacity l.queues;
}
