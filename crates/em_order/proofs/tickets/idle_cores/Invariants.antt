use Rattle.std.proofs.Common.{◌≡◌, ◌≤◌, replicate, vec_len, vec_capacity}
use Rattle.em_order.specs.State.{idle}
use Rattle.em_order.proofs.tickets.idle_cores.Given as goal

abbrev pub invariant-loop : goal.invariant-loop
invariant-loop l = record {
  items : l.cores.items ≡ replicate l.counter idle;
  len : vec_len l.cores ≡ l.counter;
  room : l.count ≤ vec_capacity l.cores;
}
