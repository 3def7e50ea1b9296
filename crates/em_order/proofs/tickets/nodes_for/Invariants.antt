use Rattle.std.proofs.Common.{◌≡◌, ◌≤◌, length, All, vec_len, vec_capacity}
use Rattle.em_order.proofs.tickets.nodes_for.Given as goal

abbrev pub invariant-loop : goal.invariant-loop
invariant-loop l = record {
  single : All (λ r. length r ≡ 1) l.nodes.items;
  len : vec_len l.nodes ≡ l.counter;
  room : l.count ≤ vec_capacity l.nodes;
}
