use Rattle.std.proofs.Common.{◌≡◌, ℕ, suc}
use Rattle.em_queues.specs.Links.{event_at}
use Rattle.em_queues.proofs.event_lists.walk.Given as goal

abbrev pub invariant-loop : goal.invariant-loop
invariant-loop l = record {
  last : (m : ℕ) → l.counter ≡ suc m → l.last ≡ event_at l.next l.first m;
  rest : l.rest ≡ event_at l.next l.first l.counter;
}
