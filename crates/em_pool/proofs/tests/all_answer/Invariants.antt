use Rattle.std.proofs.Common.{◌≡◌, ◌≤◌, ◌∷◌, []}
use Rattle.em_pool.proofs.tests.all_answer.Given as goal

abbrev pub invariant-loop-call : goal.invariant-loop-call
invariant-loop-call g l = record {
  pools : l.pools.pools ≡ record { events = l.events; words = l.words } ∷ [];
  mintings : l.pools.mintings ≤ l.call-index;
}
