use Rattle.std.proofs.Common.{◌≡◌, ℕ, ◌&&◌, nat_lt}
use Rattle.em_queues.specs.Sets.{contains}
use Rattle.em_operations.specs.QueueSets.{number_at, bars_as}
use Rattle.em_operations.proofs.numbers.barred_queues.Given as goal

abbrev pub invariant-loop-group : goal.invariant-loop-group
invariant-loop-group l =
    (l.queue ≡ l.group-index) × ((q : ℕ) → contains l.set q ≡ (nat_lt q l.queue && bars_as l.declarations l.core.0 (number_at l.groups q)))
