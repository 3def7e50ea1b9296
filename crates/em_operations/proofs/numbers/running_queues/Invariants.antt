use Rattle.std.proofs.Common.{◌≡◌, ℕ, ◌&&◌, nat_lt}
use Rattle.em_queues.specs.Sets.{contains}
use Rattle.em_operations.specs.QueueSets.{number_at, runs_as}
use Rattle.em_operations.proofs.numbers.running_queues.Given as goal

abbrev pub invariant-loop-object : goal.invariant-loop-object
invariant-loop-object l =
    (l.queue ≡ l.object-index) × ((q : ℕ) → contains l.set q ≡ (nat_lt q l.queue && runs_as l.running (number_at l.objects q)))
