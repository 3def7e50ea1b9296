use Rattle.std.proofs.Common.{◌≡◌, ℕ, ◌&&◌, nat_lt}
use Rattle.em_log.specs.Declarations.{is_number}
use Rattle.em_queues.specs.Sets.{contains}
use Rattle.em_operations.specs.QueueSets.{number_at}
use Rattle.em_operations.proofs.numbers.queues_of.Given as goal

abbrev pub invariant-loop-number : goal.invariant-loop-number
invariant-loop-number l =
    (l.queue ≡ l.number-index) × ((q : ℕ) → contains l.set q ≡ (nat_lt q l.queue && is_number l.wanted (number_at l.numbers q)))
