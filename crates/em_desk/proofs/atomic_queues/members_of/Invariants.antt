use Rattle.std.proofs.Common.{◌≡◌, ℕ, ◌&&◌, nat_lt}
use Rattle.em_log.specs.Declarations.{is_number}
use Rattle.em_queues.specs.Sets.{contains}
use Rattle.em_desk.specs.Atomics.{context_at}
use Rattle.em_desk.proofs.atomic_queues.members_of.Given as goal

abbrev pub invariant-loop-context : goal.invariant-loop-context
invariant-loop-context l =
    (l.number ≡ l.context-index) × ((q : ℕ) → contains l.set q ≡ (nat_lt q l.number && is_number l.atomic (context_at l.contexts q)))
