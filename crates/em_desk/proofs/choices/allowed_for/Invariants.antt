use Rattle.std.proofs.Common.{◌≡◌, ℕ, ◌&&◌, nat_lt}
use Rattle.em_queues.specs.Sets.{contains}
use Rattle.em_desk.specs.Choices.{is_allowed}
use Rattle.em_desk.proofs.choices.allowed_for.Given as goal

abbrev pub invariant-loop-shape : goal.invariant-loop-shape
invariant-loop-shape l =
    (l.number ≡ l.shape-index)
    × ((l.shape-items ≡ l.declarations.queues)
    × ((q : ℕ) → contains l.set q ≡ (nat_lt q l.number && is_allowed l.declarations l.core.0 q)))
