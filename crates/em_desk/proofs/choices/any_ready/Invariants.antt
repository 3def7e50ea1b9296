use Rattle.std.proofs.Common.{◌≡◌, ℕ, ◌<◌, false, List, get_or}
use Rattle.em_log.specs.declared.declarations.Declarations.{Declarations}
use Rattle.em_queues.specs.declared.set.QueueSet.{QueueSet}
use Rattle.em_queues.specs.Steps.{QueueStep, lists}
use Rattle.em_queues.specs.Stands as queues
use Rattle.em_desk.specs.Choices.{could_serve}
use Rattle.em_desk.proofs.choices.any_ready.Given as goal

abbrev pub invariant-loop-may : goal.invariant-loop-may
invariant-loop-may l =
    (l.core ≡ l.may-index)
    × ((k : Declarations) (t : List QueueStep) → queues.Stands k l.queues t → (c : ℕ) (s : QueueSet) → c < l.core → s ≡ get_or l.allowed c s → (q : ℕ) → could_serve k (lists k t) c s l.held q ≡ false)
