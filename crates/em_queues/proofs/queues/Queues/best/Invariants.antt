use Rattle.em_queues.proofs.BestQueues.{NoneAbove}
use Rattle.em_queues.proofs.queues.Queues.best.Given as goal

abbrev pub invariant-loop-step : goal.invariant-loop-step
invariant-loop-step l = NoneAbove l.self l.core.0 l.may l.step
