use Rattle.em_order.proofs.NextOpen.{IsNextBelow}
use Rattle.em_order.proofs.tickets.next_open.Given as goal

abbrev pub invariant-loop-core : goal.invariant-loop-core
invariant-loop-core l = IsNextBelow l.cores l.queue.0 l.from l.core l.next
