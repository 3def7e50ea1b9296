use Rattle.std.proofs.Common.{◌≡◌, ◌+◌, ◌≤◌, ◌++◌, drop, length, map}
use Rattle.em_atomic.specs.State.{atomic_number}
use Rattle.em_desk.specs.Atomics.{contexts_from}
use Rattle.em_desk.proofs.atomic_queues.contexts_of.Given as goal

abbrev pub invariant-loop-shape : goal.invariant-loop-shape
invariant-loop-shape l =
    record {
      items : l.shape-items ≡ l.declarations.queues;
      few : l.next ≤ 32 + l.shape-index;
      contexts : map atomic_number l.contexts.items ++ contexts_from l.next (drop l.shape-index l.shape-items) ≡ contexts_from (length l.declarations.agroups) l.declarations.queues;
    }
