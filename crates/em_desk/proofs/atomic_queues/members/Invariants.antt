use Rattle.std.proofs.Common.{◌≡◌, length}
use Rattle.em_desk.specs.Atomics.{context_at, AreMembers}
use Rattle.em_desk.proofs.atomic_queues.members.Given as goal

abbrev pub invariant-loop-atomic : goal.invariant-loop-atomic
invariant-loop-atomic l = (length l.sets.items ≡ l.atomic) × AreMembers (context_at l.contexts) l.sets.items
