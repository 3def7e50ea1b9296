-- An entry that does not touch a part adds no step of it.
use Rattle.std.proofs.Common.{◌≡◌, ℕ, true, false, List, Some, None, refl}
use Rattle.em_log.specs.declared.declarations.Declarations.{Declarations}
use Rattle.em_log.specs.declared.entry.What.{What}
use Rattle.em_log.specs.History.{Past, entry_by}
use Rattle.em_pool.specs.Steps.{PoolStep}
use Rattle.em_queues.specs.Steps.{QueueStep}
use Rattle.em_parts.specs.PoolSteps.{pool_after, touches_pools}
use Rattle.em_parts.specs.QueueSteps.{queue_after, touches_queues}

pub pools-untouched : (k : Declarations) (past : Past) (c : ℕ) (w : What) (steps : List PoolStep) → touches_pools w ≡ false → pool_after k past c w steps ≡ steps
pools-untouched k past c (What.Take q n t) steps is = absurd cc
pools-untouched k past c (What.Start q e s) steps is = absurd cc
pools-untouched k past c (What.Untake q n) steps is = absurd cc
pools-untouched k past c (What.End lost cells) steps is = absurd cc
pools-untouched k past c (What.EndAtomic rest cells) steps is = absurd cc
pools-untouched k past c What.EndOrdered steps is = absurd cc
pools-untouched k past c (What.Alloc p e) steps is = absurd cc
pools-untouched k past c (What.Free h) steps is = absurd cc
pools-untouched k past c (What.Send h q t s) steps is = absurd cc
pools-untouched k past c (What.Keep h) steps is = absurd cc
pools-untouched k past c (What.Claim (Some e)) steps is = absurd cc
pools-untouched k past c (What.Claim None) steps is = refl
pools-untouched k past c (What.Dequeue q (Some e)) steps is = absurd cc
pools-untouched k past c (What.Dequeue q None) steps is = refl
pools-untouched k past c (What.Begin op job notes) steps is = absurd cc
pools-untouched k past c (What.Done op ok) steps is = absurd cc
pools-untouched k past c (What.Apply g a n notes) steps is = absurd cc
pools-untouched k past c (What.Abort g) steps is = absurd cc
pools-untouched k past c (What.Notify g a) steps is = absurd cc
pools-untouched k past c w steps is = refl

pub queues-untouched : (k : Declarations) (past : Past) (c : ℕ) (w : What) (steps : List QueueStep) → touches_queues w ≡ false
    → queue_after k past (entry_by c w) steps ≡ steps
queues-untouched k past c (What.Take q n t) steps is = absurd cc
queues-untouched k past c (What.Start q e s) steps is = absurd cc
queues-untouched k past c (What.Untake q n) steps is = absurd cc
queues-untouched k past c (What.End lost cells) steps is = absurd cc
queues-untouched k past c (What.EndAtomic rest cells) steps is = absurd cc
queues-untouched k past c What.EndOrdered steps is = absurd cc
queues-untouched k past c (What.Send h q t s) steps is = absurd cc
queues-untouched k past c (What.Dequeue q (Some e)) steps is = absurd cc
queues-untouched k past c (What.Dequeue q None) steps is = refl
queues-untouched k past c (What.Done op true) steps is = absurd cc
queues-untouched k past c (What.Done op false) steps is = refl
queues-untouched k past c (What.Notify g a) steps is = absurd cc
queues-untouched k past c w steps is = refl
