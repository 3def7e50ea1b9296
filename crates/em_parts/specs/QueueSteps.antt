-- The steps of the queues that a history makes, over all kinds of entries.
use Rattle.std.specs.Prelude.{ℕ, Bool, true, false, List, [], ◌∷◌, Some, if◌then◌else◌}
use Rattle.em_log.specs.declared.declarations.Declarations.{Declarations}
use Rattle.em_log.specs.declared.entry.Entry.{Entry}
use Rattle.em_log.specs.declared.entry.What.{What}
use Rattle.em_log.specs.History.{Past, index_of}
use Rattle.em_log.specs.Declarations.{kind_of, is_output}
use Rattle.em_log.specs.Order.{Sent}
use Rattle.em_log.specs.Arrivals.{Item, item, entering}
use Rattle.em_queues.specs.Steps.{QueueStep, Arrived, Took, NextTaken, Untook, Dequeued}

abbrev pub item_steps : ℕ → ℕ → List Item → List QueueStep → List QueueStep
item_steps q d [] steps = steps
item_steps q d (x ∷ xs) steps = item_steps q d xs (Arrived q d (index_of x.handle) ∷ steps)

-- what enters arrives in order; nothing waits in an output
abbrev pub arrived_steps : Declarations → Past → List Sent → List QueueStep → List QueueStep
arrived_steps k past [] steps = steps
arrived_steps k past (s ∷ ss) steps =
    arrived_steps k past ss (if is_output (kind_of k s.queue) then steps else item_steps s.queue s.core (item past s) steps)

abbrev pub served_steps : ℕ → What → List QueueStep → List QueueStep
served_steps c (What.Take q n t) steps = Took c q.0 n ∷ steps
served_steps c (What.Start q e s) steps = NextTaken c ∷ steps
served_steps c (What.Untake q n) steps = Untook c ∷ steps
served_steps c (What.EndAtomic rest cells) steps = Untook c ∷ steps
served_steps c (What.Dequeue q (Some e)) steps = Dequeued q.0 c ∷ steps
served_steps c w steps = steps

abbrev pub queue_after : Declarations → Past → Entry → List QueueStep → List QueueStep
queue_after k past e steps = arrived_steps k past (entering k past e) (served_steps e.core.0 e.what steps)

abbrev pub queue_steps : Declarations → Past → List QueueStep
queue_steps k [] = []
queue_steps k (e ∷ past) = queue_after k past e (queue_steps k past)

-- whether an entry changes what waits or is taken
abbrev pub touches_queues : What → Bool
touches_queues (What.Take q n t) = true
touches_queues (What.Start q e s) = true
touches_queues (What.Untake q n) = true
touches_queues (What.End lost cells) = true
touches_queues (What.EndAtomic rest cells) = true
touches_queues What.EndOrdered = true
touches_queues (What.Send h q t s) = true
touches_queues (What.Dequeue q (Some e)) = true
touches_queues (What.Done op true) = true
touches_queues (What.Notify g a) = true
touches_queues w = false
