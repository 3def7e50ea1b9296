-- What the steps of the queues tell as the history does.
use Rattle.std.specs.Prelude.{ℕ, ◌≡◌, false, map}
use Rattle.em_log.specs.declared.declarations.Declarations.{Declarations}
use Rattle.em_log.specs.History.{Past, index_of}
use Rattle.em_log.specs.Declarations.{kind_of, is_output}
use Rattle.em_log.specs.Contexts.{take_queue}
use Rattle.em_log.specs.Arrivals.{Item}
use Rattle.em_log.specs.Places.{waiting, taken}
use Rattle.em_queues.specs.Steps.{lists}
use Rattle.em_parts.specs.QueueSteps.{queue_steps}

abbrev pub index_in : Item → ℕ
index_in x = index_of x.handle

pub record QueuesAlike (k : Declarations) (past : Past) : Type 0 where
  pub waiting : (q c : ℕ) → is_output (kind_of k q) ≡ false → (lists k (queue_steps k past)).waiting q c ≡ map index_in (waiting k past q c)
  pub taken : (c : ℕ) → (lists k (queue_steps k past)).taken c ≡ map index_in (taken k past c)
  pub source : (c : ℕ) → (lists k (queue_steps k past)).source c ≡ take_queue past c
