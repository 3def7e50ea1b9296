-- What a start needs.
use Rattle.std.specs.Prelude.{ℕ, ◌≡◌, ◌+◌, ◌*◌, ◌<◌, List, [], ◌∷◌}
use Rattle.em_log.specs.declared.declarations.Declarations.{Declarations}
use Rattle.em_log.specs.Allowance.{allowance}
use Rattle.em_log.specs.Bounds.{core_limit}
use Rattle.em_log.specs.Declarations.{event_total}
use Rattle.em_pool.specs.declared.place.Place.{Place}
use Rattle.em_pool.specs.Steps.{PoolStep}
use Rattle.em_pool.specs.State.{PoolState, place_at}
use Rattle.em_pool.specs.Stands as events
use Rattle.em_queues.specs.Steps.{QueueStep}
use Rattle.em_queues.specs.State.{QueueState, items_at, taken_at, shape}
use Rattle.em_queues.specs.Stands as queues

-- the most that a take may pay, and what the contexts may pay that are open then: a take and a start with the end of each,
-- and the allowance of each core
abbrev pub take_room : ℕ
take_room = 4 + allowance * core_limit

-- an event of these pools is the first that waits for core c in queue q, and the core has taken nothing
pub record IsNext (pools : PoolState) (lists : QueueState) (c q : ℕ) : Type 0 where
  pub queue : q < (shape lists).queues
  pub core : c < (shape lists).cores
  pub index : ℕ
  pub more : List ℕ
  pub is : items_at lists q c ≡ index ∷ more
  pub idle : taken_at lists c ≡ []
  pub below : index < event_total pools.pools
  pub waits : place_at pools index ≡ Place.Waiting (record { 0 = q })
  -- the pools and the lists are those of some steps
  pub pool : List PoolStep
  pub known : events.Stands pools pool
  pub graph : Declarations
  pub steps : List QueueStep
  pub stands : queues.Stands graph lists steps
