-- The graphs that a desk is built over, and the limits of a run.
use Rattle.std.specs.Prelude.{ℕ, ◌≡◌, ◌≤◌, Bool, true, not, length, nat_lt}
use Rattle.std.specs.List.{list_all}
use Rattle.std.specs.Option.{option_map_or}
use Rattle.em_log.specs.declared.declarations.Declarations.{Declarations}
use Rattle.em_log.specs.declared.declarations.QueueShape.{QueueShape}
use Rattle.em_log.specs.declared.ids.Limits.{Limits}
use Rattle.em_log.specs.Bounds.{core_limit}
use Rattle.em_log.specs.Declarations.{event_total, is_served}

-- a queue that cores take from is of an object, and the object of a queue is one of n
abbrev pub is_owned : ℕ → QueueShape → Bool
is_owned n d = option_map_or (λ x. nat_lt x.0 n) d.eo (not (is_served d.kind))

-- the atomic group of a queue is one of n
abbrev pub is_grouped : ℕ → QueueShape → Bool
is_grouped n d = option_map_or (λ a. nat_lt a n) d.agroup true

-- as every well-formed graph: its numbers are within bounds, and its queues of declared objects and atomic groups
pub record AreInBounds (k : Declarations) : Type 0 where
  pub some_cores : 1 ≤ k.cores
  pub most_cores : k.cores ≤ core_limit
  pub events : event_total k.pools ≤ 4096
  pub objects : length k.running ≤ 64
  pub queues : length k.queues ≤ 256
  pub owned : list_all (is_owned (length k.running)) k.queues ≡ true
  pub groups : length k.agroups ≤ 32
  pub grouped : list_all (is_grouped (length k.agroups)) k.queues ≡ true

-- a run has 1 to 10,000 receives, and takes one event at a time
pub record AreInRange (l : Limits) : Type 0 where
  pub some_receives : 1 ≤ l.receives
  pub most_receives : l.receives ≤ 10000
  pub some_burst : 1 ≤ l.burst
  pub most_burst : l.burst ≤ 1
