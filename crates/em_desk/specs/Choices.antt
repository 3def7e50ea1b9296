-- Which queues a core may take from as the graph is declared, and whether something waits there that nobody holds.
use Rattle.std.specs.Prelude.{ℕ, ◌≡◌, ◌<◌, Bool, true, false, not, ◌&&◌, nat_lt, List, [], length, get_or, slice_get, unwrap_or}
use Rattle.std.specs.Option.{option_map_or}
use Rattle.em_log.specs.declared.declarations.Declarations.{Declarations}
use Rattle.em_log.specs.declared.declarations.QueueShape.{QueueShape}
use Rattle.em_log.specs.declared.ids.EoId.{EoId}
use Rattle.em_log.specs.Declarations.{group_in, declared_mask, kind_of, is_served}
use Rattle.em_log.specs.Eligible.{has_core, runs, is_in_group}
use Rattle.em_queues.specs.declared.set.QueueSet.{QueueSet}
use Rattle.em_queues.specs.Sets.{contains}
use Rattle.em_queues.specs.Steps.{QueueStep, QueueLists, lists}
use Rattle.em_queues.specs.State.{QueueState}
use Rattle.em_queues.specs.Stands as queues

-- before anything has happened, the queue's object runs, and core c is in the mask of its group
abbrev pub is_allowed : Declarations → ℕ → ℕ → Bool
is_allowed k c q = runs k [] q && is_in_group k [] c q

-- whether the object is declared as running
abbrev pub is_declared_running : Declarations → EoId → Bool
is_declared_running k x = unwrap_or (slice_get k.running x.0) false

abbrev pub runs_in : Declarations → QueueShape → Bool
runs_in k d = option_map_or (is_declared_running k) d.eo false

abbrev pub has_core_in : Declarations → ℕ → QueueShape → Bool
has_core_in k c d = option_map_or (λ g. has_core (declared_mask k g) c) (group_in k d) true

-- the same of a queue's shape
abbrev pub is_shape_allowed : Declarations → ℕ → QueueShape → Bool
is_shape_allowed k c d = runs_in k d && has_core_in k c d

-- each core has its set: the queues that it may take from
abbrev pub AreAllowed : Declarations → List QueueSet → Type 0
AreAllowed k sets = (c q : ℕ) (s : QueueSet) → c < length sets → s ≡ get_or sets c s → contains s q ≡ is_allowed k c q

-- core c could be served from queue q, which is in this set and not among those that are held
abbrev pub could_serve : Declarations → QueueLists → ℕ → QueueSet → QueueSet → ℕ → Bool
could_serve k v c may held q = contains may q && not (contains held q) && is_served (kind_of k q) && nat_lt 0 (length (v.waiting q c))

-- a core whose set this is could be served from a queue
pub record CanServe (k : Declarations) (steps : List QueueStep) (sets : List QueueSet) (held : QueueSet) : Type 0 where
  pub core : ℕ
  pub queue : ℕ
  pub set : QueueSet
  pub within : core < length sets
  pub is : set ≡ get_or sets core set
  pub ready : could_serve k (lists k steps) core set held queue ≡ true

-- whether some core could be served from a queue of its set
abbrev pub IsAnyReady : Bool → QueueState → List QueueSet → QueueSet → Type 0
IsAnyReady true v sets held = (k : Declarations) (t : List QueueStep) → queues.Stands k v t → CanServe k t sets held
IsAnyReady false v sets held =
    (k : Declarations) (t : List QueueStep) → queues.Stands k v t → (c : ℕ) (s : QueueSet) → c < length sets → s ≡ get_or sets c s
    → (q : ℕ) → could_serve k (lists k t) c s held q ≡ false
