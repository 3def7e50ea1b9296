-- What a graph declares, apart from names and bodies, and what stands under each number.
use Rattle.std.specs.Prelude.{ℕ, zero, suc, ◌+◌, ◌*◌, ◌==◌, Bool, true, false, List, [], ◌∷◌, length, map, Option, Some, None, if◌then◌else◌, slice_get, unwrap_or, is_some, take}
use Rattle.std.specs.Option.{option_map, option_and_then, option_map_or}
use Rattle.em_log.specs.declared.ids.Kind.{Kind}
use Rattle.em_log.specs.declared.ids.GroupId.{GroupId}
use Rattle.em_log.specs.declared.graph.Priority.{Priority}
use Rattle.em_log.specs.declared.graph.Config.{Config}
use Rattle.em_log.specs.declared.graph.PoolDecl.{PoolDecl}
use Rattle.em_log.specs.declared.graph.GroupDecl.{GroupDecl}
use Rattle.em_log.specs.declared.graph.EoDecl.{EoDecl}
use Rattle.em_log.specs.declared.graph.AgroupDecl.{AgroupDecl}
use Rattle.em_log.specs.declared.graph.QueueDecl.{QueueDecl}
use Rattle.em_log.specs.declared.mask.CoreMask.{CoreMask}
use Rattle.em_log.specs.declared.declarations.Declarations.{Declarations}
use Rattle.em_log.specs.declared.declarations.PoolShape.{PoolShape}
use Rattle.em_log.specs.declared.declarations.QueueShape.{QueueShape}

-- the declarations of a graph

abbrev pub pool_shape : PoolDecl → PoolShape
pool_shape d = record { events = d.events; words = d.words }

abbrev pub queue_shape : QueueDecl → QueueShape
queue_shape d = record { kind = d.kind; eo = d.eo; priority = d.priority; group = d.group; agroup = d.agroup }

abbrev pub group_shape : GroupDecl → CoreMask
group_shape d = d.mask

abbrev pub eo_shape : EoDecl → Bool
eo_shape d = d.running

abbrev pub agroup_shape : AgroupDecl → GroupId
agroup_shape d = d.group

abbrev pub declarations_of : Config → Declarations
declarations_of c =
    record {
      cores = c.cores;
      pools = map pool_shape c.pools;
      groups = map group_shape c.groups;
      running = map eo_shape c.eos;
      agroups = map agroup_shape c.agroups;
      queues = map queue_shape c.queues;
      egroups = length c.egroups;
    }

-- numbers

-- the numbers from a on, n of them
abbrev pub numbers_from : ℕ → ℕ → List ℕ
numbers_from a zero = []
numbers_from a (suc n) = a ∷ numbers_from (suc a) n

-- the numbers below n
abbrev pub below : ℕ → List ℕ
below n = numbers_from 0 n

-- whether this number is there
abbrev pub is_number : ℕ → Option ℕ → Bool
is_number n None = false
is_number n (Some m) = n == m

-- queues

-- the kind of a queue; one that is not declared, which no entry names, counts as unscheduled
abbrev pub kind_of : Declarations → ℕ → Kind
kind_of k q = option_map_or (λ d. d.kind) (slice_get k.queues q) Kind.Unscheduled

-- the execution object of a queue
abbrev pub object_of : Declarations → ℕ → Option ℕ
object_of k q = option_and_then (λ d. option_map (λ x. x.0) d.eo) (slice_get k.queues q)

-- the queue group of an atomic group
abbrev pub group_of_agroup : Declarations → ℕ → Option ℕ
group_of_agroup k a = option_map (λ g. g.0) (slice_get k.agroups a)

abbrev pub group_in : Declarations → QueueShape → Option ℕ
group_in k d = if is_some d.agroup then option_and_then (group_of_agroup k) d.agroup else option_map (λ g. g.0) d.group

-- the queue group of a queue: its own, or that of its atomic group
abbrev pub group_of : Declarations → ℕ → Option ℕ
group_of k q = option_and_then (group_in k) (slice_get k.queues q)

abbrev pub rank : Priority → ℕ
rank Priority.Lowest = 0
rank Priority.Low = 1
rank Priority.Normal = 2
rank Priority.High = 3
rank Priority.Highest = 4

-- the priority of a queue as a number: the greater goes first
abbrev pub rank_of : Declarations → ℕ → ℕ
rank_of k q = option_map_or (λ d. option_map_or rank d.priority 0) (slice_get k.queues q) 0

abbrev pub is_atomic : Kind → Bool
is_atomic Kind.Atomic = true
is_atomic _ = false

abbrev pub is_ordered : Kind → Bool
is_ordered Kind.Ordered = true
is_ordered _ = false

abbrev pub is_local : Kind → Bool
is_local Kind.Local = true
is_local _ = false

abbrev pub is_output : Kind → Bool
is_output Kind.Output = true
is_output _ = false

abbrev pub is_unscheduled : Kind → Bool
is_unscheduled Kind.Unscheduled = true
is_unscheduled _ = false

-- whether cores take from such a queue: it is scheduled or local
abbrev pub is_served : Kind → Bool
is_served Kind.Unscheduled = false
is_served Kind.Output = false
is_served _ = true

-- atomic contexts

-- whether a queue is an atomic context of its own
abbrev pub is_lone : QueueShape → Bool
is_lone d = if is_atomic d.kind then (if is_some d.agroup then false else true) else false

-- how many of these queues are atomic contexts of their own
abbrev pub lone_count : List QueueShape → ℕ
lone_count [] = 0
lone_count (d ∷ ds) = if is_lone d then suc (lone_count ds) else lone_count ds

abbrev pub atomic_in : Declarations → ℕ → QueueShape → Option ℕ
atomic_in k q d =
    if is_atomic d.kind then Some (unwrap_or d.agroup (length k.agroups + lone_count (take q k.queues))) else None

-- the atomic context of a queue: first come the atomic groups, then the atomic queues outside them, in order
abbrev pub atomic_of : Declarations → ℕ → Option ℕ
atomic_of k q = option_and_then (atomic_in k q) (slice_get k.queues q)

-- pools

-- how many words an event of the pool has at most
abbrev pub words_of_pool : Declarations → ℕ → ℕ
words_of_pool k p = option_map_or (λ d. d.words) (slice_get k.pools p) 0

abbrev pub events_of_pool : Declarations → ℕ → ℕ
events_of_pool k p = option_map_or (λ d. d.events) (slice_get k.pools p) 0

-- how many events these pools have
abbrev pub event_total : List PoolShape → ℕ
event_total [] = 0
event_total (d ∷ ds) = d.events + event_total ds

-- the indices of a pool's events: they follow those of the pools before it
abbrev pub indices_of_pool : Declarations → ℕ → List ℕ
indices_of_pool k p = numbers_from (event_total (take p k.pools)) (events_of_pool k p)

-- queue groups

-- the mask of the cores below n
abbrev pub all_cores : ℕ → ℕ
all_cores zero = 0
all_cores (suc n) = 1 + 2 * all_cores n

-- the mask that a queue group is declared with: group 0 has every core
abbrev pub declared_mask : Declarations → ℕ → ℕ
declared_mask k zero = all_cores k.cores
declared_mask k (suc g) = option_map_or (λ m. m.0) (slice_get k.groups g) 0
