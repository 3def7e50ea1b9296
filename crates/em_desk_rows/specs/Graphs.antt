-- Graphs of one pool.
use Rattle.std.specs.Prelude.{ℕ, Bool, true, List, [], ◌∷◌, Some, None, replicate}
use Rattle.em_log.specs.declared.declarations.Declarations.{Declarations}
use Rattle.em_log.specs.declared.declarations.PoolShape.{PoolShape}
use Rattle.em_log.specs.declared.declarations.QueueShape.{QueueShape}
use Rattle.em_log.specs.declared.graph.Priority.{Priority}
use Rattle.em_log.specs.declared.ids.EoId.{EoId}
use Rattle.em_log.specs.declared.ids.GroupId.{GroupId}
use Rattle.em_log.specs.declared.ids.Kind.{Kind}

-- a parallel queue of this object, of priority normal and of all cores
abbrev pub parallel_queue : EoId → QueueShape
parallel_queue x =
    record { kind = Kind.Parallel; eo = Some x; priority = Some Priority.Normal; group = Some (record { 0 = 0 }); agroup = None }

-- so many atomic groups of all cores
abbrev pub all_cores_groups : ℕ → List GroupId
all_cores_groups n = replicate n (record { 0 = 0 })

-- cores, one pool, and these objects, atomic groups and queues
abbrev pub graph_of : ℕ → PoolShape → List Bool → List GroupId → List QueueShape → Declarations
graph_of cores pool running agroups queues =
    record {
      cores = cores;
      pools = pool ∷ [];
      groups = [];
      running = running;
      agroups = agroups;
      queues = queues;
      egroups = 0;
    }

-- cores, one pool, one object that runs, and its parallel queue
abbrev pub one_queue : ℕ → PoolShape → Declarations
one_queue cores pool = graph_of cores pool (true ∷ []) [] (parallel_queue (record { 0 = 0 }) ∷ [])
