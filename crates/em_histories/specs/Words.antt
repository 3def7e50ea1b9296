-- Short words in which graphs and histories are written.
use Rattle.std.specs.Prelude.{ℕ, Bool, false, List, [], Some, None}
use Rattle.em_log.specs.declared.entry.Entry.{Entry}
use Rattle.em_log.specs.declared.entry.What.{What}
use Rattle.em_log.specs.declared.entry.Event.{Event}
use Rattle.em_log.specs.declared.ids.CoreId.{CoreId}
use Rattle.em_log.specs.declared.ids.QueueId.{QueueId}
use Rattle.em_log.specs.declared.ids.PoolId.{PoolId}
use Rattle.em_log.specs.declared.ids.EoId.{EoId}
use Rattle.em_log.specs.declared.ids.GroupId.{GroupId}
use Rattle.em_log.specs.declared.ids.EventGroupId.{EventGroupId}
use Rattle.em_log.specs.declared.ids.Handle.{Handle}
use Rattle.em_log.specs.declared.ids.Kind.{Kind}
use Rattle.em_log.specs.declared.ids.Stamp.{Stamp}
use Rattle.em_log.specs.declared.ids.Note.{Note}
use Rattle.em_log.specs.declared.ids.Cells.{Cells}
use Rattle.em_log.specs.declared.graph.Priority.{Priority}
use Rattle.em_log.specs.declared.graph.PoolDecl.{PoolDecl}
use Rattle.em_log.specs.declared.graph.GroupDecl.{GroupDecl}
use Rattle.em_log.specs.declared.graph.EoDecl.{EoDecl}
use Rattle.em_log.specs.declared.graph.Given.{Given}
use Rattle.em_log.specs.declared.graph.AgroupDecl.{AgroupDecl}
use Rattle.em_log.specs.declared.graph.QueueDecl.{QueueDecl}

-- numbers

abbrev pub core : ℕ → CoreId
core n = record { 0 = n }

abbrev pub queue : ℕ → QueueId
queue n = record { 0 = n }

abbrev pub pool : ℕ → PoolId
pool n = record { 0 = n }

abbrev pub object : ℕ → EoId
object n = record { 0 = n }

abbrev pub queue_group : ℕ → GroupId
queue_group n = record { 0 = n }

abbrev pub event_group : ℕ → EventGroupId
event_group n = record { 0 = n }

abbrev pub handle : ℕ → Handle
handle n = record { 0 = n }

-- declarations, each by its name

-- a pool of so many events, of at most so many words
abbrev pub pool_named : List ℕ → ℕ → ℕ → PoolDecl
pool_named name events words = record { name = name; events = events; words = words }

abbrev pub queue_group_named : List ℕ → ℕ → GroupDecl
queue_group_named name mask = record { name = name; mask = record { 0 = mask } }

-- an atomic group of queue group g
abbrev pub atomic_group_named : List ℕ → ℕ → AgroupDecl
atomic_group_named name g = record { name = name; group = queue_group g }

abbrev pub nothing_given : Given
nothing_given = record { receive = false; start = false; stop = false; lstart = false; lstop = false }

-- an object without bodies, which runs at first or does not
abbrev pub object_named : List ℕ → Bool → EoDecl
object_named name running =
    record {
      name = name;
      running = running;
      receive = [];
      start = [];
      stop = [];
      lstart = [];
      lstop = [];
      error = None;
      given = nothing_given;
    }

-- a queue of object x and of queue group g
abbrev pub queue_named : List ℕ → Kind → ℕ → Priority → ℕ → QueueDecl
queue_named name kind x priority g =
    record {
      name = name;
      kind = kind;
      eo = Some (object x);
      priority = Some priority;
      group = Some (queue_group g);
      agroup = None;
    }

-- an atomic queue of object x in atomic group a
abbrev pub queue_in_atomic_group : List ℕ → ℕ → Priority → ℕ → QueueDecl
queue_in_atomic_group name x priority a =
    record {
      name = name;
      kind = Kind.Atomic;
      eo = Some (object x);
      priority = Some priority;
      group = None;
      agroup = Some a;
    }

-- a local queue of object x
abbrev pub local_queue : List ℕ → ℕ → Priority → QueueDecl
local_queue name x priority =
    record {
      name = name;
      kind = Kind.Local;
      eo = Some (object x);
      priority = Some priority;
      group = None;
      agroup = None;
    }

-- a queue of no object: unscheduled, or an output
abbrev pub queue_of_no_object : List ℕ → Kind → QueueDecl
queue_of_no_object name kind =
    record { name = name; kind = kind; eo = None; priority = None; group = None; agroup = None }

-- entries

abbrev pub cells : List ℕ → Cells
cells cs = record { 0 = cs }

-- an event by its handle, its kind and its words
abbrev pub event : ℕ → ℕ → List ℕ → Event
event h kind words = record { handle = handle h; kind = kind; words = words }

-- application a of event group g
abbrev pub stamp : ℕ → ℕ → Stamp
stamp g a = record { group = event_group g; app = a }

-- the event of this handle, for queue q
abbrev pub note : ℕ → ℕ → Note
note h q = record { word = h; queue = queue q }

-- an entry of core c
abbrev pub by : ℕ → What → Entry
by c w = record { core = core c; what = w }
