-- How the operations stand for a history.
use Rattle.std.specs.Prelude.{ℕ, ◌≡◌, ◌+◌, ◌<◌, ◌≤◌, Bool, List, true, false, ◌&&◌, [], length, map, slice_get, Option, Some, None, if◌then◌else◌}
use Rattle.std.specs.Global.{Vec}
use Rattle.std.specs.Option.{option_or}
use Rattle.std.specs.Vec.{vec_capacity}
use Rattle.em_log.specs.declared.ask.Ask.{Ask}
use Rattle.em_log.specs.declared.declarations.Declarations.{Declarations}
use Rattle.em_log.specs.declared.entry.Begun.{Begun}
use Rattle.em_log.specs.declared.entry.What.{What}
use Rattle.em_log.specs.declared.fault.Fault.{Fault}
use Rattle.em_log.specs.declared.ids.EoState.{EoState}
use Rattle.em_log.specs.declared.ids.Limits.{Limits}
use Rattle.em_log.specs.declared.ids.Note.{Note}
use Rattle.em_log.specs.declared.ids.QueueId.{QueueId}
use Rattle.em_log.specs.Bounds.{core_limit, operation_limit}
use Rattle.em_log.specs.Eligible.{runs, is_in_group}
use Rattle.em_log.specs.History.{Past}
use Rattle.em_log.specs.Lawful.{AllAllowed, Lawful}
use Rattle.em_log.specs.Leads.{mask_fault, operations_fault, pending_fault, unless_created, unless_running}
use Rattle.em_log.specs.Operations.{Operation}
use Rattle.em_log.specs.States.{flag}
use Rattle.em_log.specs.States as log
use Rattle.em_acks.specs.Stands as acks
use Rattle.em_acks.specs.Operations.{operations, begin_fault, owed_to}
use Rattle.em_acks.specs.State.{core_count}
use Rattle.em_acks.specs.Steps.{AckStep}
use Rattle.em_acks.specs.declared.job.Phase.{Phase}
use Rattle.em_groups.specs.Masks.{change}
use Rattle.em_groups.specs.Stands as groups
use Rattle.em_groups.specs.State as group_state
use Rattle.em_groups.specs.Steps.{GroupStep}
use Rattle.em_objects.specs.Queues.{state, is_move}
use Rattle.em_objects.specs.Stands as objects
use Rattle.em_objects.specs.State.{Shape, shape}
use Rattle.em_objects.specs.Steps.{ObjectStep}
use Rattle.em_operation_parts.specs.AckSteps.{ack_steps, aims_at, target_of}
use Rattle.em_operation_parts.specs.Endings.{IsUndone}
use Rattle.em_operation_parts.specs.BegunOperations.{begun_operations}
use Rattle.em_operation_parts.specs.GroupSteps.{group_steps}
use Rattle.em_operation_parts.specs.ObjectSteps.{object_steps}
use Rattle.em_operations.specs.QueueSets.{SetsStand}
use Rattle.em_operations.specs.declared.begun.BegunOperation.{BegunOperation}
use Rattle.em_operations.specs.declared.begun.Owed.{Owed}
use Rattle.em_operations.specs.declared.operations.Operations.{Operations}

abbrev pub begun_as : BegunOperation → Operation
begun_as o = record { core = o.core.0; job = o.job; notes = o.notes }

-- what an operation is about is declared
abbrev pub IsTargetThere : Declarations → Begun → Type 0
IsTargetThere k (Begun.Start x) = x.0 < length k.running
IsTargetThere k (Begun.Stop x) = x.0 < length k.running
IsTargetThere k (Begun.Modify g m) = g.0 < length k.groups + 1

abbrev pub object_shape : Declarations → Shape
object_shape k = record { objects = length k.running; queues = length k.queues }

-- on steps of objects, queue groups and operations, and the operations that have begun
pub record StepsStand (k : Declarations) (v : Operations) (object : List ObjectStep) (group : List GroupStep) (ack : List AckStep) (operation : List Operation) : Type 0 where
  pub few_cores : k.cores ≤ core_limit
  pub few_queues : length k.queues ≤ 256
  pub cores : v.cores ≡ k.cores
  pub objects : objects.Stands k v.objects object
  pub objects_shape : shape v.objects ≡ object_shape k
  pub groups : groups.Stands k v.groups group
  pub groups_shape : group_state.shape v.groups ≡ length k.groups + 1
  pub acks : acks.Stands v.acks ack
  pub acks_shape : core_count v.acks ≡ k.cores
  -- the operations that have begun, by their numbers, with room for all of a run
  pub begun : map begun_as v.begun.items ≡ operation
  pub count : length operation ≡ operations ack
  pub room : operation_limit ≤ vec_capacity v.begun
  pub there : (n : ℕ) (o : Operation) → slice_get operation n ≡ Some o → IsTargetThere k o.job
  pub queues : SetsStand k v.queues object group

-- of a history: its steps, and the operations that have begun in it
abbrev pub OperationsStand : Declarations → Operations → Past → Type 0
OperationsStand k v past = StepsStand k v (object_steps past) (group_steps past) (ack_steps past) (begun_operations past)

-- there is room for all operations of a run, of which none has begun
abbrev pub IsRoomy : Vec BegunOperation → Type 0
IsRoomy v = (v.items ≡ []) × (operation_limit ≤ vec_capacity v)

-- the queue, or the core, is one of the graph
pub record HasQueue (v : Operations) (q : ℕ) : Type 0 where
  pub graph : Declarations
  pub past : Past
  pub stands : OperationsStand graph v past
  pub queue : q < length graph.queues

pub record HasCore (v : Operations) (c : ℕ) : Type 0 where
  pub graph : Declarations
  pub past : Past
  pub stands : OperationsStand graph v past
  pub core : c < graph.cores

-- some history has come so
pub record IsOfHistory (v : Operations) : Type 0 where
  pub graph : Declarations
  pub past : Past
  pub stands : OperationsStand graph v past

-- core c may take from queue q: its object runs, it is enabled, and the mask in force of its group has the core
abbrev pub may_take : Declarations → Past → ℕ → ℕ → Bool
may_take k past c q = runs k past q && flag past q && is_in_group k past c q

abbrev pub flag_ask : QueueId → Bool → Ask
flag_ask q on = if on then Ask.Enable q else Ask.Disable q

abbrev pub flag_entry : QueueId → Bool → What
flag_entry q on = if on then What.Enable q else What.Disable q

-- whether an entry moves an object, changes a flag or a mask, begins an operation or ends a step of one
abbrev pub touches : What → Bool
touches (What.Enable q) = true
touches (What.Disable q) = true
touches (What.Begin op job notes) = true
touches (What.GlobalDone op ok) = true
touches (What.Ack op) = true
touches (What.Done op ok) = true
touches w = false

-- owed steps

abbrev pub owed_entry : Owed → What
owed_entry (Owed.Ack op) = What.Ack op
owed_entry (Owed.Enter body) = What.Enter body

-- begins

-- why an operation may not begin for its own reason: the state of its object, or its mask
abbrev pub own_fault : Declarations → Past → Begun → Option Fault
own_fault k past (Begun.Start x) = unless_created (log.state k past x.0)
own_fault k past (Begun.Stop x) = unless_running (log.state k past x.0)
own_fault k past (Begun.Modify g m) = mask_fault k m

-- why it may not begin, but for its notes: its target has one pending, then its own reason, then no number is left
abbrev pub begin_fault_of : Declarations → Past → Begun → Option Fault
begin_fault_of k past job = option_or (pending_fault past (aims_at (target_of job))) (option_or (own_fault k past job) (operations_fault past))

-- the ask to begin it
abbrev pub ask_of : Begun → List Note → Ask
ask_of (Begun.Start x) notes = Ask.Start x notes
ask_of (Begun.Stop x) notes = Ask.Stop x notes
ask_of (Begun.Modify g m) notes = Ask.Modify g m notes

-- core c may begin an operation
pub record CanBegin (v : Operations) (c : ℕ) (job : Begun) : Type 0 where
  pub graph : Declarations
  pub limits : Limits
  pub past : Past
  pub lawful : Lawful graph limits past
  pub stands : OperationsStand graph v past
  pub core : c < graph.cores
  pub there : IsTargetThere graph job
  pub free : begin_fault_of graph past job ≡ None

-- ends

-- core c owes operation n a step of this kind
pub record CanEnd (v : Operations) (c n : ℕ) (phase : Phase) : Type 0 where
  pub graph : Declarations
  pub past : Past
  pub stands : OperationsStand graph v past
  pub core : c < graph.cores
  pub owed : owed_to graph.cores (ack_steps past) c n ≡ Some phase

-- operation n has begun, and is not done
pub record CanFinish (v : Operations) (n : ℕ) : Type 0 where
  pub graph : Declarations
  pub limits : Limits
  pub past : Past
  pub all : AllAllowed graph limits past
  pub stands : OperationsStand graph v past
  pub undone : IsUndone past n

-- what is done to a target

-- an object may come to this state
pub record CanMove (v : Operations) (x : ℕ) (to : EoState) : Type 0 where
  pub graph : Declarations
  pub object : List ObjectStep
  pub group : List GroupStep
  pub ack : List AckStep
  pub operation : List Operation
  pub stands : StepsStand graph v object group ack operation
  pub there : x < length graph.running
  pub move : is_move (state graph object x) to ≡ true

-- a group that is not being changed may be given this mask
pub record CanChange (v : Operations) (g m : ℕ) : Type 0 where
  pub graph : Declarations
  pub object : List ObjectStep
  pub group : List GroupStep
  pub ack : List AckStep
  pub operation : List Operation
  pub stands : StepsStand graph v object group ack operation
  pub there : g < length graph.groups + 1
  pub unchanged : change group g ≡ None
  pub mask : mask_fault graph m ≡ None

-- a group is being given a mask
pub record CanSettle (v : Operations) (g : ℕ) : Type 0 where
  pub graph : Declarations
  pub object : List ObjectStep
  pub group : List GroupStep
  pub ack : List AckStep
  pub operation : List Operation
  pub mask : ℕ
  pub stands : StepsStand graph v object group ack operation
  pub there : g < length graph.groups + 1
  pub changing : change group g ≡ Some mask

-- an operation may take the next number
pub record CanOpen (v : Operations) (c : ℕ) (job : Begun) : Type 0 where
  pub graph : Declarations
  pub object : List ObjectStep
  pub group : List GroupStep
  pub ack : List AckStep
  pub operation : List Operation
  pub stands : StepsStand graph v object group ack operation
  pub core : c < graph.cores
  pub there : IsTargetThere graph job
  pub free : begin_fault graph.cores ack (target_of job) ≡ None

-- what an operation does to its target when it begins may be done
abbrev pub IsBeginnable : Declarations → List ObjectStep → List GroupStep → Begun → Type 0
IsBeginnable k object group (Begun.Start x) = state k object x.0 ≡ EoState.Created
IsBeginnable k object group (Begun.Stop x) = state k object x.0 ≡ EoState.Running
IsBeginnable k object group (Begun.Modify g m) = (change group g.0 ≡ None) × (mask_fault k m ≡ None)

pub record CanBeginTarget (v : Operations) (job : Begun) : Type 0 where
  pub graph : Declarations
  pub object : List ObjectStep
  pub group : List GroupStep
  pub ack : List AckStep
  pub operation : List Operation
  pub stands : StepsStand graph v object group ack operation
  pub there : IsTargetThere graph job
  pub ready : IsBeginnable graph object group job

-- and when it is done
abbrev pub IsEndable : Declarations → List ObjectStep → List GroupStep → Begun → Type 0
IsEndable k object group (Begun.Start x) = state k object x.0 ≡ EoState.Starting
IsEndable k object group (Begun.Stop x) = state k object x.0 ≡ EoState.Stopping
IsEndable k object group (Begun.Modify g m) = change group g.0 ≡ Some m

pub record CanEndTarget (v : Operations) (job : Begun) : Type 0 where
  pub graph : Declarations
  pub object : List ObjectStep
  pub group : List GroupStep
  pub ack : List AckStep
  pub operation : List Operation
  pub stands : StepsStand graph v object group ack operation
  pub there : IsTargetThere graph job
  pub ready : IsEndable graph object group job
