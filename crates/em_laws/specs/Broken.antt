-- For each law a short history that breaks it by one wrong entry.
use Rattle.std.specs.Prelude.{ℕ, ◌≡◌, ◌≢◌, ◌≤◌, true, List, [], ◌∷◌, ◌++◌, length, map, take, Some, None, replicate}
use Rattle.em_log.specs.declared.declarations.Declarations.{Declarations}
use Rattle.em_log.specs.declared.declarations.QueueShape.{QueueShape}
use Rattle.em_log.specs.declared.entry.Entry.{Entry}
use Rattle.em_log.specs.declared.entry.Event.{Event}
use Rattle.em_log.specs.declared.entry.What.{What}
use Rattle.em_log.specs.declared.entry.Body.{Body}
use Rattle.em_log.specs.declared.entry.Begun.{Begun}
use Rattle.em_log.specs.declared.graph.Priority.{Priority}
use Rattle.em_log.specs.declared.ids.Kind.{Kind}
use Rattle.em_log.specs.declared.ids.Limits.{Limits}
use Rattle.em_log.specs.declared.ids.Cells.{Cells}
use Rattle.em_log.specs.declared.ids.Handle.{Handle}
use Rattle.em_log.specs.declared.ids.QueueId.{QueueId}
use Rattle.em_log.specs.declared.ids.OpId.{OpId}
use Rattle.em_log.specs.declared.ids.Stamp.{Stamp}
use Rattle.em_log.specs.declared.ids.EventGroupId.{EventGroupId}
use Rattle.em_log.specs.History.{Past, entry_by}
use Rattle.em_log.specs.Arrivals.{arrivals}
use Rattle.em_log.specs.Lawful.{Allowed, Lawful, due}
use Rattle.em_log.specs.Laws.{StopQuiet, GroupQuiet, Exclusive, Each, AreDifferent, entered_in_all, EntersInTurn, shown_item, starts, StartsNext, notifies}

-- each of these entries, the newest first, is allowed where it stands
abbrev pub EachAllowed : Declarations → Limits → Past → List Entry → Type 0
EachAllowed k l past [] = Unit {0}
EachAllowed k l past (e ∷ es) = Allowed k l (es ++ past) e × EachAllowed k l past es

-- the laws by name, that of each event once by its parts
pub data LawName : Type 0 where
  StopLaw : LawName
  GroupLaw : LawName
  AtomicLaw : LawName
  EntersOnceLaw : LawName
  EntersInTurnLaw : LawName
  StartsInOrderLaw : LawName
  StartsNextLaw : LawName
  NotifiesOnceLaw : LawName

abbrev pub Obeys : LawName → Declarations → Past → Type 0
Obeys StopLaw k past = StopQuiet k past
Obeys GroupLaw k past = GroupQuiet k past
Obeys AtomicLaw k past = Exclusive k past
Obeys EntersOnceLaw k past = AreDifferent (entered_in_all k past)
Obeys EntersInTurnLaw k past = Each (EntersInTurn k past) past
Obeys StartsInOrderLaw k past =
    (q c : ℕ) → starts k past q c ≡ take (length (starts k past q c)) (map shown_item (arrivals k past q c))
Obeys StartsNextLaw k past = Each StartsNext past
Obeys NotifiesOnceLaw k past = (g a : ℕ) → notifies past g a ≤ 1

-- the entry is the only wrong one of the history, and by it the history breaks this law and no other
pub record BreaksOnly (k : Declarations) (l : Limits) (law : LawName) (later : List Entry) (entry : Entry) (past : Past) : Type 0 where
  pub before : Lawful k l past
  pub wrong : Allowed k l past entry → ⊥
  pub after : EachAllowed k l (entry ∷ past) later
  pub whole : due k (later ++ entry ∷ past) ≡ []
  pub broken : Obeys law k (later ++ entry ∷ past) → ⊥
  pub others : (other : LawName) → other ≢ law → Obeys other k (later ++ entry ∷ past)
  pub unlawful : Lawful k l (later ++ entry ∷ past) → ⊥

-- two cores and one object that runs; queues 0 and 1 share an atomic group, and queue 2 is parallel in queue group 1

abbrev pub atomic_queue : QueueShape
atomic_queue =
    record { kind = Kind.Atomic; eo = Some (record { 0 = 0 }); priority = Some Priority.Normal; group = None; agroup = Some 0 }

abbrev pub parallel_queue : QueueShape
parallel_queue =
    record { kind = Kind.Parallel; eo = Some (record { 0 = 0 }); priority = Some Priority.Normal; group = Some (record { 0 = 1 }); agroup = None }

abbrev pub two_cores : Declarations
two_cores =
    record {
      cores = 2;
      pools = record { events = 4; words = 1 } ∷ [];
      groups = record { 0 = 3 } ∷ [];
      running = true ∷ [];
      agroups = record { 0 = 0 } ∷ [];
      queues = atomic_queue ∷ atomic_queue ∷ parallel_queue ∷ [];
      egroups = 1;
    }

abbrev pub ten_receives : Limits
ten_receives = record { receives = 10; burst = 2 }

abbrev pub handle : ℕ → Handle
handle h = record { 0 = h }

abbrev pub queue : ℕ → QueueId
queue q = record { 0 = q }

abbrev pub op : ℕ → OpId
op n = record { 0 = n }

abbrev pub egroup : EventGroupId
egroup = record { 0 = 0 }

-- the event without words of this handle
abbrev pub event : ℕ → Event
event h = record { handle = handle h; kind = 7; words = [] }

abbrev pub zero_cells : Cells
zero_cells = record { 0 = replicate 8 0 }

-- boot allocates and sends two events to queues a and b, and ends
abbrev pub two_sent : ℕ → ℕ → Past
two_sent a b =
    entry_by 0 (What.End 0 None)
    ∷ entry_by 0 (What.Send (handle 65537) (queue b) None None)
    ∷ entry_by 0 (What.Alloc (record { 0 = 0 }) (event 65537))
    ∷ entry_by 0 (What.Send (handle 65536) (queue a) None None)
    ∷ entry_by 0 (What.Alloc (record { 0 = 0 }) (event 65536))
    ∷ entry_by 0 (What.Enter Body.Boot) ∷ []

-- an acknowledgement of a stop with a receive open

-- core 1 receives, and core 0 begins to stop the object in a receive and ends it
abbrev pub stop_begun : Past
stop_begun =
    entry_by 0 (What.End 0 None)
    ∷ entry_by 0 (What.Free (handle 131073))
    ∷ entry_by 0 (What.Begin (op 0) (Begun.Stop (record { 0 = 0 })) [])
    ∷ entry_by 0 (What.Start (queue 2) (event 131073) None)
    ∷ entry_by 0 (What.Take (queue 2) 1 None)
    ∷ entry_by 1 (What.Start (queue 2) (event 131072) None)
    ∷ entry_by 1 (What.Take (queue 2) 1 None)
    ∷ two_sent 2 2

abbrev pub early_ack : Entry
early_ack = entry_by 1 (What.Ack (op 0))

-- core 0 does its part, and the stop completes
abbrev pub stop_completes : List Entry
stop_completes =
    entry_by 0 (What.Done (op 0) true)
    ∷ entry_by 0 (What.GlobalDone (op 0) true)
    ∷ entry_by 0 (What.End 0 None)
    ∷ entry_by 0 (What.Enter (Body.GlobalStop (op 0)))
    ∷ entry_by 0 (What.Ack (op 0))
    ∷ entry_by 0 (What.End 0 None)
    ∷ entry_by 0 (What.Enter (Body.LocalStop (op 0))) ∷ []

-- a take by a core that a completed change excluded

-- boot sends an event and changes queue group 1 to core 0 alone, and both cores acknowledge
abbrev pub group_changed : Past
group_changed =
    entry_by 1 (What.Done (op 0) true)
    ∷ entry_by 1 (What.Ack (op 0))
    ∷ entry_by 0 (What.Ack (op 0))
    ∷ entry_by 0 (What.End 0 None)
    ∷ entry_by 0 (What.Begin (op 0) (Begun.Modify (record { 0 = 1 }) 1) [])
    ∷ entry_by 0 (What.Send (handle 65536) (queue 2) None None)
    ∷ entry_by 0 (What.Alloc (record { 0 = 0 }) (event 65536))
    ∷ entry_by 0 (What.Enter Body.Boot) ∷ []

abbrev pub excluded_take : Entry
excluded_take = entry_by 1 (What.Take (queue 2) 1 None)

abbrev pub excluded_starts : List Entry
excluded_starts = entry_by 1 (What.Start (queue 2) (event 131072) None) ∷ []

-- two cores in one atomic group

-- core 0 receives from queue 0
abbrev pub one_inside : Past
one_inside =
    entry_by 0 (What.Start (queue 0) (event 131072) None)
    ∷ entry_by 0 (What.Take (queue 0) 1 None)
    ∷ two_sent 0 1

abbrev pub second_take : Entry
second_take = entry_by 1 (What.Take (queue 1) 1 None)

abbrev pub second_starts : List Entry
second_starts = entry_by 1 (What.Start (queue 1) (event 131073) None) ∷ []

-- a second notification after an abort

abbrev pub first_stamp : Stamp
first_stamp = record { group = egroup; app = 1 }

-- the first application notifies, and a second one is aborted
abbrev pub aborted : Past
aborted =
    entry_by 0 (What.Abort egroup)
    ∷ entry_by 0 (What.Apply egroup 2 1 [])
    ∷ entry_by 0 (What.Start (queue 2) (event 131073) None)
    ∷ entry_by 0 (What.Take (queue 2) 1 None)
    ∷ entry_by 0 (What.Notify egroup 1)
    ∷ entry_by 0 (What.End 0 None)
    ∷ entry_by 0 (What.Free (handle 131072))
    ∷ entry_by 0 (What.Start (queue 2) (event 131072) (Some first_stamp))
    ∷ entry_by 0 (What.Take (queue 2) 1 None)
    ∷ entry_by 0 (What.End 0 None)
    ∷ entry_by 0 (What.Send (handle 65537) (queue 2) None None)
    ∷ entry_by 0 (What.Alloc (record { 0 = 0 }) (event 65537))
    ∷ entry_by 0 (What.Send (handle 65536) (queue 2) None (Some first_stamp))
    ∷ entry_by 0 (What.Apply egroup 1 1 [])
    ∷ entry_by 0 (What.Alloc (record { 0 = 0 }) (event 65536))
    ∷ entry_by 0 (What.Enter Body.Boot) ∷ []

abbrev pub second_notification : Entry
second_notification = entry_by 0 (What.Notify egroup 1)

abbrev pub no_more : List Entry
no_more = []

-- a start of an event that was given back, or that was never started

-- core 0 takes two events, and its receive of the first ends
abbrev pub one_received : Past
one_received =
    entry_by 0 (What.End 0 (Some zero_cells))
    ∷ entry_by 0 (What.Free (handle 131072))
    ∷ entry_by 0 (What.Start (queue 0) (event 131072) None)
    ∷ entry_by 0 (What.Take (queue 0) 2 None)
    ∷ two_sent 0 0

-- core 0 takes two events, starts the first, gives the second back, and takes and starts it again
abbrev pub given_back : Past
given_back =
    entry_by 0 (What.Start (queue 0) (event 131073) None)
    ∷ entry_by 0 (What.Take (queue 0) 1 None)
    ∷ entry_by 0 (What.Untake (queue 0) 1)
    ∷ one_received

abbrev pub second_start : Entry
second_start = entry_by 0 (What.Start (queue 0) (event 196609) None)

-- a handle that is sent twice

-- boot sends an event
abbrev pub one_sent : Past
one_sent =
    entry_by 0 (What.Send (handle 65536) (queue 2) None None)
    ∷ entry_by 0 (What.Alloc (record { 0 = 0 }) (event 65536))
    ∷ entry_by 0 (What.Enter Body.Boot) ∷ []

abbrev pub second_send : Entry
second_send = entry_by 0 (What.Send (handle 65536) (queue 2) None None)

abbrev pub boot_ends : List Entry
boot_ends = entry_by 0 (What.End 0 None) ∷ []

-- a send of what was never minted

abbrev pub only_boot : Past
only_boot = entry_by 0 (What.Enter Body.Boot) ∷ []
