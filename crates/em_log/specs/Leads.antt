-- The entry that an ask gives: the fault of the first refusal that holds, or the ask's own entry.
use Rattle.std.specs.Prelude.{ℕ, ◌+◌, ◌^◌, ◌==◌, Bool, false, not, ◌||◌, nat_lt, nat_le, List, [], ◌∷◌, length, Option, Some, None, if◌then◌else◌, is_none, unwrap_or}
use Rattle.std.specs.Option.{option_or, option_map, option_map_or}
use Rattle.em_log.specs.declared.declarations.Declarations.{Declarations}
use Rattle.em_log.specs.declared.ask.Ask.{Ask}
use Rattle.em_log.specs.declared.entry.What.{What}
use Rattle.em_log.specs.declared.entry.Event.{Event}
use Rattle.em_log.specs.declared.entry.Body.{Body}
use Rattle.em_log.specs.declared.entry.Begun.{Begun}
use Rattle.em_log.specs.declared.fault.Fault.{Fault}
use Rattle.em_log.specs.declared.fault.Call.{Call}
use Rattle.em_log.specs.declared.ids.Note.{Note}
use Rattle.em_log.specs.declared.ids.Stamp.{Stamp}
use Rattle.em_log.specs.declared.ids.EoId.{EoId}
use Rattle.em_log.specs.declared.ids.OpId.{OpId}
use Rattle.em_log.specs.declared.ids.EoState.{EoState}
use Rattle.em_log.specs.declared.ids.EventGroupId.{EventGroupId}
use Rattle.em_log.specs.Bounds.{operation_limit}
use Rattle.em_log.specs.History.{Past, index_of, has}
use Rattle.em_log.specs.Declarations.{kind_of, is_unscheduled, is_served, words_of_pool, indices_of_pool}
use Rattle.em_log.specs.Contexts.{context, context_object}
use Rattle.em_log.specs.Handles.{Minting, held, minting, next_handle, rule}
use Rattle.em_log.specs.Operations.{operations, pending, op_id}
use Rattle.em_log.specs.States.{state, closed}
use Rattle.em_log.specs.Order.{open_ticket}
use Rattle.em_log.specs.Arrivals.{Item}
use Rattle.em_log.specs.Places.{waiting, taken, kept, first_free, live}
use Rattle.em_log.specs.Atomic.{holds}
use Rattle.em_log.specs.EventGroups.{applications, busy, is_current, total, members, count, open_stamp}

-- events

abbrev pub event_with : ℕ → ℕ → List ℕ → Event
event_with h kind words = record { handle = record { 0 = h }; kind = kind; words = words }

-- an alloc is refused for more words than the pool's, then where no event of the pool is free
abbrev pub alloc_refusal : Declarations → Past → ℕ → ℕ → Option Fault
alloc_refusal k past p size =
    if nat_lt (words_of_pool k p) size then Some (Fault.BadSize (words_of_pool k p))
    else if is_none (first_free k past (indices_of_pool k p)) then Some (Fault.PoolEmpty (live k past (indices_of_pool k p)))
    else None

-- it gives the event of the pool's least free index
abbrev pub allocated : Declarations → Past → ℕ → ℕ → List ℕ → Event
allocated k past p kind words =
    event_with (next_handle past (unwrap_or (first_free k past (indices_of_pool k p)) 0)) kind words

abbrev pub closed_fault : Declarations → Past → ℕ → Option Fault
closed_fault k past q = option_map (λ why. Fault.QueueClosed why) (closed k past q)

-- a send is refused by the rule of its word, then by a closed queue
abbrev pub send_refusal : Declarations → Past → ℕ → ℕ → ℕ → Option Fault
send_refusal k past c w q = option_or (rule past c w) (closed_fault k past q)

-- queues of no object can be neither enabled nor disabled, and take no stamped events
abbrev pub kind_refusal : Declarations → ℕ → Option Fault
kind_refusal k q = if is_served (kind_of k q) then None else Some (Fault.WrongKind (kind_of k q))

-- a stamp is refused where the group is idle, then where as many members were sent as the application's total
abbrev pub stamp_refusal : Past → ℕ → Option Fault
stamp_refusal past g =
    if not (busy past g) then Some (Fault.GroupIdle (record { 0 = g }))
    else if total past g == members past g (applications past g) then Some (Fault.BadCount (total past g))
    else None

abbrev pub send_in_refusal : Declarations → Past → ℕ → ℕ → ℕ → ℕ → Option Fault
send_in_refusal k past c w q g =
    option_or (rule past c w) (option_or (kind_refusal k q) (option_or (closed_fault k past q) (stamp_refusal past g)))

abbrev pub stamp_now : Past → ℕ → Stamp
stamp_now past g = record { group = record { 0 = g }; app = applications past g }

abbrev pub open_number : Past → ℕ → Option ℕ
open_number past c = option_map (λ t. t.number) (open_ticket past c)

abbrev pub dequeue_refusal : Declarations → ℕ → Option Fault
dequeue_refusal k q = if is_unscheduled (kind_of k q) then None else Some (Fault.WrongKind (kind_of k q))

-- an event under the handle that the next minting of its index gives
abbrev pub minted_again : Past → ℕ → ℕ → List ℕ → Event
minted_again past h kind words = event_with (next_handle past (index_of h)) kind words

abbrev pub item_again : Past → Item → Event
item_again past x = minted_again past x.handle x.kind x.words

-- a dequeue gives the first event that waits, if one does
abbrev pub dequeued : Past → List Item → Option Event
dequeued past [] = None
dequeued past (x ∷ xs) = Some (item_again past x)

abbrev pub kept_again : Past → ℕ → Minting → Event
kept_again past h m = minted_again past h m.event.kind m.event.words

abbrev pub claimed_from : Past → List ℕ → Option Event
claimed_from past [] = None
claimed_from past (h ∷ hs) = option_map (kept_again past h) (minting past h)

-- a claim gives the object's longest kept event, if it keeps one
abbrev pub claimed : Declarations → Past → ℕ → Option Event
claimed k past c = option_map_or (λ x. claimed_from past (kept k past x)) (context_object k past c) None

-- early ends

abbrev pub end_atomic_refusal : Declarations → Past → ℕ → Option Fault
end_atomic_refusal k past c = if is_none (holds k past c) then Some Fault.NotAtomic else None

abbrev pub end_ordered_refusal : Past → ℕ → Option Fault
end_ordered_refusal past c = if is_none (open_ticket past c) then Some Fault.NotOrdered else None

abbrev pub end_group_refusal : Past → ℕ → Option Fault
end_group_refusal past c = if is_none (open_stamp past c) then Some Fault.NoGroup else None

-- event groups

-- the greatest total of an application
abbrev pub count_limit : ℕ
count_limit = 4294967295

-- the first word among the notes that may not be used: one that stood in an earlier note is spent by this very ask
abbrev pub notes_refusal : Past → ℕ → List ℕ → List Note → Option Fault
notes_refusal past c seen [] = None
notes_refusal past c seen (n ∷ ns) =
    option_or (if has seen n.word then Some (Fault.SpentBySend (length past)) else rule past c n.word)
    (notes_refusal past c (n.word ∷ seen) ns)

abbrev pub count_refusal : Past → ℕ → ℕ → Option Fault
count_refusal past g n =
    if busy past g then Some (Fault.GroupBusy (count past g))
    else if (n == 0) || nat_lt count_limit n then Some (Fault.BadCount 0)
    else None

abbrev pub apply_refusal : Past → ℕ → ℕ → ℕ → List Note → Option Fault
apply_refusal past c g n notes = option_or (count_refusal past g n) (notes_refusal past c [] notes)

abbrev pub increment_refusal : Past → Option Stamp → ℕ → Option Fault
increment_refusal past None n = Some Fault.NoGroup
increment_refusal past (Some s) n =
    if not (is_current past s.group.0 s.app) then Some (Fault.GroupIdle s.group)
    else if (n == 0) || nat_lt count_limit (total past s.group.0 + n) then Some (Fault.BadCount (total past s.group.0))
    else None

-- the group of the context's own stamp; an increment without one is refused
abbrev pub own_group : Option Stamp → EventGroupId
own_group None = record { 0 = 0 }
own_group (Some s) = s.group

abbrev pub abort_refusal : Past → EventGroupId → Option Fault
abort_refusal past g = if busy past g.0 then None else Some (Fault.GroupIdle g)

-- operations

abbrev pub aims_at_object : ℕ → Begun → Bool
aims_at_object x (Begun.Start y) = y.0 == x
aims_at_object x (Begun.Stop y) = y.0 == x
aims_at_object x (Begun.Modify g m) = false

abbrev pub aims_at_group : ℕ → Begun → Bool
aims_at_group g (Begun.Modify h m) = h.0 == g
aims_at_group g _ = false

abbrev pub pending_fault : Past → (Begun → Bool) → Option Fault
pending_fault past aims = option_map (λ n. Fault.OpPending (op_id n)) (pending past aims)

abbrev pub operations_fault : Past → Option Fault
operations_fault past = if nat_lt (operations past) operation_limit then None else Some (Fault.OpsSpent operation_limit)

abbrev pub unless_created : EoState → Option Fault
unless_created EoState.Created = None
unless_created s = Some (Fault.EoState s)

abbrev pub unless_running : EoState → Option Fault
unless_running EoState.Running = None
unless_running s = Some (Fault.EoState s)

-- a mask names some core, and none that the graph lacks
abbrev pub mask_fault : Declarations → ℕ → Option Fault
mask_fault k m = if (m == 0) || nat_le (2 ^ k.cores) m then Some (Fault.BadMask m) else None

-- an operation is refused where its target has one pending, then for its own reason, then where no number is left,
-- then by its notes
abbrev pub begin_refusal : Past → ℕ → (Begun → Bool) → Option Fault → List Note → Option Fault
begin_refusal past c aims own notes =
    option_or (pending_fault past aims) (option_or own (option_or (operations_fault past) (notes_refusal past c [] notes)))

-- the operation whose global start the context runs; nothing else asks to fail
abbrev pub start_operation : Option What → OpId
start_operation (Some (What.Enter (Body.GlobalStart op))) = op
start_operation _ = op_id 0

-- every ask

-- the call that an ask makes, as its fault names it; claim, say and end are never refused
abbrev pub call_of : Ask → Call
call_of (Ask.Alloc p kind words) = Call.Alloc
call_of (Ask.Free w) = Call.Free
call_of (Ask.Send w q g) = Call.Send
call_of (Ask.Keep w) = Call.Keep
call_of (Ask.Dequeue q) = Call.Dequeue
call_of (Ask.Enable q) = Call.Enable
call_of (Ask.Disable q) = Call.Disable
call_of (Ask.EndAtomic cells) = Call.EndAtomic
call_of Ask.EndOrdered = Call.EndOrdered
call_of Ask.EndGroup = Call.EndGroup
call_of Ask.Cell = Call.Cell
call_of (Ask.Apply g n notes) = Call.Apply
call_of (Ask.Increment n) = Call.Increment
call_of (Ask.Abort g) = Call.Abort
call_of (Ask.Start x notes) = Call.Start
call_of (Ask.Stop x notes) = Call.Stop
call_of (Ask.Modify g m notes) = Call.Modify
call_of Ask.Fail = Call.Fail
call_of _ = Call.Note

-- the first refusal of an ask that holds, if one does
abbrev pub refusal : Declarations → Past → ℕ → Ask → Option Fault
refusal k past c (Ask.Alloc p kind words) = alloc_refusal k past p.0 (length words)
refusal k past c (Ask.Free w) = rule past c w
refusal k past c (Ask.Send w q None) = send_refusal k past c w q.0
refusal k past c (Ask.Send w q (Some g)) = send_in_refusal k past c w q.0 g.0
refusal k past c (Ask.Keep w) = rule past c w
refusal k past c (Ask.Dequeue q) = dequeue_refusal k q.0
refusal k past c (Ask.Enable q) = kind_refusal k q.0
refusal k past c (Ask.Disable q) = kind_refusal k q.0
refusal k past c (Ask.EndAtomic cells) = end_atomic_refusal k past c
refusal k past c Ask.EndOrdered = end_ordered_refusal past c
refusal k past c Ask.EndGroup = end_group_refusal past c
refusal k past c Ask.Cell = Some Fault.NotAtomic
refusal k past c (Ask.Apply g n notes) = apply_refusal past c g.0 n notes
refusal k past c (Ask.Increment n) = increment_refusal past (open_stamp past c) n
refusal k past c (Ask.Abort g) = abort_refusal past g
refusal k past c (Ask.Start x notes) = begin_refusal past c (aims_at_object x.0) (unless_created (state k past x.0)) notes
refusal k past c (Ask.Stop x notes) = begin_refusal past c (aims_at_object x.0) (unless_running (state k past x.0)) notes
refusal k past c (Ask.Modify g m notes) = begin_refusal past c (aims_at_group g.0) (mask_fault k m) notes
refusal k past c Ask.Fail = Some (Fault.StartFailed (start_operation (context past c)))
refusal k past c _ = None

-- the own entry of an ask; one to write a cell or to fail has none, since it is always refused
abbrev pub own : Declarations → Past → ℕ → Ask → What
own k past c (Ask.Alloc p kind words) = What.Alloc p (allocated k past p.0 kind words)
own k past c (Ask.Free w) = What.Free (record { 0 = w })
own k past c (Ask.Send w q g) = What.Send (record { 0 = w }) q (open_number past c) (option_map (λ e. stamp_now past e.0) g)
own k past c (Ask.Keep w) = What.Keep (record { 0 = w })
own k past c Ask.Claim = What.Claim (claimed k past c)
own k past c (Ask.Dequeue q) = What.Dequeue q (dequeued past (waiting k past q.0 c))
own k past c (Ask.Say v) = What.Say v
own k past c (Ask.Enable q) = What.Enable q
own k past c (Ask.Disable q) = What.Disable q
own k past c (Ask.EndAtomic cells) = What.EndAtomic (length (taken k past c)) cells
own k past c Ask.EndOrdered = What.EndOrdered
own k past c Ask.EndGroup = What.EndGroup
own k past c (Ask.Apply g n notes) = What.Apply g (applications past g.0 + 1) n notes
own k past c (Ask.Increment n) = What.Increment (own_group (open_stamp past c)) n
own k past c (Ask.Abort g) = What.Abort g
own k past c (Ask.Start x notes) = What.Begin (op_id (operations past)) (Begun.Start x) notes
own k past c (Ask.Stop x notes) = What.Begin (op_id (operations past)) (Begun.Stop x) notes
own k past c (Ask.Modify g m notes) = What.Begin (op_id (operations past)) (Begun.Modify g m) notes
own k past c (Ask.End cells) = What.End (length (held past c)) cells
own k past c _ = What.Say 0

-- the object whose faults these are: none, for the whole, in boot
abbrev pub scope : Declarations → Past → ℕ → Option EoId
scope k past c = option_map (λ x. record { 0 = x }) (context_object k past c)

abbrev pub refused_or : Declarations → Past → ℕ → Call → Option Fault → What → What
refused_or k past c asked None w = w
refused_or k past c asked (Some f) w = What.Fault asked f (scope k past c)

-- the entry that an ask of core c gives
abbrev pub lead : Declarations → Past → ℕ → Ask → What
lead k past c a = refused_or k past c (call_of a) (refusal k past c a) (own k past c a)
