-- The forms of the entries.
use Rattle.std.specs.Prelude.{ℕ, Bool, true, false, List, [], ◌∷◌, Option, Some, None, ◌==◌, nat_le, if◌then◌else◌, codes, ◌⊎◌}
use Rattle.std.proofs.Common.{inl, inr}
use Rattle.em_log.specs.declared.ids.CoreId.{CoreId}
use Rattle.em_log.specs.declared.ids.QueueId.{QueueId}
use Rattle.em_log.specs.declared.ids.GroupId.{GroupId}
use Rattle.em_log.specs.declared.ids.EoId.{EoId}
use Rattle.em_log.specs.declared.ids.EventGroupId.{EventGroupId}
use Rattle.em_log.specs.declared.ids.PoolId.{PoolId}
use Rattle.em_log.specs.declared.ids.OpId.{OpId}
use Rattle.em_log.specs.declared.ids.Handle.{Handle}
use Rattle.em_log.specs.declared.ids.Cells.{Cells}
use Rattle.em_log.specs.declared.ids.Note.{Note}
use Rattle.em_log.specs.declared.ids.Stamp.{Stamp}
use Rattle.em_log.specs.declared.ids.EoState.{EoState}
use Rattle.em_log.specs.declared.ids.EoState.TheVariants as states
use Rattle.em_log.specs.declared.ids.Kind.{Kind}
use Rattle.em_log.specs.declared.ids.Kind.TheVariants as queue_kinds
use Rattle.em_log.specs.declared.fault.Fault.{Fault}
use Rattle.em_log.specs.declared.fault.Fault.TheVariants as faults
use Rattle.em_log.specs.declared.fault.Call.{Call}
use Rattle.em_log.specs.declared.fault.Call.TheVariants as calls
use Rattle.em_log.specs.declared.entry.Event.{Event}
use Rattle.em_log.specs.declared.entry.Body.{Body}
use Rattle.em_log.specs.declared.entry.Body.TheVariants as bodies
use Rattle.em_log.specs.declared.entry.Begun.{Begun}
use Rattle.em_log.specs.declared.entry.Begun.TheVariants as begun
use Rattle.em_log.specs.declared.entry.What.{What}
use Rattle.em_log.specs.declared.entry.What.TheVariants as what
use Rattle.em_log.specs.declared.entry.Entry.{Entry}
use Rattle.em_trace.specs.declared.kind.EntryKind.{EntryKind}
use Rattle.em_trace.specs.declared.kind.EntryKind.TheVariants as kinds
use Rattle.em_trace.specs.Line.{Rest}
use Rattle.em_trace.specs.Form.{◌>>=◌, Form, given, number, marked, ◌▷◌, mapped, nothing, ended, after, either, optional, times, counted, one_of, checked}

-- ---- numbers and names

abbrev pub u8_form : Form ℕ
u8_form = number 255

abbrev pub u32_form : Form ℕ
u32_form = number 4294967295

abbrev pub u64_form : Form ℕ
u64_form = number 18446744073709551615

-- c, g, o, e, p, q and the number
abbrev pub core_form : Form CoreId
core_form = mapped (λ n. record { 0 = n }) (λ id. id.0) (marked 99 255)

abbrev pub group_form : Form GroupId
group_form = mapped (λ n. record { 0 = n }) (λ id. id.0) (marked 103 255)

abbrev pub eo_form : Form EoId
eo_form = mapped (λ n. record { 0 = n }) (λ id. id.0) (marked 111 255)

abbrev pub egroup_form : Form EventGroupId
egroup_form = mapped (λ n. record { 0 = n }) (λ id. id.0) (marked 101 255)

abbrev pub pool_form : Form PoolId
pool_form = mapped (λ n. record { 0 = n }) (λ id. id.0) (marked 112 255)

abbrev pub queue_form : Form QueueId
queue_form = mapped (λ n. record { 0 = n }) (λ id. id.0) (marked 113 65535)

abbrev pub op_form : Form OpId
op_form = mapped (λ n. record { 0 = n }) (λ id. id.0) (number 65535)

abbrev pub handle_form : Form Handle
handle_form = mapped (λ n. record { 0 = n }) (λ id. id.0) u64_form

-- ---- parts

abbrev pub words_form : Form (List ℕ)
words_form = after (codes "words") (counted 16 u64_form)

abbrev pub content_form : Form (ℕ × List ℕ)
content_form = after (codes "kind") u32_form ▷ words_form

abbrev pub event_form : Form Event
event_form = mapped (λ p. record { handle = p.0; kind = p.1.0; words = p.1.1 }) (λ e. (e.handle, (e.kind, e.words))) (handle_form ▷ content_form)

abbrev pub option_from : {A : Type 0} → Unit {0} ⊎ A → Option A
option_from (inl _) = None
option_from (inr x) = Some x

abbrev pub option_back : {A : Type 0} → Option A → Unit {0} ⊎ A
option_back None = inl tt
option_back (Some x) = inr x

-- an event, or none
abbrev pub received_form : Form (Option Event)
received_form = mapped option_from option_back (either (codes "none") nothing event_form)

abbrev pub stamp_form : Form Stamp
stamp_form = mapped (λ p. record { group = p.0; app = p.1 }) (λ s. (s.group, s.app)) (egroup_form ▷ u32_form)

abbrev pub ticket_form : Form (Option ℕ)
ticket_form = optional (codes "ticket") u32_form

abbrev pub stamped_form : Form (Option Stamp)
stamped_form = optional (codes "stamp") stamp_form

abbrev pub note_form : Form Note
note_form = mapped (λ p. record { word = p.0; queue = p.1 }) (λ n. (n.word, n.queue)) (u64_form ▷ queue_form)

abbrev pub notes_form : Form (List Note)
notes_form = after (codes "notes") (counted 8 note_form)

abbrev pub eight_form : Form Cells
eight_form = mapped (λ xs. record { 0 = xs }) (λ c. c.0) (times 8 u64_form)

abbrev pub cells_form : Form Cells
cells_form = after (codes "cells") eight_form

abbrev pub some_cells_form : Form (Option Cells)
some_cells_form = optional (codes "cells") eight_form

abbrev pub bool_from : Unit {0} ⊎ Unit {0} → Bool
bool_from (inl _) = true
bool_from (inr _) = false

abbrev pub bool_back : Bool → Unit {0} ⊎ Unit {0}
bool_back true = inl tt
bool_back false = inr tt

-- how an operation ended
abbrev pub outcome_form : Form Bool
outcome_form = mapped bool_from bool_back (either (codes "ok") nothing (after (codes "failed") nothing))

abbrev pub body_from : Unit {0} ⊎ (OpId ⊎ (OpId ⊎ (OpId ⊎ OpId))) → Body
body_from (inl _) = bodies.Boot
body_from (inr (inl op)) = bodies.GlobalStart op
body_from (inr (inr (inl op))) = bodies.LocalStart op
body_from (inr (inr (inr (inl op)))) = bodies.LocalStop op
body_from (inr (inr (inr (inr op)))) = bodies.GlobalStop op

abbrev pub body_back : Body → Unit {0} ⊎ (OpId ⊎ (OpId ⊎ (OpId ⊎ OpId)))
body_back bodies.Boot = inl tt
body_back (bodies.GlobalStart op) = inr (inl op)
body_back (bodies.LocalStart op) = inr (inr (inl op))
body_back (bodies.LocalStop op) = inr (inr (inr (inl op)))
body_back (bodies.GlobalStop op) = inr (inr (inr (inr op)))

abbrev pub body_form : Form Body
body_form = mapped body_from body_back (either (codes "boot") nothing (either (codes "gstart") op_form (either (codes "lstart") op_form (either (codes "lstop") op_form (after (codes "gstop") op_form)))))

abbrev pub job_from : EoId ⊎ (EoId ⊎ (GroupId × ℕ)) → Begun
job_from (inl eo) = begun.Start eo
job_from (inr (inl eo)) = begun.Stop eo
job_from (inr (inr p)) = begun.Modify p.0 p.1

abbrev pub job_back : Begun → EoId ⊎ (EoId ⊎ (GroupId × ℕ))
job_back (begun.Start eo) = inl eo
job_back (begun.Stop eo) = inr (inl eo)
job_back (begun.Modify group mask) = inr (inr (group, mask))

-- an operation that begins
abbrev pub job_form : Form Begun
job_form = mapped job_from job_back (either (codes "start") eo_form (either (codes "stop") eo_form (after (codes "modify") (group_form ▷ u64_form))))

-- ---- faults

abbrev pub scope_form : Form (Option EoId)
scope_form = mapped option_from option_back (either (codes "global") nothing eo_form)

abbrev pub word_of_call : Call → List ℕ
word_of_call calls.Alloc = codes "alloc"
word_of_call calls.Free = codes "free"
word_of_call calls.Send = codes "send"
word_of_call calls.Keep = codes "keep"
word_of_call calls.Dequeue = codes "dequeue"
word_of_call calls.Enable = codes "enable"
word_of_call calls.Disable = codes "disable"
word_of_call calls.EndAtomic = codes "endatomic"
word_of_call calls.EndOrdered = codes "endordered"
word_of_call calls.EndGroup = codes "endgroup"
word_of_call calls.Cell = codes "cell"
word_of_call calls.Apply = codes "apply"
word_of_call calls.Increment = codes "increment"
word_of_call calls.Abort = codes "abort"
word_of_call calls.Start = codes "start"
word_of_call calls.Stop = codes "stop"
word_of_call calls.Modify = codes "modify"
word_of_call calls.Fail = codes "fail"
word_of_call calls.Note = codes "note"

abbrev pub named_call : Call → List ℕ × Call
named_call call = (word_of_call call, call)

abbrev pub call_words : List (List ℕ × Call)
call_words =
    named_call calls.Alloc ∷ named_call calls.Free ∷ named_call calls.Send ∷ named_call calls.Keep ∷ named_call calls.Dequeue
    ∷ named_call calls.Enable ∷ named_call calls.Disable ∷ named_call calls.EndAtomic ∷ named_call calls.EndOrdered ∷ named_call calls.EndGroup
    ∷ named_call calls.Cell ∷ named_call calls.Apply ∷ named_call calls.Increment ∷ named_call calls.Abort ∷ named_call calls.Start
    ∷ named_call calls.Stop ∷ named_call calls.Modify ∷ named_call calls.Fail ∷ named_call calls.Note ∷ []

abbrev pub call_form : Form Call
call_form = one_of call_words word_of_call

abbrev pub number_of_kind : Kind → ℕ
number_of_kind queue_kinds.Atomic = 0
number_of_kind queue_kinds.Parallel = 1
number_of_kind queue_kinds.Ordered = 2
number_of_kind queue_kinds.Local = 3
number_of_kind queue_kinds.Unscheduled = 4
number_of_kind queue_kinds.Output = 5

abbrev pub kind_of_number : ℕ → Option Kind
kind_of_number n =
    if n == 0 then Some queue_kinds.Atomic
    else (if n == 1 then Some queue_kinds.Parallel
    else (if n == 2 then Some queue_kinds.Ordered
    else (if n == 3 then Some queue_kinds.Local
    else (if n == 4 then Some queue_kinds.Unscheduled
    else (if n == 5 then Some queue_kinds.Output else None)))))

abbrev pub number_of_state : EoState → ℕ
number_of_state states.Created = 0
number_of_state states.Starting = 1
number_of_state states.Running = 2
number_of_state states.Stopping = 3

abbrev pub state_of_number : ℕ → Option EoState
state_of_number n =
    if n == 0 then Some states.Created
    else (if n == 1 then Some states.Starting
    else (if n == 2 then Some states.Running
    else (if n == 3 then Some states.Stopping else None)))

-- the number of a fault and its detail, 0 where it has none
abbrev pub numbers_of_fault : Fault → ℕ × ℕ
numbers_of_fault (faults.NeverMinted word) = (1, word)
numbers_of_fault (faults.SpentBySend place) = (2, place)
numbers_of_fault (faults.SpentByFree place) = (3, place)
numbers_of_fault (faults.HeldElsewhere core) = (4, core.0)
numbers_of_fault (faults.QueueClosed state) = (5, state)
numbers_of_fault (faults.WrongKind kind) = (6, number_of_kind kind)
numbers_of_fault faults.NotAtomic = (7, 0)
numbers_of_fault faults.NotOrdered = (8, 0)
numbers_of_fault faults.NoGroup = (9, 0)
numbers_of_fault (faults.GroupBusy left) = (10, left)
numbers_of_fault (faults.GroupIdle group) = (11, group.0)
numbers_of_fault (faults.OpPending op) = (12, op.0)
numbers_of_fault (faults.EoState state) = (13, number_of_state state)
numbers_of_fault (faults.BadMask mask) = (14, mask)
numbers_of_fault (faults.PoolEmpty live) = (15, live)
numbers_of_fault (faults.BadSize words) = (16, words)
numbers_of_fault (faults.NoteLost queue) = (17, queue.0)
numbers_of_fault (faults.BadCount total) = (18, total)
numbers_of_fault (faults.StartFailed op) = (19, op.0)
numbers_of_fault (faults.OpsSpent begun) = (20, begun)

abbrev pub at_most : ℕ → (ℕ → Fault) → ℕ → Option Fault
at_most max to detail = if nat_le detail max then Some (to detail) else None

abbrev pub only_zero : Fault → ℕ → Option Fault
only_zero fault detail = if detail == 0 then Some fault else None

abbrev pub of_kind : Option Kind → Option Fault
of_kind None = None
of_kind (Some kind) = Some (faults.WrongKind kind)

abbrev pub of_state : Option EoState → Option Fault
of_state None = None
of_state (Some state) = Some (faults.EoState state)

-- each number of a fault, and the fault with a detail where the detail is one
abbrev pub faults_by_number : List (ℕ × (ℕ → Option Fault))
faults_by_number =
    (1, at_most 18446744073709551615 (λ d. faults.NeverMinted d))
    ∷ (2, at_most 18446744073709551615 (λ d. faults.SpentBySend d))
    ∷ (3, at_most 18446744073709551615 (λ d. faults.SpentByFree d))
    ∷ (4, at_most 255 (λ d. faults.HeldElsewhere (record { 0 = d })))
    ∷ (5, at_most 255 (λ d. faults.QueueClosed d))
    ∷ (6, λ d. of_kind (kind_of_number d))
    ∷ (7, only_zero faults.NotAtomic)
    ∷ (8, only_zero faults.NotOrdered)
    ∷ (9, only_zero faults.NoGroup)
    ∷ (10, at_most 4294967295 (λ d. faults.GroupBusy d))
    ∷ (11, at_most 255 (λ d. faults.GroupIdle (record { 0 = d })))
    ∷ (12, at_most 65535 (λ d. faults.OpPending (record { 0 = d })))
    ∷ (13, λ d. of_state (state_of_number d))
    ∷ (14, at_most 18446744073709551615 (λ d. faults.BadMask d))
    ∷ (15, at_most 4294967295 (λ d. faults.PoolEmpty d))
    ∷ (16, at_most 255 (λ d. faults.BadSize d))
    ∷ (17, at_most 65535 (λ d. faults.NoteLost (record { 0 = d })))
    ∷ (18, at_most 4294967295 (λ d. faults.BadCount d))
    ∷ (19, at_most 65535 (λ d. faults.StartFailed (record { 0 = d })))
    ∷ (20, at_most 65535 (λ d. faults.OpsSpent d))
    ∷ []

abbrev pub fault_in : List (ℕ × (ℕ → Option Fault)) → ℕ → ℕ → Option Fault
fault_in [] n detail = None
fault_in (entry ∷ entries) n detail = if n == entry.0 then entry.1 detail else fault_in entries n detail

abbrev pub fault_of_numbers : ℕ × ℕ → Option Fault
fault_of_numbers p = fault_in faults_by_number p.0 p.1

abbrev pub fault_form : Form Fault
fault_form = checked fault_of_numbers numbers_of_fault faults.NotAtomic (u64_form ▷ u64_form)

-- ---- the entries, each after its word

abbrev pub word_of_kind : EntryKind → List ℕ
word_of_kind kinds.Enter = codes "enter"
word_of_kind kinds.Take = codes "take"
word_of_kind kinds.Start = codes "start"
word_of_kind kinds.Untake = codes "untake"
word_of_kind kinds.End = codes "end"
word_of_kind kinds.EndAtomic = codes "endatomic"
word_of_kind kinds.EndOrdered = codes "endordered"
word_of_kind kinds.EndGroup = codes "endgroup"
word_of_kind kinds.Alloc = codes "alloc"
word_of_kind kinds.Free = codes "free"
word_of_kind kinds.Send = codes "send"
word_of_kind kinds.Keep = codes "keep"
word_of_kind kinds.Claim = codes "claim"
word_of_kind kinds.Dequeue = codes "dequeue"
word_of_kind kinds.Out = codes "out"
word_of_kind kinds.Say = codes "say"
word_of_kind kinds.Enable = codes "enable"
word_of_kind kinds.Disable = codes "disable"
word_of_kind kinds.Begin = codes "begin"
word_of_kind kinds.GlobalDone = codes "gdone"
word_of_kind kinds.Ack = codes "ack"
word_of_kind kinds.Done = codes "done"
word_of_kind kinds.Apply = codes "apply"
word_of_kind kinds.Increment = codes "increment"
word_of_kind kinds.Abort = codes "abort"
word_of_kind kinds.Notify = codes "notify"
word_of_kind kinds.Fault = codes "fault"

abbrev pub named_kind : EntryKind → List ℕ × EntryKind
named_kind kind = (word_of_kind kind, kind)

abbrev pub kind_words : List (List ℕ × EntryKind)
kind_words =
    named_kind kinds.Enter ∷ named_kind kinds.Take ∷ named_kind kinds.Start ∷ named_kind kinds.Untake ∷ named_kind kinds.End
    ∷ named_kind kinds.EndAtomic ∷ named_kind kinds.EndOrdered ∷ named_kind kinds.EndGroup ∷ named_kind kinds.Alloc ∷ named_kind kinds.Free
    ∷ named_kind kinds.Send ∷ named_kind kinds.Keep ∷ named_kind kinds.Claim ∷ named_kind kinds.Dequeue ∷ named_kind kinds.Out
    ∷ named_kind kinds.Say ∷ named_kind kinds.Enable ∷ named_kind kinds.Disable ∷ named_kind kinds.Begin ∷ named_kind kinds.GlobalDone
    ∷ named_kind kinds.Ack ∷ named_kind kinds.Done ∷ named_kind kinds.Apply ∷ named_kind kinds.Increment ∷ named_kind kinds.Abort
    ∷ named_kind kinds.Notify ∷ named_kind kinds.Fault ∷ []

abbrev pub kind_form : Form EntryKind
kind_form = one_of kind_words word_of_kind

abbrev pub enter_form : Form (Body × Unit {0})
enter_form = body_form ▷ ended

abbrev pub take_form : Form (QueueId × (ℕ × (Option ℕ × Unit {0})))
take_form = queue_form ▷ u8_form ▷ ticket_form ▷ ended

abbrev pub start_form : Form (QueueId × (Event × (Option Stamp × Unit {0})))
start_form = queue_form ▷ event_form ▷ stamped_form ▷ ended

abbrev pub untake_form : Form (QueueId × (ℕ × Unit {0}))
untake_form = queue_form ▷ u8_form ▷ ended

abbrev pub end_form : Form (ℕ × (Option Cells × Unit {0}))
end_form = after (codes "lost") u32_form ▷ some_cells_form ▷ ended

abbrev pub endatomic_form : Form (ℕ × (Cells × Unit {0}))
endatomic_form = after (codes "rest") u8_form ▷ cells_form ▷ ended

abbrev pub alloc_form : Form (PoolId × (Event × Unit {0}))
alloc_form = pool_form ▷ event_form ▷ ended

abbrev pub handle_alone_form : Form (Handle × Unit {0})
handle_alone_form = handle_form ▷ ended

abbrev pub send_form : Form (Handle × (QueueId × (Option ℕ × (Option Stamp × Unit {0}))))
send_form = handle_form ▷ queue_form ▷ ticket_form ▷ stamped_form ▷ ended

abbrev pub claim_form : Form (Option Event × Unit {0})
claim_form = received_form ▷ ended

abbrev pub dequeue_form : Form (QueueId × (Option Event × Unit {0}))
dequeue_form = queue_form ▷ received_form ▷ ended

abbrev pub out_form : Form (QueueId × ((ℕ × List ℕ) × Unit {0}))
out_form = queue_form ▷ content_form ▷ ended

abbrev pub say_form : Form (ℕ × Unit {0})
say_form = u64_form ▷ ended

abbrev pub queue_alone_form : Form (QueueId × Unit {0})
queue_alone_form = queue_form ▷ ended

abbrev pub begin_form : Form (OpId × (Begun × (List Note × Unit {0})))
begin_form = op_form ▷ job_form ▷ notes_form ▷ ended

abbrev pub done_form : Form (OpId × (Bool × Unit {0}))
done_form = op_form ▷ outcome_form ▷ ended

abbrev pub op_alone_form : Form (OpId × Unit {0})
op_alone_form = op_form ▷ ended

abbrev pub apply_form : Form (EventGroupId × (ℕ × (ℕ × (List Note × Unit {0}))))
apply_form = egroup_form ▷ u32_form ▷ u64_form ▷ notes_form ▷ ended

abbrev pub increment_form : Form (EventGroupId × (ℕ × Unit {0}))
increment_form = egroup_form ▷ u64_form ▷ ended

abbrev pub egroup_alone_form : Form (EventGroupId × Unit {0})
egroup_alone_form = egroup_form ▷ ended

abbrev pub notify_form : Form (EventGroupId × (ℕ × Unit {0}))
notify_form = egroup_form ▷ u32_form ▷ ended

abbrev pub refusal_form : Form (Call × (Fault × (Option EoId × Unit {0})))
refusal_form = call_form ▷ fault_form ▷ scope_form ▷ ended

-- the tokens of what happened
abbrev pub what_tokens : What → List (List ℕ)
what_tokens (what.Enter body) = codes "enter" ∷ enter_form.write (body, tt)
what_tokens (what.Take queue n ticket) = codes "take" ∷ take_form.write (queue, (n, (ticket, tt)))
what_tokens (what.Start queue event stamp) = codes "start" ∷ start_form.write (queue, (event, (stamp, tt)))
what_tokens (what.Untake queue n) = codes "untake" ∷ untake_form.write (queue, (n, tt))
what_tokens (what.End lost cells) = codes "end" ∷ end_form.write (lost, (cells, tt))
what_tokens (what.EndAtomic rest cells) = codes "endatomic" ∷ endatomic_form.write (rest, (cells, tt))
what_tokens what.EndOrdered = codes "endordered" ∷ []
what_tokens what.EndGroup = codes "endgroup" ∷ []
what_tokens (what.Alloc pool event) = codes "alloc" ∷ alloc_form.write (pool, (event, tt))
what_tokens (what.Free handle) = codes "free" ∷ handle_alone_form.write (handle, tt)
what_tokens (what.Send handle queue ticket stamp) = codes "send" ∷ send_form.write (handle, (queue, (ticket, (stamp, tt))))
what_tokens (what.Keep handle) = codes "keep" ∷ handle_alone_form.write (handle, tt)
what_tokens (what.Claim event) = codes "claim" ∷ claim_form.write (event, tt)
what_tokens (what.Dequeue queue event) = codes "dequeue" ∷ dequeue_form.write (queue, (event, tt))
what_tokens (what.Out queue kind words) = codes "out" ∷ out_form.write (queue, ((kind, words), tt))
what_tokens (what.Say value) = codes "say" ∷ say_form.write (value, tt)
what_tokens (what.Enable queue) = codes "enable" ∷ queue_alone_form.write (queue, tt)
what_tokens (what.Disable queue) = codes "disable" ∷ queue_alone_form.write (queue, tt)
what_tokens (what.Begin op job notes) = codes "begin" ∷ begin_form.write (op, (job, (notes, tt)))
what_tokens (what.GlobalDone op ok) = codes "gdone" ∷ done_form.write (op, (ok, tt))
what_tokens (what.Ack op) = codes "ack" ∷ op_alone_form.write (op, tt)
what_tokens (what.Done op ok) = codes "done" ∷ done_form.write (op, (ok, tt))
what_tokens (what.Apply group app count notes) = codes "apply" ∷ apply_form.write (group, (app, (count, (notes, tt))))
what_tokens (what.Increment group n) = codes "increment" ∷ increment_form.write (group, (n, tt))
what_tokens (what.Abort group) = codes "abort" ∷ egroup_alone_form.write (group, tt)
what_tokens (what.Notify group app) = codes "notify" ∷ notify_form.write (group, (app, tt))
what_tokens (what.Fault call fault scope) = codes "fault" ∷ refusal_form.write (call, (fault, (scope, tt)))

-- what is read behind the word of a kind
unfoldable pub what_behind : EntryKind → Rest → Option (What × Rest)
what_behind kinds.Enter rest = given (λ p. what.Enter p.0) (enter_form.read rest)
what_behind kinds.Take rest = given (λ p. what.Take p.0 p.1.0 p.1.1.0) (take_form.read rest)
what_behind kinds.Start rest = given (λ p. what.Start p.0 p.1.0 p.1.1.0) (start_form.read rest)
what_behind kinds.Untake rest = given (λ p. what.Untake p.0 p.1.0) (untake_form.read rest)
what_behind kinds.End rest = given (λ p. what.End p.0 p.1.0) (end_form.read rest)
what_behind kinds.EndAtomic rest = given (λ p. what.EndAtomic p.0 p.1.0) (endatomic_form.read rest)
what_behind kinds.EndOrdered rest = given (λ _. what.EndOrdered) (ended.read rest)
what_behind kinds.EndGroup rest = given (λ _. what.EndGroup) (ended.read rest)
what_behind kinds.Alloc rest = given (λ p. what.Alloc p.0 p.1.0) (alloc_form.read rest)
what_behind kinds.Free rest = given (λ p. what.Free p.0) (handle_alone_form.read rest)
what_behind kinds.Send rest = given (λ p. what.Send p.0 p.1.0 p.1.1.0 p.1.1.1.0) (send_form.read rest)
what_behind kinds.Keep rest = given (λ p. what.Keep p.0) (handle_alone_form.read rest)
what_behind kinds.Claim rest = given (λ p. what.Claim p.0) (claim_form.read rest)
what_behind kinds.Dequeue rest = given (λ p. what.Dequeue p.0 p.1.0) (dequeue_form.read rest)
what_behind kinds.Out rest = given (λ p. what.Out p.0 p.1.0.0 p.1.0.1) (out_form.read rest)
what_behind kinds.Say rest = given (λ p. what.Say p.0) (say_form.read rest)
what_behind kinds.Enable rest = given (λ p. what.Enable p.0) (queue_alone_form.read rest)
what_behind kinds.Disable rest = given (λ p. what.Disable p.0) (queue_alone_form.read rest)
what_behind kinds.Begin rest = given (λ p. what.Begin p.0 p.1.0 p.1.1.0) (begin_form.read rest)
what_behind kinds.GlobalDone rest = given (λ p. what.GlobalDone p.0 p.1.0) (done_form.read rest)
what_behind kinds.Ack rest = given (λ p. what.Ack p.0) (op_alone_form.read rest)
what_behind kinds.Done rest = given (λ p. what.Done p.0 p.1.0) (done_form.read rest)
what_behind kinds.Apply rest = given (λ p. what.Apply p.0 p.1.0 p.1.1.0 p.1.1.1.0) (apply_form.read rest)
what_behind kinds.Increment rest = given (λ p. what.Increment p.0 p.1.0) (increment_form.read rest)
what_behind kinds.Abort rest = given (λ p. what.Abort p.0) (egroup_alone_form.read rest)
what_behind kinds.Notify rest = given (λ p. what.Notify p.0 p.1.0) (notify_form.read rest)
what_behind kinds.Fault rest = given (λ p. what.Fault p.0 p.1.0 p.1.1.0) (refusal_form.read rest)

unfoldable pub read_what : Rest → Option (What × Rest)
read_what rest = do
  k ← kind_form.read rest
  what_behind k.0 k.1

abbrev pub what_form : Form What
what_form = record { write = what_tokens; read = read_what }

abbrev pub entry_form : Form Entry
entry_form = mapped (λ p. record { core = p.0; what = p.1 }) (λ e. (e.core, e.what)) (core_form ▷ what_form)
