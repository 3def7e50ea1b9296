-- The entries that one ask puts after its first.
use Rattle.std.specs.Prelude.{ℕ, ◌==◌, Bool, true, false, ◌&&◌, List, [], ◌∷◌, ◌++◌, Option, Some, None, if◌then◌else◌}
use Rattle.std.specs.List.{flat_map}
use Rattle.em_log.specs.declared.declarations.Declarations.{Declarations}
use Rattle.em_log.specs.declared.entry.Entry.{Entry}
use Rattle.em_log.specs.declared.entry.What.{What}
use Rattle.em_log.specs.declared.entry.Body.{Body}
use Rattle.em_log.specs.declared.fault.Fault.{Fault}
use Rattle.em_log.specs.declared.fault.Call.{Call}
use Rattle.em_log.specs.declared.ids.Note.{Note}
use Rattle.em_log.specs.declared.ids.Stamp.{Stamp}
use Rattle.em_log.specs.declared.ids.OpId.{OpId}
use Rattle.em_log.specs.History.{Past, entry_by, entries_by}
use Rattle.em_log.specs.Declarations.{kind_of, is_output}
use Rattle.em_log.specs.Contexts.{context}
use Rattle.em_log.specs.Handles.{Minting, minting}
use Rattle.em_log.specs.Operations.{operation, notes_of, all_acked}
use Rattle.em_log.specs.States.{closed}
use Rattle.em_log.specs.Order.{Sent, open_ticket, let_in}
use Rattle.em_log.specs.Arrivals.{Item, note_entering, send_entering}
use Rattle.em_log.specs.Places.{taken}
use Rattle.em_log.specs.EventGroups.{is_current, applied_notes, count, open_stamp}
use Rattle.em_log.specs.Leads.{item_again}

-- the start of a taken event of queue q
abbrev pub start_of : Past → ℕ → Item → What
start_of past q x = What.Start (record { 0 = q }) (item_again past x) x.stamp

abbrev pub first_start : Past → ℕ → List Item → List What
first_start past q [] = []
first_start past q (x ∷ xs) = start_of past q x ∷ []

-- outputs

abbrev pub out_of : ℕ → Option Minting → List What
out_of q None = []
out_of q (Some m) = What.Out (record { 0 = q }) m.event.kind m.event.words ∷ []

-- the Out of what enters a queue, where that is an output
abbrev pub out : Declarations → Past → Sent → List What
out k past s = if is_output (kind_of k s.queue) then out_of s.queue (minting past s.handle) else []

abbrev pub outs : Declarations → Past → List Sent → List What
outs k past ss = flat_map (out k past) ss

-- notes

-- what a note gives that lets this in: a fault where that is nothing, else an Out where its queue is an output
abbrev pub note_result : Declarations → Past → Note → Option Sent → List What
note_result k now n None = What.Fault Call.Note (Fault.NoteLost n.queue) None ∷ []
note_result k now n (Some s) = out k now s

-- what notes give at completion by core d, in order
abbrev pub note_results : Declarations → Past → ℕ → List Note → List What
note_results k now d notes = flat_map (λ n. note_result k now n (note_entering d n (closed k now n.queue.0))) notes

-- completion of an operation by core d: it is done, and then come its notes
abbrev pub completion : Declarations → Past → ℕ → OpId → List What
completion k past d op =
    What.Done op true ∷ note_results k (entry_by d (What.Done op true) ∷ past) d (notes_of (operation past op.0))

-- the end of core d's membership: where it has made the count zero, the group notifies, and then come the notes
abbrev pub notification : Declarations → Past → ℕ → Option Stamp → List What
notification k now d None = []
notification k now d (Some s) =
    if is_current now s.group.0 s.app && (count now s.group.0 == 0)
    then What.Notify s.group s.app
    ∷ note_results k (entry_by d (What.Notify s.group s.app) ∷ now) d (applied_notes now s.group.0)
    else []

-- ends of contexts

abbrev pub failed_after : What → Bool → Bool
failed_after (What.Fault _ (Fault.StartFailed op) scope) was = true
failed_after (What.Enter b) was = false
failed_after w was = was

-- whether core c's global start has failed: a fault in its context says so
abbrev pub has_failed : Past → ℕ → Bool
has_failed [] c = false
has_failed (e ∷ past) c = if e.core.0 == c then failed_after e.what (has_failed past c) else has_failed past c

-- after its last acknowledgement a start or a change is done
abbrev pub ack_tail : Declarations → Past → ℕ → OpId → List What
ack_tail k now d op = if all_acked k now op.0 then completion k now d op else []

abbrev pub global_start_tail : OpId → Bool → List What
global_start_tail op true = What.GlobalDone op false ∷ What.Done op false ∷ []
global_start_tail op false = What.GlobalDone op true ∷ []

-- what follows the end of a local start, a local stop, a global start, a global stop, or another context
abbrev pub end_tail : Declarations → Past → Past → ℕ → Option What → List What
end_tail k past now d (Some (What.Enter (Body.LocalStart op))) =
    What.Ack op ∷ ack_tail k (entry_by d (What.Ack op) ∷ now) d op
end_tail k past now d (Some (What.Enter (Body.LocalStop op))) = What.Ack op ∷ []
end_tail k past now d (Some (What.Enter (Body.GlobalStart op))) = global_start_tail op (has_failed past d)
end_tail k past now d (Some (What.Enter (Body.GlobalStop op))) =
    What.GlobalDone op true ∷ completion k (entry_by d (What.GlobalDone op true) ∷ now) d op
end_tail k past now d _ = outs k past (let_in past now (open_ticket past d)) ++ notification k now d (open_stamp past d)

-- the entries after this one of core d in its ask: now is the history with it
abbrev pub tail_of : Declarations → Past → Past → ℕ → What → List What
tail_of k past now d (What.Take q n t) = first_start now q.0 (taken k now d)
tail_of k past now d (What.Send h q t stamp) = outs k past (send_entering past d (What.Send h q t stamp))
tail_of k past now d (What.End lost cells) = end_tail k past now d (context past d)
tail_of k past now d What.EndOrdered = outs k past (let_in past now (open_ticket past d))
tail_of k past now d What.EndGroup = notification k now d (open_stamp past d)
tail_of k past now d (What.Ack op) = ack_tail k now d op
tail_of k past now d w = []

-- the entries that follow e in its ask, by the same core
abbrev pub tail : Declarations → Past → Entry → List Entry
tail k past e = entries_by e.core.0 (tail_of k past (e ∷ past) e.core.0 e.what)
