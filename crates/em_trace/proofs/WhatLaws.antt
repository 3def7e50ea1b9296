-- The laws of the entries.
use Rattle.std.proofs.Common.{◌≡◌, ℕ, Bool, true, false, List, [], ◌∷◌, ◌++◌, Option, Some, None, refl, sym, ap, subst, ◌∙◌}
use Rattle.std.specs.List.{AllByRecursion}
use Rattle.std.specs.Prelude.{codes}
use Rattle.em_log.specs.declared.ids.QueueId.{QueueId}
use Rattle.em_log.specs.declared.ids.EoId.{EoId}
use Rattle.em_log.specs.declared.ids.EventGroupId.{EventGroupId}
use Rattle.em_log.specs.declared.ids.PoolId.{PoolId}
use Rattle.em_log.specs.declared.ids.OpId.{OpId}
use Rattle.em_log.specs.declared.ids.Handle.{Handle}
use Rattle.em_log.specs.declared.ids.Cells.{Cells}
use Rattle.em_log.specs.declared.ids.Note.{Note}
use Rattle.em_log.specs.declared.ids.Stamp.{Stamp}
use Rattle.em_log.specs.declared.fault.Fault.{Fault}
use Rattle.em_log.specs.declared.fault.Call.{Call}
use Rattle.em_log.specs.declared.entry.Event.{Event}
use Rattle.em_log.specs.declared.entry.Body.{Body}
use Rattle.em_log.specs.declared.entry.Begun.{Begun}
use Rattle.em_log.specs.declared.entry.What.{What}
use Rattle.em_log.specs.declared.entry.What.TheVariants as what
use Rattle.em_trace.specs.declared.kind.EntryKind.{EntryKind}
use Rattle.em_trace.specs.declared.kind.EntryKind.TheVariants as kinds
use Rattle.em_trace.specs.Line.{Rest}
use Rattle.em_trace.specs.Form.{Form, given, ◌▷◌, ended, after, lookup, is_first}
use Rattle.em_trace.specs.Forms.{u8_form, u32_form, core_form, eight_form, stamp_form, ticket_form, stamped_form, some_cells_form, word_of_kind, kind_words, kind_form, what_tokens, what_behind, read_what, what_form, entry_form, enter_form, take_form, start_form, untake_form, end_form, endatomic_form, alloc_form, handle_alone_form, send_form, claim_form, dequeue_form, out_form, say_form, queue_alone_form, begin_form, done_form, op_alone_form, apply_form, increment_form, egroup_alone_form, notify_form, refusal_form}
use Rattle.em_trace.specs.Fitting.{IsU8, IsU16, IsU32, IsU64, AreWords, EventFits, StampFits, AreNotes, CellsFit, BodyFits, JobFits, FaultFits, OptionFits, WhatFits, EntryFits}
use Rattle.em_trace.proofs.Binds.{bind-some, given-some}
use Rattle.em_trace.proofs.Forms.{IsPlain, well_rest, Took, IsForm, Any, Nothing, mapped-form, ended-form, after-form, optional-form}
use Rattle.em_trace.proofs.Several.{one_of-form}
use Rattle.em_trace.proofs.Parts.{plain-word, then-law, u8-law, u32-law, u64-law, core-law, queue-law, pool-law, op-law, handle-law, egroup-law, stamp-law, event-law, received-law, content-law, notes-law, eight-law, cells-law, outcome-law, body-law, job-law, scope-law, call-law, fault-law}

-- ---- the ends of lines

abbrev Over : Unit {0} → Type 0
Over u = Unit {0}

lost-law : IsForm (after (codes "lost") u32_form) IsU32 Any
lost-law = after-form (codes "lost") u32_form IsU32 Any (plain-word (codes "lost") refl) u32-law

rest-law : IsForm (after (codes "rest") u8_form) IsU8 Any
rest-law = after-form (codes "rest") u8_form IsU8 Any (plain-word (codes "rest") refl) u8-law

ticket-end : IsForm (ticket_form ▷ ended) (λ p. OptionFits IsU32 p.0 × Unit {0}) Nothing
ticket-end = optional-form (codes "ticket") u32_form ended IsU32 Over Nothing (plain-word (codes "ticket") refl) u32-law ended-form (λ y h more none. rw none refl)

stamped-end : IsForm (stamped_form ▷ ended) (λ p. OptionFits StampFits p.0 × Unit {0}) Nothing
stamped-end = optional-form (codes "stamp") stamp_form ended StampFits Over Nothing (plain-word (codes "stamp") refl) stamp-law ended-form (λ y h more none. rw none refl)

cells-end : IsForm (some_cells_form ▷ ended) (λ p. OptionFits CellsFit p.0 × Unit {0}) Nothing
cells-end = optional-form (codes "cells") eight_form ended CellsFit Over Nothing (plain-word (codes "cells") refl) eight-law ended-form (λ y h more none. rw none refl)

no-ticket : (y : Option Stamp × Unit {0}) (more : List (List ℕ)) → more ≡ [] → is_first (codes "ticket") ((stamped_form ▷ ended).write y ++ more) ≡ false
no-ticket (None, u) more none = rw none refl
no-ticket (Some stamp, u) more none = refl

ticket-stamped-end : IsForm (ticket_form ▷ (stamped_form ▷ ended)) (λ p. OptionFits IsU32 p.0 × (OptionFits StampFits p.1.0 × Unit {0})) Nothing
ticket-stamped-end = optional-form (codes "ticket") u32_form (stamped_form ▷ ended) IsU32 (λ p. OptionFits StampFits p.0 × Unit {0}) Nothing (plain-word (codes "ticket") refl) u32-law stamped-end (λ y h more none. no-ticket y more none)

-- ---- what stands behind each word

abbrev enter-fits : Body × Unit {0} → Type 0
enter-fits p = BodyFits p.0 × Unit {0}

enter-law : IsForm enter_form enter-fits Nothing
enter-law = then-law body-law ended-form

abbrev take-fits : QueueId × (ℕ × (Option ℕ × Unit {0})) → Type 0
take-fits p = IsU16 p.0.0 × (IsU8 p.1.0 × (OptionFits IsU32 p.1.1.0 × Unit {0}))

take-law : IsForm take_form take-fits Nothing
take-law = then-law queue-law (then-law u8-law ticket-end)

abbrev start-fits : QueueId × (Event × (Option Stamp × Unit {0})) → Type 0
start-fits p = IsU16 p.0.0 × (EventFits p.1.0 × (OptionFits StampFits p.1.1.0 × Unit {0}))

start-law : IsForm start_form start-fits Nothing
start-law = then-law queue-law (then-law event-law stamped-end)

abbrev untake-fits : QueueId × (ℕ × Unit {0}) → Type 0
untake-fits p = IsU16 p.0.0 × (IsU8 p.1.0 × Unit {0})

untake-law : IsForm untake_form untake-fits Nothing
untake-law = then-law queue-law (then-law u8-law ended-form)

abbrev end-fits : ℕ × (Option Cells × Unit {0}) → Type 0
end-fits p = IsU32 p.0 × (OptionFits CellsFit p.1.0 × Unit {0})

end-law : IsForm end_form end-fits Nothing
end-law = then-law lost-law cells-end

abbrev endatomic-fits : ℕ × (Cells × Unit {0}) → Type 0
endatomic-fits p = IsU8 p.0 × (CellsFit p.1.0 × Unit {0})

endatomic-law : IsForm endatomic_form endatomic-fits Nothing
endatomic-law = then-law rest-law (then-law cells-law ended-form)

abbrev alloc-fits : PoolId × (Event × Unit {0}) → Type 0
alloc-fits p = IsU8 p.0.0 × (EventFits p.1.0 × Unit {0})

alloc-law : IsForm alloc_form alloc-fits Nothing
alloc-law = then-law pool-law (then-law event-law ended-form)

abbrev handle_alone-fits : Handle × Unit {0} → Type 0
handle_alone-fits p = IsU64 p.0.0 × Unit {0}

handle_alone-law : IsForm handle_alone_form handle_alone-fits Nothing
handle_alone-law = then-law handle-law ended-form

abbrev send-fits : Handle × (QueueId × (Option ℕ × (Option Stamp × Unit {0}))) → Type 0
send-fits p = IsU64 p.0.0 × (IsU16 p.1.0.0 × (OptionFits IsU32 p.1.1.0 × (OptionFits StampFits p.1.1.1.0 × Unit {0})))

send-law : IsForm send_form send-fits Nothing
send-law = then-law handle-law (then-law queue-law ticket-stamped-end)

abbrev claim-fits : Option Event × Unit {0} → Type 0
claim-fits p = OptionFits EventFits p.0 × Unit {0}

claim-law : IsForm claim_form claim-fits Nothing
claim-law = then-law received-law ended-form

abbrev dequeue-fits : QueueId × (Option Event × Unit {0}) → Type 0
dequeue-fits p = IsU16 p.0.0 × (OptionFits EventFits p.1.0 × Unit {0})

dequeue-law : IsForm dequeue_form dequeue-fits Nothing
dequeue-law = then-law queue-law (then-law received-law ended-form)

abbrev out-fits : QueueId × ((ℕ × List ℕ) × Unit {0}) → Type 0
out-fits p = IsU16 p.0.0 × ((IsU32 p.1.0.0 × AreWords p.1.0.1) × Unit {0})

out-law : IsForm out_form out-fits Nothing
out-law = then-law queue-law (then-law content-law ended-form)

abbrev say-fits : ℕ × Unit {0} → Type 0
say-fits p = IsU64 p.0 × Unit {0}

say-law : IsForm say_form say-fits Nothing
say-law = then-law u64-law ended-form

abbrev queue_alone-fits : QueueId × Unit {0} → Type 0
queue_alone-fits p = IsU16 p.0.0 × Unit {0}

queue_alone-law : IsForm queue_alone_form queue_alone-fits Nothing
queue_alone-law = then-law queue-law ended-form

abbrev begin-fits : OpId × (Begun × (List Note × Unit {0})) → Type 0
begin-fits p = IsU16 p.0.0 × (JobFits p.1.0 × (AreNotes p.1.1.0 × Unit {0}))

begin-law : IsForm begin_form begin-fits Nothing
begin-law = then-law op-law (then-law job-law (then-law notes-law ended-form))

abbrev done-fits : OpId × (Bool × Unit {0}) → Type 0
done-fits p = IsU16 p.0.0 × (Unit {0} × Unit {0})

done-law : IsForm done_form done-fits Nothing
done-law = then-law op-law (then-law outcome-law ended-form)

abbrev op_alone-fits : OpId × Unit {0} → Type 0
op_alone-fits p = IsU16 p.0.0 × Unit {0}

op_alone-law : IsForm op_alone_form op_alone-fits Nothing
op_alone-law = then-law op-law ended-form

abbrev apply-fits : EventGroupId × (ℕ × (ℕ × (List Note × Unit {0}))) → Type 0
apply-fits p = IsU8 p.0.0 × (IsU32 p.1.0 × (IsU64 p.1.1.0 × (AreNotes p.1.1.1.0 × Unit {0})))

apply-law : IsForm apply_form apply-fits Nothing
apply-law = then-law egroup-law (then-law u32-law (then-law u64-law (then-law notes-law ended-form)))

abbrev increment-fits : EventGroupId × (ℕ × Unit {0}) → Type 0
increment-fits p = IsU8 p.0.0 × (IsU64 p.1.0 × Unit {0})

increment-law : IsForm increment_form increment-fits Nothing
increment-law = then-law egroup-law (then-law u64-law ended-form)

abbrev egroup_alone-fits : EventGroupId × Unit {0} → Type 0
egroup_alone-fits p = IsU8 p.0.0 × Unit {0}

egroup_alone-law : IsForm egroup_alone_form egroup_alone-fits Nothing
egroup_alone-law = then-law egroup-law ended-form

abbrev notify-fits : EventGroupId × (ℕ × Unit {0}) → Type 0
notify-fits p = IsU8 p.0.0 × (IsU32 p.1.0 × Unit {0})

notify-law : IsForm notify_form notify-fits Nothing
notify-law = then-law egroup-law (then-law u32-law ended-form)

abbrev refusal-fits : Call × (Fault × (Option EoId × Unit {0})) → Type 0
refusal-fits p = Unit {0} × (FaultFits p.1.0 × (OptionFits (λ eo. IsU8 eo.0) p.1.1.0 × Unit {0}))

refusal-law : IsForm refusal_form refusal-fits Nothing
refusal-law = then-law call-law (then-law fault-law (then-law scope-law ended-form))

-- ---- the words

kind-found : (kind : EntryKind) → lookup (word_of_kind kind) kind_words ≡ Some kind
kind-found kinds.Enter = refl
kind-found kinds.Take = refl
kind-found kinds.Start = refl
kind-found kinds.Untake = refl
kind-found kinds.End = refl
kind-found kinds.EndAtomic = refl
kind-found kinds.EndOrdered = refl
kind-found kinds.EndGroup = refl
kind-found kinds.Alloc = refl
kind-found kinds.Free = refl
kind-found kinds.Send = refl
kind-found kinds.Keep = refl
kind-found kinds.Claim = refl
kind-found kinds.Dequeue = refl
kind-found kinds.Out = refl
kind-found kinds.Say = refl
kind-found kinds.Enable = refl
kind-found kinds.Disable = refl
kind-found kinds.Begin = refl
kind-found kinds.GlobalDone = refl
kind-found kinds.Ack = refl
kind-found kinds.Done = refl
kind-found kinds.Apply = refl
kind-found kinds.Increment = refl
kind-found kinds.Abort = refl
kind-found kinds.Notify = refl
kind-found kinds.Fault = refl

kind-plain : (kind : EntryKind) → IsPlain (word_of_kind kind)
kind-plain kinds.Enter = plain-word (word_of_kind kinds.Enter) refl
kind-plain kinds.Take = plain-word (word_of_kind kinds.Take) refl
kind-plain kinds.Start = plain-word (word_of_kind kinds.Start) refl
kind-plain kinds.Untake = plain-word (word_of_kind kinds.Untake) refl
kind-plain kinds.End = plain-word (word_of_kind kinds.End) refl
kind-plain kinds.EndAtomic = plain-word (word_of_kind kinds.EndAtomic) refl
kind-plain kinds.EndOrdered = plain-word (word_of_kind kinds.EndOrdered) refl
kind-plain kinds.EndGroup = plain-word (word_of_kind kinds.EndGroup) refl
kind-plain kinds.Alloc = plain-word (word_of_kind kinds.Alloc) refl
kind-plain kinds.Free = plain-word (word_of_kind kinds.Free) refl
kind-plain kinds.Send = plain-word (word_of_kind kinds.Send) refl
kind-plain kinds.Keep = plain-word (word_of_kind kinds.Keep) refl
kind-plain kinds.Claim = plain-word (word_of_kind kinds.Claim) refl
kind-plain kinds.Dequeue = plain-word (word_of_kind kinds.Dequeue) refl
kind-plain kinds.Out = plain-word (word_of_kind kinds.Out) refl
kind-plain kinds.Say = plain-word (word_of_kind kinds.Say) refl
kind-plain kinds.Enable = plain-word (word_of_kind kinds.Enable) refl
kind-plain kinds.Disable = plain-word (word_of_kind kinds.Disable) refl
kind-plain kinds.Begin = plain-word (word_of_kind kinds.Begin) refl
kind-plain kinds.GlobalDone = plain-word (word_of_kind kinds.GlobalDone) refl
kind-plain kinds.Ack = plain-word (word_of_kind kinds.Ack) refl
kind-plain kinds.Done = plain-word (word_of_kind kinds.Done) refl
kind-plain kinds.Apply = plain-word (word_of_kind kinds.Apply) refl
kind-plain kinds.Increment = plain-word (word_of_kind kinds.Increment) refl
kind-plain kinds.Abort = plain-word (word_of_kind kinds.Abort) refl
kind-plain kinds.Notify = plain-word (word_of_kind kinds.Notify) refl
kind-plain kinds.Fault = plain-word (word_of_kind kinds.Fault) refl

kind-law : IsForm kind_form (λ kind. Unit {0}) Any
kind-law = one_of-form kind_words word_of_kind (record { found = kind-found; named = (refl, (refl, (refl, (refl, (refl, (refl, (refl, (refl, (refl, (refl, (refl, (refl, (refl, (refl, (refl, (refl, (refl, (refl, (refl, (refl, (refl, (refl, (refl, (refl, (refl, (refl, (refl, tt))))))))))))))))))))))))))); plain = kind-plain })

-- ---- written and read again

behind-again : {A : Type 0} (kind : EntryKind) (f : Form A) (F : A → Type 0) (to : A → What) → IsForm f F Nothing → ((rest : Rest) → what_behind kind rest ≡ given to (f.read rest)) → (p : A) → F p → (more : List (List ℕ)) → more ≡ [] → read_what (well_rest (word_of_kind kind ∷ (f.write p ++ more))) ≡ Some (to p, well_rest more)
unfolding read_what
behind-again kind f F to law reads p fits more none =
    rw (kind-law.again kind tt (f.write p ++ more) tt, reads (well_rest (f.write p ++ more)), law.again p fits more none) refl

what-again : (w : What) → WhatFits w → (more : List (List ℕ)) → more ≡ [] → read_what (well_rest (what_tokens w ++ more)) ≡ Some (w, well_rest more)
unfolding what_behind
what-again (what.Enter body) h more none = behind-again kinds.Enter enter_form enter-fits (λ p. what.Enter p.0) enter-law (λ rest. refl) (body, tt) (h, tt) more none
what-again (what.Take queue n ticket) h more none = behind-again kinds.Take take_form take-fits (λ p. what.Take p.0 p.1.0 p.1.1.0) take-law (λ rest. refl) (queue, (n, (ticket, tt))) (h.0, (h.1.0, (h.1.1, tt))) more none
what-again (what.Start queue event stamp) h more none = behind-again kinds.Start start_form start-fits (λ p. what.Start p.0 p.1.0 p.1.1.0) start-law (λ rest. refl) (queue, (event, (stamp, tt))) (h.0, (h.1.0, (h.1.1, tt))) more none
what-again (what.Untake queue n) h more none = behind-again kinds.Untake untake_form untake-fits (λ p. what.Untake p.0 p.1.0) untake-law (λ rest. refl) (queue, (n, tt)) (h.0, (h.1, tt)) more none
what-again (what.End lost cells) h more none = behind-again kinds.End end_form end-fits (λ p. what.End p.0 p.1.0) end-law (λ rest. refl) (lost, (cells, tt)) (h.0, (h.1, tt)) more none
what-again (what.EndAtomic rest cells) h more none = behind-again kinds.EndAtomic endatomic_form endatomic-fits (λ p. what.EndAtomic p.0 p.1.0) endatomic-law (λ rest. refl) (rest, (cells, tt)) (h.0, (h.1, tt)) more none
what-again what.EndOrdered h more none = behind-again kinds.EndOrdered ended Over (λ p. what.EndOrdered) ended-form (λ rest. refl) tt tt more none
what-again what.EndGroup h more none = behind-again kinds.EndGroup ended Over (λ p. what.EndGroup) ended-form (λ rest. refl) tt tt more none
what-again (what.Alloc pool event) h more none = behind-again kinds.Alloc alloc_form alloc-fits (λ p. what.Alloc p.0 p.1.0) alloc-law (λ rest. refl) (pool, (event, tt)) (h.0, (h.1, tt)) more none
what-again (what.Free handle) h more none = behind-again kinds.Free handle_alone_form handle_alone-fits (λ p. what.Free p.0) handle_alone-law (λ rest. refl) (handle, tt) (h, tt) more none
what-again (what.Send handle queue ticket stamp) h more none = behind-again kinds.Send send_form send-fits (λ p. what.Send p.0 p.1.0 p.1.1.0 p.1.1.1.0) send-law (λ rest. refl) (handle, (queue, (ticket, (stamp, tt)))) (h.0, (h.1.0, (h.1.1.0, (h.1.1.1, tt)))) more none
what-again (what.Keep handle) h more none = behind-again kinds.Keep handle_alone_form handle_alone-fits (λ p. what.Keep p.0) handle_alone-law (λ rest. refl) (handle, tt) (h, tt) more none
what-again (what.Claim event) h more none = behind-again kinds.Claim claim_form claim-fits (λ p. what.Claim p.0) claim-law (λ rest. refl) (event, tt) (h, tt) more none
what-again (what.Dequeue queue event) h more none = behind-again kinds.Dequeue dequeue_form dequeue-fits (λ p. what.Dequeue p.0 p.1.0) dequeue-law (λ rest. refl) (queue, (event, tt)) (h.0, (h.1, tt)) more none
what-again (what.Out queue kind words) h more none = behind-again kinds.Out out_form out-fits (λ p. what.Out p.0 p.1.0.0 p.1.0.1) out-law (λ rest. refl) (queue, ((kind, words), tt)) (h.0, (h.1, tt)) more none
what-again (what.Say value) h more none = behind-again kinds.Say say_form say-fits (λ p. what.Say p.0) say-law (λ rest. refl) (value, tt) (h, tt) more none
what-again (what.Enable queue) h more none = behind-again kinds.Enable queue_alone_form queue_alone-fits (λ p. what.Enable p.0) queue_alone-law (λ rest. refl) (queue, tt) (h, tt) more none
what-again (what.Disable queue) h more none = behind-again kinds.Disable queue_alone_form queue_alone-fits (λ p. what.Disable p.0) queue_alone-law (λ rest. refl) (queue, tt) (h, tt) more none
what-again (what.Begin op job notes) h more none = behind-again kinds.Begin begin_form begin-fits (λ p. what.Begin p.0 p.1.0 p.1.1.0) begin-law (λ rest. refl) (op, (job, (notes, tt))) (h.0, (h.1.0, (h.1.1, tt))) more none
what-again (what.GlobalDone op ok) h more none = behind-again kinds.GlobalDone done_form done-fits (λ p. what.GlobalDone p.0 p.1.0) done-law (λ rest. refl) (op, (ok, tt)) (h, (tt, tt)) more none
what-again (what.Ack op) h more none = behind-again kinds.Ack op_alone_form op_alone-fits (λ p. what.Ack p.0) op_alone-law (λ rest. refl) (op, tt) (h, tt) more none
what-again (what.Done op ok) h more none = behind-again kinds.Done done_form done-fits (λ p. what.Done p.0 p.1.0) done-law (λ rest. refl) (op, (ok, tt)) (h, (tt, tt)) more none
what-again (what.Apply group app count notes) h more none = behind-again kinds.Apply apply_form apply-fits (λ p. what.Apply p.0 p.1.0 p.1.1.0 p.1.1.1.0) apply-law (λ rest. refl) (group, (app, (count, (notes, tt)))) (h.0, (h.1.0, (h.1.1.0, (h.1.1.1, tt)))) more none
what-again (what.Increment group n) h more none = behind-again kinds.Increment increment_form increment-fits (λ p. what.Increment p.0 p.1.0) increment-law (λ rest. refl) (group, (n, tt)) (h.0, (h.1, tt)) more none
what-again (what.Abort group) h more none = behind-again kinds.Abort egroup_alone_form egroup_alone-fits (λ p. what.Abort p.0) egroup_alone-law (λ rest. refl) (group, tt) (h, tt) more none
what-again (what.Notify group app) h more none = behind-again kinds.Notify notify_form notify-fits (λ p. what.Notify p.0 p.1.0) notify-law (λ rest. refl) (group, (app, tt)) (h.0, (h.1, tt)) more none
what-again (what.Fault call fault scope) h more none = behind-again kinds.Fault refusal_form refusal-fits (λ p. what.Fault p.0 p.1.0 p.1.1.0) refusal-law (λ rest. refl) (call, (fault, (scope, tt))) (tt, (h.0, (h.1, tt))) more none

what-plain : (w : What) → WhatFits w → AllByRecursion IsPlain (what_tokens w)
what-plain (what.Enter body) h = (kind-plain kinds.Enter, enter-law.plain (body, tt) (h, tt))
what-plain (what.Take queue n ticket) h = (kind-plain kinds.Take, take-law.plain (queue, (n, (ticket, tt))) (h.0, (h.1.0, (h.1.1, tt))))
what-plain (what.Start queue event stamp) h = (kind-plain kinds.Start, start-law.plain (queue, (event, (stamp, tt))) (h.0, (h.1.0, (h.1.1, tt))))
what-plain (what.Untake queue n) h = (kind-plain kinds.Untake, untake-law.plain (queue, (n, tt)) (h.0, (h.1, tt)))
what-plain (what.End lost cells) h = (kind-plain kinds.End, end-law.plain (lost, (cells, tt)) (h.0, (h.1, tt)))
what-plain (what.EndAtomic rest cells) h = (kind-plain kinds.EndAtomic, endatomic-law.plain (rest, (cells, tt)) (h.0, (h.1, tt)))
what-plain what.EndOrdered h = (kind-plain kinds.EndOrdered, ended-form.plain tt tt)
what-plain what.EndGroup h = (kind-plain kinds.EndGroup, ended-form.plain tt tt)
what-plain (what.Alloc pool event) h = (kind-plain kinds.Alloc, alloc-law.plain (pool, (event, tt)) (h.0, (h.1, tt)))
what-plain (what.Free handle) h = (kind-plain kinds.Free, handle_alone-law.plain (handle, tt) (h, tt))
what-plain (what.Send handle queue ticket stamp) h = (kind-plain kinds.Send, send-law.plain (handle, (queue, (ticket, (stamp, tt)))) (h.0, (h.1.0, (h.1.1.0, (h.1.1.1, tt)))))
what-plain (what.Keep handle) h = (kind-plain kinds.Keep, handle_alone-law.plain (handle, tt) (h, tt))
what-plain (what.Claim event) h = (kind-plain kinds.Claim, claim-law.plain (event, tt) (h, tt))
what-plain (what.Dequeue queue event) h = (kind-plain kinds.Dequeue, dequeue-law.plain (queue, (event, tt)) (h.0, (h.1, tt)))
what-plain (what.Out queue kind words) h = (kind-plain kinds.Out, out-law.plain (queue, ((kind, words), tt)) (h.0, (h.1, tt)))
what-plain (what.Say value) h = (kind-plain kinds.Say, say-law.plain (value, tt) (h, tt))
what-plain (what.Enable queue) h = (kind-plain kinds.Enable, queue_alone-law.plain (queue, tt) (h, tt))
what-plain (what.Disable queue) h = (kind-plain kinds.Disable, queue_alone-law.plain (queue, tt) (h, tt))
what-plain (what.Begin op job notes) h = (kind-plain kinds.Begin, begin-law.plain (op, (job, (notes, tt))) (h.0, (h.1.0, (h.1.1, tt))))
what-plain (what.GlobalDone op ok) h = (kind-plain kinds.GlobalDone, done-law.plain (op, (ok, tt)) (h, (tt, tt)))
what-plain (what.Ack op) h = (kind-plain kinds.Ack, op_alone-law.plain (op, tt) (h, tt))
what-plain (what.Done op ok) h = (kind-plain kinds.Done, done-law.plain (op, (ok, tt)) (h, (tt, tt)))
what-plain (what.Apply group app count notes) h = (kind-plain kinds.Apply, apply-law.plain (group, (app, (count, (notes, tt)))) (h.0, (h.1.0, (h.1.1.0, (h.1.1.1, tt)))))
what-plain (what.Increment group n) h = (kind-plain kinds.Increment, increment-law.plain (group, (n, tt)) (h.0, (h.1, tt)))
what-plain (what.Abort group) h = (kind-plain kinds.Abort, egroup_alone-law.plain (group, tt) (h, tt))
what-plain (what.Notify group app) h = (kind-plain kinds.Notify, notify-law.plain (group, (app, tt)) (h.0, (h.1, tt)))
what-plain (what.Fault call fault scope) h = (kind-plain kinds.Fault, refusal-law.plain (call, (fault, (scope, tt))) (tt, (h.0, (h.1, tt))))

-- ---- read, and so written

record TookBehind (kind : EntryKind) (s : Rest) (w : What) (s' : Rest) : Type 0 where
  tokens : word_of_kind kind ∷ s.tokens ≡ what_tokens w ++ s'.tokens
  well : s.well ≡ true
  fits : WhatFits w
  ends : s'.tokens ≡ []

took-behind : {A : Type 0} (kind : EntryKind) (f : Form A) (F : A → Type 0) (to : A → What) → IsForm f F Nothing → ((p : A) → what_tokens (to p) ≡ word_of_kind kind ∷ f.write p) → ((p : A) → F p → WhatFits (to p)) → (s : Rest) (w : What) (s' : Rest) → given to (f.read s) ≡ Some (w, s') → s'.well ≡ true → TookBehind kind s w s'
took-behind kind f F to law tokens fits s w s' e good =
    let p = given-some to (f.read s) w s' e in
    let t = law.took s p.0 s' p.1 good in
    let all : word_of_kind kind ∷ s.tokens ≡ what_tokens (to p.0) ++ s'.tokens = ap (λ ts. word_of_kind kind ∷ ts) t.tokens ∙ ap (λ ts. ts ++ s'.tokens) (sym (tokens p.0)) in
    subst (λ z. TookBehind kind s z s') p.2 (record { tokens = all; well = t.well; fits = fits p.0 t.fits; ends = t.ends })

took-kind : (kind : EntryKind) (s : Rest) (w : What) (s' : Rest) → what_behind kind s ≡ Some (w, s') → s'.well ≡ true → TookBehind kind s w s'
unfolding what_behind
took-kind kinds.Enter s w s' e good = took-behind kinds.Enter enter_form enter-fits (λ p. what.Enter p.0) enter-law (λ p. refl) (λ p h. h.0) s w s' e good
took-kind kinds.Take s w s' e good = took-behind kinds.Take take_form take-fits (λ p. what.Take p.0 p.1.0 p.1.1.0) take-law (λ p. refl) (λ p h. (h.0, (h.1.0, h.1.1.0))) s w s' e good
took-kind kinds.Start s w s' e good = took-behind kinds.Start start_form start-fits (λ p. what.Start p.0 p.1.0 p.1.1.0) start-law (λ p. refl) (λ p h. (h.0, (h.1.0, h.1.1.0))) s w s' e good
took-kind kinds.Untake s w s' e good = took-behind kinds.Untake untake_form untake-fits (λ p. what.Untake p.0 p.1.0) untake-law (λ p. refl) (λ p h. (h.0, h.1.0)) s w s' e good
took-kind kinds.End s w s' e good = took-behind kinds.End end_form end-fits (λ p. what.End p.0 p.1.0) end-law (λ p. refl) (λ p h. (h.0, h.1.0)) s w s' e good
took-kind kinds.EndAtomic s w s' e good = took-behind kinds.EndAtomic endatomic_form endatomic-fits (λ p. what.EndAtomic p.0 p.1.0) endatomic-law (λ p. refl) (λ p h. (h.0, h.1.0)) s w s' e good
took-kind kinds.EndOrdered s w s' e good = took-behind kinds.EndOrdered ended Over (λ p. what.EndOrdered) ended-form (λ p. refl) (λ p h. tt) s w s' e good
took-kind kinds.EndGroup s w s' e good = took-behind kinds.EndGroup ended Over (λ p. what.EndGroup) ended-form (λ p. refl) (λ p h. tt) s w s' e good
took-kind kinds.Alloc s w s' e good = took-behind kinds.Alloc alloc_form alloc-fits (λ p. what.Alloc p.0 p.1.0) alloc-law (λ p. refl) (λ p h. (h.0, h.1.0)) s w s' e good
took-kind kinds.Free s w s' e good = took-behind kinds.Free handle_alone_form handle_alone-fits (λ p. what.Free p.0) handle_alone-law (λ p. refl) (λ p h. h.0) s w s' e good
took-kind kinds.Send s w s' e good = took-behind kinds.Send send_form send-fits (λ p. what.Send p.0 p.1.0 p.1.1.0 p.1.1.1.0) send-law (λ p. refl) (λ p h. (h.0, (h.1.0, (h.1.1.0, h.1.1.1.0)))) s w s' e good
took-kind kinds.Keep s w s' e good = took-behind kinds.Keep handle_alone_form handle_alone-fits (λ p. what.Keep p.0) handle_alone-law (λ p. refl) (λ p h. h.0) s w s' e good
took-kind kinds.Claim s w s' e good = took-behind kinds.Claim claim_form claim-fits (λ p. what.Claim p.0) claim-law (λ p. refl) (λ p h. h.0) s w s' e good
took-kind kinds.Dequeue s w s' e good = took-behind kinds.Dequeue dequeue_form dequeue-fits (λ p. what.Dequeue p.0 p.1.0) dequeue-law (λ p. refl) (λ p h. (h.0, h.1.0)) s w s' e good
took-kind kinds.Out s w s' e good = took-behind kinds.Out out_form out-fits (λ p. what.Out p.0 p.1.0.0 p.1.0.1) out-law (λ p. refl) (λ p h. (h.0, h.1.0)) s w s' e good
took-kind kinds.Say s w s' e good = took-behind kinds.Say say_form say-fits (λ p. what.Say p.0) say-law (λ p. refl) (λ p h. h.0) s w s' e good
took-kind kinds.Enable s w s' e good = took-behind kinds.Enable queue_alone_form queue_alone-fits (λ p. what.Enable p.0) queue_alone-law (λ p. refl) (λ p h. h.0) s w s' e good
took-kind kinds.Disable s w s' e good = took-behind kinds.Disable queue_alone_form queue_alone-fits (λ p. what.Disable p.0) queue_alone-law (λ p. refl) (λ p h. h.0) s w s' e good
took-kind kinds.Begin s w s' e good = took-behind kinds.Begin begin_form begin-fits (λ p. what.Begin p.0 p.1.0 p.1.1.0) begin-law (λ p. refl) (λ p h. (h.0, (h.1.0, h.1.1.0))) s w s' e good
took-kind kinds.GlobalDone s w s' e good = took-behind kinds.GlobalDone done_form done-fits (λ p. what.GlobalDone p.0 p.1.0) done-law (λ p. refl) (λ p h. h.0) s w s' e good
took-kind kinds.Ack s w s' e good = took-behind kinds.Ack op_alone_form op_alone-fits (λ p. what.Ack p.0) op_alone-law (λ p. refl) (λ p h. h.0) s w s' e good
took-kind kinds.Done s w s' e good = took-behind kinds.Done done_form done-fits (λ p. what.Done p.0 p.1.0) done-law (λ p. refl) (λ p h. h.0) s w s' e good
took-kind kinds.Apply s w s' e good = took-behind kinds.Apply apply_form apply-fits (λ p. what.Apply p.0 p.1.0 p.1.1.0 p.1.1.1.0) apply-law (λ p. refl) (λ p h. (h.0, (h.1.0, (h.1.1.0, h.1.1.1.0)))) s w s' e good
took-kind kinds.Increment s w s' e good = took-behind kinds.Increment increment_form increment-fits (λ p. what.Increment p.0 p.1.0) increment-law (λ p. refl) (λ p h. (h.0, h.1.0)) s w s' e good
took-kind kinds.Abort s w s' e good = took-behind kinds.Abort egroup_alone_form egroup_alone-fits (λ p. what.Abort p.0) egroup_alone-law (λ p. refl) (λ p h. h.0) s w s' e good
took-kind kinds.Notify s w s' e good = took-behind kinds.Notify notify_form notify-fits (λ p. what.Notify p.0 p.1.0) notify-law (λ p. refl) (λ p h. (h.0, h.1.0)) s w s' e good
took-kind kinds.Fault s w s' e good = took-behind kinds.Fault refusal_form refusal-fits (λ p. what.Fault p.0 p.1.0 p.1.1.0) refusal-law (λ p. refl) (λ p h. (h.1.0, h.1.1.0)) s w s' e good

what-took : (s : Rest) (w : What) (s' : Rest) → read_what s ≡ Some (w, s') → s'.well ≡ true → Took what_form WhatFits Nothing s w s'
unfolding read_what
what-took s w s' e good =
    let k = bind-some (kind_form.read s) (λ k. what_behind k.0 k.1) (w, s') e in
    let t = took-kind k.0.0 k.0.1 w s' k.2 good in
    let h = kind-law.took s k.0.0 k.0.1 k.1 t.well in
    record { tokens = h.tokens ∙ t.tokens; well = h.well; fits = t.fits; ends = t.ends }

what-law : IsForm what_form WhatFits Nothing
what-law = record { again = what-again; took = what-took; plain = what-plain }

pub entry-law : IsForm entry_form EntryFits Nothing
entry-law = mapped-form (λ p. record { core = p.0; what = p.1 }) (λ e. (e.core, e.what)) (core_form ▷ what_form) (λ p. IsU8 p.0.0 × WhatFits p.1) EntryFits Nothing (then-law core-law what-law) (λ y h. h) (λ y. refl) (λ x. refl) (λ x h. h)

pub entries_law : (n : ℕ) → n ≡ n
entries_law n = refl
