-- Outputs and lost notes are no more than what was sent and handed in.
use Rattle.std.proofs.Common.{◌≡◌, ℕ, suc, ◌+◌, ◌≤◌, ◌==◌, Bool, true, false, ◌&&◌, List, [], ◌∷◌, ◌++◌, length, map, Option, Some, None, refl, sym, ◌∙◌, subst, ap, if◌then◌else◌, arith}
use Rattle.em_bounds.proofs.Whats.{whats, whats-by}
use Rattle.std.proofs.lemmas.List.{length-map, length-append, append-nil, append_assoc}
use Rattle.std.proofs.lemmas.Bool.{eq-eqb}
use Rattle.em_log.specs.declared.declarations.Declarations.{Declarations}
use Rattle.em_log.specs.declared.ask.Ask.{Ask}
use Rattle.em_log.specs.declared.entry.Entry.{Entry}
use Rattle.em_log.specs.declared.entry.What.{What}
use Rattle.em_log.specs.declared.entry.Body.{Body}
use Rattle.em_log.specs.declared.fault.Fault.{Fault}
use Rattle.em_log.specs.declared.fault.Call.{Call}
use Rattle.em_log.specs.declared.ids.Limits.{Limits}
use Rattle.em_log.specs.declared.ids.OpId.{OpId}
use Rattle.em_log.specs.declared.ids.EventGroupId.{EventGroupId}
use Rattle.em_log.specs.declared.ids.Note.{Note}
use Rattle.em_log.specs.declared.ids.Stamp.{Stamp}
use Rattle.em_log.specs.declared.ids.Cells.{Cells}
use Rattle.em_log.specs.History.{Past, entry_by, has, note_words}
use Rattle.em_log.specs.Declarations.{kind_of, is_output}
use Rattle.em_log.specs.Contexts.{context}
use Rattle.em_log.specs.Handles.{Minting, minting, Spending, spends, spent_by, spending}
use Rattle.em_log.specs.Operations.{operation, notes_of, done, all_acked}
use Rattle.em_log.specs.States.{closed}
use Rattle.em_log.specs.Order.{Sent, open_ticket, let_in}
use Rattle.em_log.specs.Arrivals.{Item, note_sent, note_entering, send_entering}
use Rattle.em_log.specs.Places.{application_end, taken}
use Rattle.em_log.specs.EventGroups.{applications, busy, applied_notes, count, is_current, open_stamp}
use Rattle.em_log.specs.Leads.{call_of, refusal, own, refused_or, scope, lead}
use Rattle.em_log.specs.Tails.{first_start, out_of, out, outs, note_result, note_results, completion, notification, has_failed, ack_tail, global_start_tail, end_tail, tail_of, tail}
use Rattle.em_log.specs.Lawful.{due, due_after, Begins, Boots, Steps, Takes, Starts, Untakes, Asks, IsNext, AllAllowed}
use Rattle.em_moments.proofs.Asked.{and-true}
use Rattle.em_moments.proofs.Steps.{Owes, OwesAck, OwesGlobalStart, OwesLocalStart, OwesLocalStop, OwesGlobalStop, step-owes}
use Rattle.em_moments.proofs.Moments.{Moment, allowed-moment}
use Rattle.em_laws.proofs.Cores.{eqb-eq}
use Rattle.em_laws.proofs.Counts.{occ, times, occ-append, times-append, has-occ}
use Rattle.em_laws.proofs.Dones.{done-completes}
use Rattle.em_laws.proofs.Respects.{DoneNow, done-now}
use Rattle.em_laws.proofs.Spent.{spending-kept, notes-spent, applied-spent, unended}
use Rattle.em_laws.proofs.Entering.{times_allowed, times_allowed_by, times_allowed_by-le, times_allowed-grows, one_if_ok, gains-nothing, gains-send, gains-let_in, no-occ}
use Rattle.em_bounds.proofs.Lengths.{shorter}
use Rattle.em_bounds.proofs.Payments.{total}

-- what comes at an entry: what enters, and the notes of a completion whose queue is closed

abbrev pub coming : Declarations → Past → ℕ → What → List Sent
coming k past d (What.Send h q t st) = send_entering past d (What.Send h q t st)
coming k past d What.EndOrdered = let_in past (entry_by d What.EndOrdered ∷ past) (open_ticket past d)
coming k past d (What.End lost cells) = let_in past (entry_by d (What.End lost cells) ∷ past) (open_ticket past d)
coming k past d (What.Done op true) = map (note_sent d) (notes_of (operation past op.0))
coming k past d (What.Notify g a) = map (note_sent d) (applied_notes past g.0)
coming k past d w = []

abbrev pub all_came : Declarations → Past → List Sent
all_came k [] = []
all_came k (e ∷ past) = coming k past e.core.0 e.what ++ all_came k past

notes-times : (d h : ℕ) (ns : List Note) → times h (map (note_sent d) ns) ≡ occ h (note_words ns)
notes-times d h [] = refl
notes-times d h (n ∷ ns) = ap (λ i. if n.word == h then suc i else i) (notes-times d h ns)

abbrev Comes : Declarations → Past → ℕ → What → ℕ → Type 0
Comes k past d w h =
    times h (coming k past d w) + times_allowed past (spending past h) ≤ times_allowed (entry_by d w ∷ past) (spending (entry_by d w ∷ past) h)

comes-done : (k : Declarations) (l : Limits) (past : Past) (d : ℕ) (op : OpId) (h : ℕ) → AllAllowed k l past → Moment k l past d (What.Done op true) → Comes k past d (What.Done op true) h
comes-done k l past d op h all m = by_words (has (note_words q.started.notes) h) refl
  where
    w : What
    w = What.Done op true

    now : Past
    now = entry_by d w ∷ past

    q : DoneNow past op.0
    q = done-now k past op.0 true (done-completes k l past d op true all m)

    lets : times h (map (note_sent d) (notes_of (operation past op.0))) ≡ occ h (note_words q.started.notes)
    lets = rw q.begun (notes-times d h q.started.notes)

    by_words : (b : Bool) → has (note_words q.started.notes) h ≡ b → Comes k past d w h
    by_words false at =
        let nothing = no-occ h (note_words q.started.notes) at in
        let few = lets in
        let more = times_allowed-grows k l past d w h all m in omega (arith, nothing, few, more)
    by_words true at =
        let ns = notes-spent k l past all op.0 q.started q.begun in
        let b = ns.spent h at in
        let once = ns.once h in
        let few = lets in
        let undone : done past b.op.0 ≡ None = ap (done past) b.number ∙ q.undone in
        let done_now : done now b.op.0 ≡ Some true = rw (eq-eqb op.0 b.op.0 (sym b.number)) refl in
        let before : times_allowed past (spending past h) ≡ 0 = ap (times_allowed past) b.spent ∙ ap one_if_ok undone in
        let after : times_allowed now (spending now h) ≡ 1 = ap (times_allowed now) (spending-kept past d w h _ b.spent) ∙ ap one_if_ok done_now in
        omega (arith, once, few, before, after)

comes-notify : (k : Declarations) (l : Limits) (past : Past) (d : ℕ) (g : EventGroupId) (a h : ℕ) → AllAllowed k l past → Moment k l past d (What.Notify g a) → Comes k past d (What.Notify g a) h
comes-notify k l past d g a h all m = by_words (has (note_words (applied_notes past g.0)) h) refl
  where
    w : What
    w = What.Notify g a

    now : Past
    now = entry_by d w ∷ past

    lets : times h (map (note_sent d) (applied_notes past g.0)) ≡ occ h (note_words (applied_notes past g.0))
    lets = notes-times d h (applied_notes past g.0)

    by_words : (b : Bool) → has (note_words (applied_notes past g.0)) h ≡ b → Comes k past d w h
    by_words false at =
        let nothing = no-occ h (note_words (applied_notes past g.0)) at in
        let few = lets in
        let more = times_allowed-grows k l past d w h all m in omega (arith, nothing, few, more)
    by_words true at =
        let ns = applied-spent k l past all g.0 in
        let b = ns.spent h at in
        let once = ns.once h in
        let few = lets in
        let on = and-true (busy past g.0) (applications past g.0 == a) m.current in
        let number : applications past g.0 ≡ a = eqb-eq _ a on.1 in
        let unended_now : application_end past g.0 (applications past g.0) ≡ None = (unended k l past all g.0 (applications past g.0)).current on.0 refl in
        let none : application_end past b.group.0 b.app ≡ None = ap (λ (i : ℕ). application_end past i b.app) b.same_group ∙ ap (application_end past g.0) b.number ∙ unended_now in
        let ends : application_end now b.group.0 b.app ≡ Some true = rw (eq-eqb g.0 b.group.0 (sym b.same_group), eq-eqb a b.app (sym (b.number ∙ number))) refl in
        let before : times_allowed past (spending past h) ≡ 0 = ap (times_allowed past) b.spent ∙ ap one_if_ok none in
        let after : times_allowed now (spending now h) ≡ 1 = ap (times_allowed now) (spending-kept past d w h _ b.spent) ∙ ap one_if_ok ends in
        omega (arith, once, few, before, after)

comes : (k : Declarations) (l : Limits) (past : Past) (d : ℕ) (w : What) (h : ℕ) → AllAllowed k l past → Moment k l past d w → Comes k past d w h
comes k l past d (What.Send f q t st) h all m = gains-send k l past d f q t st h all m
comes k l past d What.EndOrdered h all m = gains-let_in k l past d What.EndOrdered (open_ticket past d) h all m
comes k l past d (What.End lost cells) h all m = gains-let_in k l past d (What.End lost cells) (open_ticket past d) h all m
comes k l past d (What.Done op true) h all m = comes-done k l past d op h all m
comes k l past d (What.Done op false) h all m = gains-nothing k l past d (What.Done op false) h all m refl
comes k l past d (What.Notify g a) h all m = comes-notify k l past d g a h all m
comes k l past d w h all m = gains-nothing k l past d w h all m refl

came-allowed : (k : Declarations) (l : Limits) (past : Past) → AllAllowed k l past → (h : ℕ) → times h (all_came k past) ≤ times_allowed past (spending past h)
came-allowed k l [] all h = omega arith
came-allowed k l (e ∷ past) all h =
    let older = came-allowed k l past all.1 h in
    let gain = comes k l past e.core.0 e.what h all.1 (allowed-moment k l past e all.1 all.0) in
    let whole = times-append h (coming k past e.core.0 e.what) (all_came k past) in omega (arith, older, gain, whole)

-- what was sent and handed in

abbrev pub hands_in : What → List ℕ
hands_in (What.Send h q t st) = h.0 ∷ []
hands_in (What.Begin op job notes) = note_words notes
hands_in (What.Apply g a n notes) = note_words notes
hands_in w = []

abbrev pub handed : Past → List ℕ
handed [] = []
handed (e ∷ past) = hands_in e.what ++ handed past

abbrev handing : What → ℕ
handing (What.Send h q t st) = 1
handing (What.Begin op job notes) = 1
handing (What.Apply g a n notes) = 1
handing w = 0

abbrev handing_spent : Option Spending → ℕ
handing_spent None = 0
handing_spent (Some s) = handing s.what

allowed-handing-by : (past before : Past) (d : ℕ) (w : What) → times_allowed_by past before d w ≤ handing w
allowed-handing-by past before d (What.Send f q t st) = times_allowed_by-le past before d (What.Send f q t st)
allowed-handing-by past before d (What.Begin op job notes) = times_allowed_by-le past before d (What.Begin op job notes)
allowed-handing-by past before d (What.Apply g a n notes) = times_allowed_by-le past before d (What.Apply g a n notes)
allowed-handing-by past before d w = omega arith

allowed-handing : (past : Past) (o : Option Spending) → times_allowed past o ≤ handing_spent o
allowed-handing past None = omega arith
allowed-handing past (Some s) = allowed-handing-by past s.before s.core s.what

spends-hands : (past : Past) (d h : ℕ) (w : What) → spends past d w h ≡ true → handing w ≤ occ h (hands_in w)
spends-hands past d h (What.Send f q t st) is = has-occ h (f.0 ∷ []) is
spends-hands past d h (What.Begin op job notes) is = has-occ h (note_words notes) is
spends-hands past d h (What.Apply g a n notes) is = has-occ h (note_words notes) is
spends-hands past d h w is = omega arith

spending-handed : (past : Past) (h : ℕ) → handing_spent (spending past h) ≤ occ h (handed past)
spending-handed [] h = omega arith
spending-handed (e ∷ past) h = by_spends (spends past e.core.0 e.what h) refl (spending past h) refl (spending-handed past h)
  where
    whole : occ h (handed (e ∷ past)) ≡ occ h (hands_in e.what) + occ h (handed past)
    whole = occ-append h (hands_in e.what) (handed past)

    by_spends : (b : Bool) → spends past e.core.0 e.what h ≡ b → (o : Option Spending) → spending past h ≡ o → handing_spent (spending past h) ≤ occ h (handed past)
        → handing_spent (spent_by b past e o) ≤ occ h (handed (e ∷ past))
    by_spends false is o was older = let here : handing_spent o ≤ occ h (handed past) = rw was at older in let sum = whole in omega (arith, here, sum)
    by_spends true is None was older = let mine = spends-hands past e.core.0 h e.what is in let sum = whole in omega (arith, mine, sum)
    by_spends true is (Some s) was older = let here : handing s.what ≤ occ h (handed past) = rw was at older in let sum = whole in omega (arith, here, sum)

came-handed : (k : Declarations) (l : Limits) (past : Past) → AllAllowed k l past → length (all_came k past) ≤ length (handed past)
came-handed k l past all =
    shorter (all_came k past) (handed past) (λ h.
    let a = came-allowed k l past all h in
    let b = allowed-handing past (spending past h) in
    let c = spending-handed past h in omega (arith, a, b, c))

abbrev pub handed_count : What → ℕ
handed_count (What.Send h q t st) = 1
handed_count (What.Begin op job notes) = length notes
handed_count (What.Apply g a n notes) = length notes
handed_count w = 0

hands-count : (w : What) → length (hands_in w) ≡ handed_count w
hands-count (What.Begin op job notes) = length-map notes (λ n. n.word)
hands-count (What.Apply g a n notes) = length-map notes (λ n. n.word)
hands-count w = refl

handed-total : (past : Past) → length (handed past) ≡ total handed_count past
handed-total [] = refl
handed-total (e ∷ past) =
    let here = hands-count e.what in
    let later = handed-total past in
    let sum = length-append (hands_in e.what) (handed past) in omega (arith, here, later, sum)

-- what is due

abbrev is_loose : What → Bool
is_loose (What.Out q kind words) = true
is_loose (What.Fault Call.Note f s) = true
is_loose w = false

abbrev pub loosened : What → ℕ
loosened (What.Out q kind words) = 1
loosened (What.Fault Call.Note f s) = 1
loosened w = 0

abbrev is_completion : What → Bool
is_completion (What.Done op true) = true
is_completion (What.Notify g a) = true
is_completion w = false

abbrev is_handing : What → Bool
is_handing (What.Begin op job notes) = true
is_handing (What.Apply g a n notes) = true
is_handing w = false

abbrev front_by : Bool → Bool → ℕ → ℕ
front_by true b n = suc n
front_by false true n = 0
front_by false false n = n

-- how many of these stand before the first completion
abbrev front : List What → ℕ
front [] = 0
front (w ∷ ws) = front_by (is_loose w) (is_completion w) (front ws)

-- a completion has notes for so many
abbrev Room : Past → What → ℕ → Type 0
Room past (What.Done op true) n = n ≤ length (notes_of (operation past op.0))
Room past (What.Notify g a) n = n ≤ length (applied_notes past g.0)
Room past w n = Unit {0}

abbrev Fits : Past → List What → Type 0
Fits past [] = Unit {0}
Fits past (w ∷ ws) = (is_handing w ≡ false) × Room past w (front ws) × Fits past ws

same-operation : (past : Past) (d : ℕ) (w : What) (n : ℕ) → is_handing w ≡ false → operation (entry_by d w ∷ past) n ≡ operation past n
same-operation past d (What.Begin op job notes) n is = absurd cc
same-operation past d w n is = refl

same-applied : (past : Past) (d : ℕ) (w : What) (g : ℕ) → is_handing w ≡ false → applied_notes (entry_by d w ∷ past) g ≡ applied_notes past g
same-applied past d (What.Apply h a n notes) g is = absurd cc
same-applied past d w g is = refl

room-kept : (past : Past) (d : ℕ) (w v : What) (n : ℕ) → is_handing w ≡ false → Room past v n → Room (entry_by d w ∷ past) v n
room-kept past d w (What.Done op true) n is r = rw (same-operation past d w op.0 is) r
room-kept past d w (What.Done op false) n is r = tt
room-kept past d w (What.Notify g a) n is r = rw (same-applied past d w g.0 is) r
room-kept past d w v n is r = tt

fits-kept : (past : Past) (d : ℕ) (w : What) (ws : List What) → is_handing w ≡ false → Fits past ws → Fits (entry_by d w ∷ past) ws
fits-kept past d w [] is f = tt
fits-kept past d w (v ∷ vs) is f = (f.0, room-kept past d w v (front vs) is f.1, fits-kept past d w vs is f.2)

-- tails fit

record Holds (past : Past) (n : ℕ) (ws : List What) : Type 0 where
  few : front ws ≤ n
  fits : Fits past ws

nothing-held : (past : Past) (n : ℕ) → Holds past n []
nothing-held past n = record { few = omega arith; fits = tt }

out-held : (k : Declarations) (at past : Past) (s : Sent) (n : ℕ) (rest : List What) → Holds past n rest → Holds past (suc n) (out k at s ++ rest)
out-held k at past s n rest h = by_kind (is_output (kind_of k s.queue)) (minting at s.handle)
  where
    more : Holds past (suc n) rest
    more = record { few = let f = h.few in omega (arith, f); fits = h.fits }

    by_kind : (b : Bool) (m : Option Minting) → Holds past (suc n) ((if b then out_of s.queue m else []) ++ rest)
    by_kind false m = more
    by_kind true None = more
    by_kind true (Some m) = record { few = let f = h.few in omega (arith, f); fits = (refl, tt, h.fits) }

outs-held : (k : Declarations) (at past : Past) (ss : List Sent) (rest : List What) → Holds past 0 rest → Holds past (length ss) (outs k at ss ++ rest)
outs-held k at past [] rest h = h
outs-held k at past (s ∷ ss) rest h =
    subst (λ xs. Holds past (suc (length ss)) xs) (sym (append_assoc (out k at s) (outs k at ss) rest))
    (out-held k at past s (length ss) (outs k at ss ++ rest) (outs-held k at past ss rest h))

note-held : (k : Declarations) (at past : Past) (n : Note) (o : Option Sent) (i : ℕ) (rest : List What) → Holds past i rest → Holds past (suc i) (note_result k at n o ++ rest)
note-held k at past n None i rest h = record { few = let f = h.few in omega (arith, f); fits = (refl, tt, h.fits) }
note-held k at past n (Some s) i rest h = out-held k at past s i rest h

results-held : (k : Declarations) (at past : Past) (d : ℕ) (ns : List Note) → Holds past (length ns) (note_results k at d ns)
results-held k at past d [] = nothing-held past 0
results-held k at past d (n ∷ ns) = note-held k at past n (note_entering d n (closed k at n.queue.0)) (length ns) (note_results k at d ns) (results-held k at past d ns)

completion-held : (k : Declarations) (at past : Past) (d : ℕ) (op : OpId) → operation at op.0 ≡ operation past op.0 → Holds past 0 (completion k at d op)
completion-held k at past d op same =
    let r = results-held k (entry_by d (What.Done op true) ∷ at) past d (notes_of (operation at op.0)) in
    record { few = omega arith; fits = (refl, subst (λ o. front (note_results k (entry_by d (What.Done op true) ∷ at) d (notes_of (operation at op.0))) ≤ length (notes_of o)) same r.few, r.fits) }

notification-held : (k : Declarations) (now : Past) (d : ℕ) (s : Option Stamp) → Holds now 0 (notification k now d s)
notification-held k now d None = nothing-held now 0
notification-held k now d (Some s) = by_test (is_current now s.group.0 s.app && (count now s.group.0 == 0))
  where
    by_test : (b : Bool) → Holds now 0 (if b then What.Notify s.group s.app ∷ note_results k (entry_by d (What.Notify s.group s.app) ∷ now) d (applied_notes now s.group.0) else [])
    by_test false = nothing-held now 0
    by_test true =
        let r = results-held k (entry_by d (What.Notify s.group s.app) ∷ now) now d (applied_notes now s.group.0) in
        record { few = omega arith; fits = (refl, r.few, r.fits) }

ack-held : (k : Declarations) (at past : Past) (d : ℕ) (op : OpId) → operation at op.0 ≡ operation past op.0 → Holds past 0 (ack_tail k at d op)
ack-held k at past d op same = by_acked (all_acked k at op.0)
  where
    by_acked : (b : Bool) → Holds past 0 (if b then completion k at d op else [])
    by_acked true = completion-held k at past d op same
    by_acked false = nothing-held past 0

-- an entry that is neither loose nor a completion goes before
before-held : (past : Past) (n : ℕ) (w : What) (ws : List What) → is_loose w ≡ false → is_handing w ≡ false → Room past w (front ws) → is_completion w ≡ false
    → Holds past n ws → Holds past n (w ∷ ws)
before-held past n w ws tight plain room open_one h = record { few = rw (tight, open_one) h.few; fits = (plain, room, h.fits) }

end-held : (k : Declarations) (past : Past) (d lost : ℕ) (cells : Option Cells) (o : Option What)
    → Holds (entry_by d (What.End lost cells) ∷ past) (length (let_in past (entry_by d (What.End lost cells) ∷ past) (open_ticket past d)))
    (end_tail k past (entry_by d (What.End lost cells) ∷ past) d o)
end-held k past d lost cells o = by_context o
  where
    now : Past
    now = entry_by d (What.End lost cells) ∷ past

    n : ℕ
    n = length (let_in past now (open_ticket past d))

    wider : (ws : List What) → Holds now 0 ws → Holds now n ws
    wider ws h = record { few = let f = h.few in omega (arith, f); fits = h.fits }

    receive : Holds now n (outs k past (let_in past now (open_ticket past d)) ++ notification k now d (open_stamp past d))
    receive = outs-held k past now (let_in past now (open_ticket past d)) (notification k now d (open_stamp past d)) (notification-held k now d (open_stamp past d))

    by_failed : (op : OpId) (b : Bool) → Holds now 0 (global_start_tail op b)
    by_failed op true = record { few = omega arith; fits = (refl, tt, (refl, tt, tt)) }
    by_failed op false = record { few = omega arith; fits = (refl, tt, tt) }

    by_context : (o : Option What) → Holds now n (end_tail k past now d o)
    by_context (Some (What.Enter (Body.LocalStart op))) =
        wider _ (before-held now 0 (What.Ack op) _ refl refl tt refl (ack-held k (entry_by d (What.Ack op) ∷ now) now d op refl))
    by_context (Some (What.Enter (Body.LocalStop op))) = record { few = omega arith; fits = (refl, tt, tt) }
    by_context (Some (What.Enter (Body.GlobalStart op))) = wider _ (by_failed op (has_failed past d))
    by_context (Some (What.Enter (Body.GlobalStop op))) =
        wider _ (before-held now 0 (What.GlobalDone op true) _ refl refl tt refl (completion-held k (entry_by d (What.GlobalDone op true) ∷ now) now d op refl))
    by_context o = receive

tail-held : (k : Declarations) (past : Past) (d : ℕ) (w : What) → Holds (entry_by d w ∷ past) (length (coming k past d w)) (tail_of k past (entry_by d w ∷ past) d w)
tail-held k past d (What.Take q n t) = by_taken (taken k (entry_by d (What.Take q n t) ∷ past) d)
  where
    by_taken : (xs : List Item) → Holds (entry_by d (What.Take q n t) ∷ past) 0 (first_start (entry_by d (What.Take q n t) ∷ past) q.0 xs)
    by_taken [] = nothing-held _ 0
    by_taken (x ∷ xs) = record { few = omega arith; fits = (refl, tt, tt) }
tail-held k past d (What.Send h q t st) =
    let ss : List Sent = send_entering past d (What.Send h q t st) in
    subst (λ xs. Holds (entry_by d (What.Send h q t st) ∷ past) (length ss) xs) (append-nil (outs k past ss)) (outs-held k past _ ss [] (nothing-held _ 0))
tail-held k past d (What.End lost cells) = end-held k past d lost cells (context past d)
tail-held k past d What.EndOrdered =
    let ss : List Sent = let_in past (entry_by d What.EndOrdered ∷ past) (open_ticket past d) in
    subst (λ xs. Holds (entry_by d What.EndOrdered ∷ past) (length ss) xs) (append-nil (outs k past ss)) (outs-held k past _ ss [] (nothing-held _ 0))
tail-held k past d What.EndGroup = notification-held k (entry_by d What.EndGroup ∷ past) d (open_stamp past d)
tail-held k past d (What.Ack op) = ack-held k (entry_by d (What.Ack op) ∷ past) (entry_by d (What.Ack op) ∷ past) d op refl
tail-held k past d w = nothing-held _ _

-- no output and no lost note begins a block

refused-tight : (k : Declarations) (past : Past) (c : ℕ) (asked : Call) (o : Option Fault) (w : What) → is_loose w ≡ false → ((f : Fault) → is_loose (What.Fault asked f (scope k past c)) ≡ false)
    → is_loose (refused_or k past c asked o w) ≡ false
refused-tight k past c asked None w tight not_note = tight
refused-tight k past c asked (Some f) w tight not_note = not_note f

lead-tight : (k : Declarations) (past : Past) (c : ℕ) (a : Ask) → is_loose (lead k past c a) ≡ false
lead-tight k past c Ask.Claim = refl
lead-tight k past c (Ask.Say v) = refl
lead-tight k past c (Ask.End cells) = refl
lead-tight k past c a = refused-tight k past c (call_of a) (refusal k past c a) (own k past c a) refl (λ f. refl)

owes-tight : (k : Declarations) (past : Past) (c : ℕ) (w : What) → Owes k past c w → is_loose w ≡ false
owes-tight k past c w (OwesAck n o g m is job un e) = rw e refl
owes-tight k past c w (OwesGlobalStart n o x is job un by e) = rw e refl
owes-tight k past c w (OwesLocalStart n o x is job done un e) = rw e refl
owes-tight k past c w (OwesLocalStop n o x is job done un e) = rw e refl
owes-tight k past c w (OwesGlobalStop n o x is job done at last e) = rw e refl

begins-tight : (k : Declarations) (l : Limits) (past : Past) (c : ℕ) (w : What) → Begins k l past c w → is_loose w ≡ false
begins-tight k l past c w (Boots none core is) = rw is refl
begins-tight k l past c w (Steps between owed) = owes-tight k past c w (step-owes k past c w owed)
begins-tight k l past c w (Takes q choice is) = rw is refl
begins-tight k l past c w (Starts q x xs closed queue taken is) = rw is refl
begins-tight k l past c w (Untakes q x xs closed queue taken is) = rw is refl
begins-tight k l past c w (Asks a may is) = rw is (lead-tight k past c a)

loosened-tight : (w : What) → is_loose w ≡ false → loosened w ≡ 0
loosened-tight (What.Out q kind words) is = absurd cc
loosened-tight (What.Fault Call.Note f s) is = absurd cc
loosened-tight w is = refl

loosened-one : (w : What) → loosened w ≤ 1
loosened-one (What.Out q kind words) = omega arith
loosened-one (What.Fault Call.Note f s) = omega arith
loosened-one w = omega arith

-- what has come is enough for the outputs and lost notes so far, and for those due before a completion

record Enough (k : Declarations) (past : Past) (ds : List Entry) : Type 0 where
  few : total loosened past + front (whats ds) ≤ length (all_came k past)
  fits : Fits past (whats ds)

enough-begins : (k : Declarations) (l : Limits) (past : Past) (e : Entry) → Begins k l past e.core.0 e.what → total loosened past ≤ length (all_came k past)
    → Enough k (e ∷ past) (tail k past e)
enough-begins k l past e b older =
    let d = e.core.0 in
    let held = tail-held k past d e.what in
    let ws : List What = tail_of k past (e ∷ past) d e.what in
    let same : whats (tail k past e) ≡ ws = whats-by d ws in
    let tight = loosened-tight e.what (begins-tight k l past d e.what b) in
    let sum = length-append (coming k past d e.what) (all_came k past) in
    let few : front ws ≤ length (coming k past d e.what) = held.few in
    let fits : Fits (e ∷ past) ws = held.fits in
    record { few = let f : front (whats (tail k past e)) ≡ front ws = ap front same in omega (arith, older, tight, sum, few, f); fits = subst (Fits (e ∷ past)) (sym same) fits }

by-loose : (k : Declarations) (past : Past) (d : ℕ) (w : What) (n : ℕ) → is_loose w ≡ true → Room past w n → loosened w ≤ 1
by-loose k past d w n is r = loosened-one w

completes-room : (k : Declarations) (past : Past) (d : ℕ) (w : What) (n : ℕ) → is_completion w ≡ true → Room past w n → n ≤ length (coming k past d w)
completes-room k past d (What.Done op true) n is r = let same = length-map (notes_of (operation past op.0)) (note_sent d) in omega (arith, r, same)
completes-room k past d (What.Notify g a) n is r = let same = length-map (applied_notes past g.0) (note_sent d) in omega (arith, r, same)
completes-room k past d w n is r = absurd cc

enough-follows : (k : Declarations) (past : Past) (d : Entry) (ds : List Entry) → Enough k past (d ∷ ds) → Enough k (d ∷ past) ds
enough-follows k past d ds was = record { few = by_kind (is_loose d.what) refl (is_completion d.what) refl; fits = fits-kept past d.core.0 d.what (whats ds) was.fits.0 was.fits.2 }
  where
    sum : length (all_came k (d ∷ past)) ≡ length (coming k past d.core.0 d.what) + length (all_came k past)
    sum = length-append (coming k past d.core.0 d.what) (all_came k past)

    by_kind : (a : Bool) → is_loose d.what ≡ a → (b : Bool) → is_completion d.what ≡ b
        → loosened d.what + total loosened past + front (whats ds) ≤ length (all_came k (d ∷ past))
    by_kind true loose b is =
        let few : total loosened past + suc (front (whats ds)) ≤ length (all_came k past) = rw loose at was.few in
        let one = loosened-one d.what in
        let s = sum in omega (arith, few, one, s)
    by_kind false tight true is =
        let few : total loosened past + 0 ≤ length (all_came k past) = rw (tight, is) at was.few in
        let none = loosened-tight d.what tight in
        let room = completes-room k past d.core.0 d.what (front (whats ds)) is was.fits.1 in
        let s = sum in omega (arith, few, none, room, s)
    by_kind false tight false is =
        let few : total loosened past + front (whats ds) ≤ length (all_came k past) = rw (tight, is) at was.few in
        let none = loosened-tight d.what tight in
        let s = sum in omega (arith, few, none, s)

enough-next : (k : Declarations) (l : Limits) (past : Past) (e : Entry) (ds : List Entry) → IsNext k l past ds e → Enough k past ds → Enough k (e ∷ past) (due_after ds (tail k past e))
enough-next k l past e [] next was =
    let few : total loosened past + 0 ≤ length (all_came k past) = was.few in
    enough-begins k l past e next (omega (arith, few))
enough-next k l past e (d ∷ ds) next was = subst (λ v. Enough k (v ∷ past) ds) (sym next) (enough-follows k past d ds was)

enough : (k : Declarations) (l : Limits) (past : Past) → AllAllowed k l past → Enough k past (due k past)
enough k l [] all = record { few = omega arith; fits = tt }
enough k l (e ∷ past) all = enough-next k l past e (due k past) all.0.next (enough k l past all.1)

-- outputs and lost notes are no more than what was sent and handed in
pub loose-paid : (k : Declarations) (l : Limits) (past : Past) → AllAllowed k l past → total loosened past ≤ total handed_count past
loose-paid k l past all =
    let few = (enough k l past all).few in
    let came = came-handed k l past all in
    let is = handed-total past in omega (arith, few, came, is)
