-- How a core's list grows with a history: its entries are the core's part of the history.
use Rattle.std.proofs.Common.{◌≡◌, ◌≢◌, ◌⊎◌, inl, inr, ℕ, ◌==◌, Bool, true, false, ◌&&◌, List, [], ◌∷◌, ◌++◌, Option, Some, None, refl, sym, ap, ◌∙◌, if◌then◌else◌}
use Rattle.std.specs.Prelude.{IsTrue}
use Rattle.em_log.specs.declared.ask.Answer.{Answer}
use Rattle.em_log.specs.declared.ask.Ask.{Ask}
use Rattle.em_log.specs.declared.declarations.Declarations.{Declarations}
use Rattle.em_log.specs.declared.entry.Body.{Body}
use Rattle.em_log.specs.declared.entry.What.{What}
use Rattle.em_log.specs.declared.ids.OpId.{OpId}
use Rattle.em_log.specs.declared.ids.Note.{Note}
use Rattle.em_log.specs.declared.ids.Stamp.{Stamp}
use Rattle.em_log.specs.Answers.{answer_of, block}
use Rattle.em_log.specs.EventGroups.{is_current, count, applied_notes, open_stamp}
use Rattle.em_log.specs.Handles.{Minting, minting, held, held_after}
use Rattle.em_log.specs.History.{Past, part, onto, names, without_all, entry_by, entries_by}
use Rattle.em_log.specs.Leads.{lead}
use Rattle.em_log.specs.Operations.{all_acked, operation, notes_of}
use Rattle.em_log.specs.Order.{Sent, open_ticket, let_in}
use Rattle.em_log.specs.Arrivals.{note_entering, send_entering}
use Rattle.em_log.specs.Declarations.{kind_of, is_output}
use Rattle.em_log.specs.Contexts.{context, context_after}
use Rattle.em_log.specs.States.{closed}
use Rattle.em_log.specs.Tails.{tail_of, outs, out, out_of, note_result, note_results, completion, notification, ack_tail, end_tail, global_start_tail, has_failed}
use Rattle.em_moments.proofs.Follows.{is_asked, lead-is_asked}
use Rattle.em_core.specs.Pieces.{Piece, AreTail, history}
use Rattle.em_core.specs.Steps.{GrowsByAsk, GrowsByTake}
use Rattle.em_core.proofs.Handles.{differ}
use Rattle.em_core.proofs.Histories.{own}

-- what follows in an ask

tail-append : (vs ws : List What) → AreTail vs → AreTail ws → AreTail (vs ++ ws)
tail-append [] ws p q = q
tail-append (v ∷ vs) ws p q = (p.0, tail-append vs ws p.1 q)

out_of-tail : (q : ℕ) (m : Option Minting) → AreTail (out_of q m)
out_of-tail q None = tt
out_of-tail q (Some m) = (refl, tt)

out-tail : (k : Declarations) (past : Past) (s : Sent) → AreTail (out k past s)
out-tail k past s = by_test (is_output (kind_of k s.queue))
  where
    by_test : (b : Bool) → AreTail (if b then out_of s.queue (minting past s.handle) else [])
    by_test true = out_of-tail s.queue (minting past s.handle)
    by_test false = tt

outs-tail : (k : Declarations) (past : Past) (ss : List Sent) → AreTail (outs k past ss)
outs-tail k past [] = tt
outs-tail k past (s ∷ ss) = tail-append (out k past s) (outs k past ss) (out-tail k past s) (outs-tail k past ss)

note-tail : (k : Declarations) (now : Past) (n : Note) (o : Option Sent) → AreTail (note_result k now n o)
note-tail k now n None = (refl, tt)
note-tail k now n (Some s) = out-tail k now s

notes-tail : (k : Declarations) (now : Past) (d : ℕ) (ns : List Note) → AreTail (note_results k now d ns)
notes-tail k now d [] = tt
notes-tail k now d (n ∷ ns) =
    tail-append (note_result k now n (note_entering d n (closed k now n.queue.0))) (note_results k now d ns)
    (note-tail k now n (note_entering d n (closed k now n.queue.0))) (notes-tail k now d ns)

completion-tail : (k : Declarations) (past : Past) (d : ℕ) (op : OpId) → AreTail (completion k past d op)
completion-tail k past d op =
    (refl, notes-tail k (entry_by d (What.Done op true) ∷ past) d (notes_of (operation past op.0)))

notification-tail : (k : Declarations) (now : Past) (d : ℕ) (s : Option Stamp) → AreTail (notification k now d s)
notification-tail k now d None = tt
notification-tail k now d (Some s) = by_test (is_current now s.group.0 s.app && (count now s.group.0 == 0))
  where
    by_test : (b : Bool)
        → AreTail (if b then What.Notify s.group s.app ∷ note_results k (entry_by d (What.Notify s.group s.app) ∷ now) d (applied_notes now s.group.0) else [])
    by_test true = (refl, notes-tail k (entry_by d (What.Notify s.group s.app) ∷ now) d (applied_notes now s.group.0))
    by_test false = tt

pub ack-tail : (k : Declarations) (now : Past) (d : ℕ) (op : OpId) → AreTail (ack_tail k now d op)
ack-tail k now d op = by_test (all_acked k now op.0)
  where
    by_test : (b : Bool) → AreTail (if b then completion k now d op else [])
    by_test true = completion-tail k now d op
    by_test false = tt

global_start-tail : (op : OpId) (b : Bool) → AreTail (global_start_tail op b)
global_start-tail op true = (refl, (refl, tt))
global_start-tail op false = (refl, tt)

receive_end-tail : (k : Declarations) (past now : Past) (d : ℕ)
    → AreTail (outs k past (let_in past now (open_ticket past d)) ++ notification k now d (open_stamp past d))
receive_end-tail k past now d =
    tail-append (outs k past (let_in past now (open_ticket past d))) (notification k now d (open_stamp past d))
    (outs-tail k past (let_in past now (open_ticket past d))) (notification-tail k now d (open_stamp past d))

end-tail : (k : Declarations) (past now : Past) (d : ℕ) (o : Option What) → AreTail (end_tail k past now d o)
end-tail k past now d (Some (What.Enter (Body.LocalStart op))) = (refl, ack-tail k (entry_by d (What.Ack op) ∷ now) d op)
end-tail k past now d (Some (What.Enter (Body.LocalStop op))) = (refl, tt)
end-tail k past now d (Some (What.Enter (Body.GlobalStart op))) = global_start-tail op (has_failed past d)
end-tail k past now d (Some (What.Enter (Body.GlobalStop op))) =
    (refl, completion-tail k (entry_by d (What.GlobalDone op true) ∷ now) d op)
end-tail k past now d o = receive_end-tail k past now d

-- what follows the first entry of an ask
asked-tail : (k : Declarations) (past now : Past) (d : ℕ) (w : What) → is_asked w ≡ true → AreTail (tail_of k past now d w)
asked-tail k past now d (What.Take q n t) asked = absurd cc
asked-tail k past now d (What.Send h q t s) asked = outs-tail k past (send_entering past d (What.Send h q t s))
asked-tail k past now d (What.End lost cells) asked = end-tail k past now d (context past d)
asked-tail k past now d What.EndOrdered asked = outs-tail k past (let_in past now (open_ticket past d))
asked-tail k past now d What.EndGroup asked = notification-tail k now d (open_stamp past d)
asked-tail k past now d (What.Ack op) asked = ack-tail k now d op
asked-tail k past now d w asked = tt

-- an ask adds to the list what it adds to a history
pub lead-grows : (k : Declarations) (past : Past) (c : ℕ) (a : Ask) (m : List Piece)
    → let w = lead k past c a in
    let tail = tail_of k past (entry_by c w ∷ past) c w in
    GrowsByAsk c a (answer_of w) m (Piece.Answered w tail a (answer_of w) ∷ m)
lead-grows k past c a m =
    let w = lead k past c a in
    record {
      entry = w;
      tail = tail_of k past (entry_by c w ∷ past) c w;
      is_lead = record { shapes = k; past = past; is = refl; answer = refl };
      follow = asked-tail k past (entry_by c w ∷ past) c w (lead-is_asked k past c a);
      is = refl;
    }

-- an acknowledgement adds its entry, and what follows it
pub ack-grows : (k : Declarations) (past : Past) (c : ℕ) (op : OpId) (m : List Piece)
    → let tail = tail_of k past (entry_by c (What.Ack op) ∷ past) c (What.Ack op) in
    GrowsByTake (Answer.Acked op) m (Piece.Acked op tail ∷ m)
ack-grows k past c op m =
    let tail = tail_of k past (entry_by c (What.Ack op) ∷ past) c (What.Ack op) in
    (tail, ack-tail k (entry_by c (What.Ack op) ∷ past) c op, refl)

-- parts

part-own : (c : ℕ) (ws : List What) (past : Past) → part (onto (entries_by c ws) past) c ≡ onto (entries_by c ws) (part past c)
part-own c [] past = refl
part-own c (w ∷ ws) past =
    part-own c ws (entry_by c w ∷ past) ∙ ap (onto (entries_by c ws)) (own c (entry_by c w ∷ part past c) (part past c))

-- a core's part of a history to which it adds a block, and of one to which another core does
pub part-block : (k : Declarations) (past : Past) (c : ℕ) (w : What)
    → part (block k past (entry_by c w)) c
    ≡ onto (entries_by c (tail_of k past (entry_by c w ∷ past) c w)) (entry_by c w ∷ part past c)
part-block k past c w =
    part-own c (w ∷ tail_of k past (entry_by c w ∷ past) c w) past

part-others : (c d : ℕ) (ws : List What) (past : Past) → d ≢ c → part (onto (entries_by d ws) past) c ≡ part past c
part-others c d [] past other = refl
part-others c d (w ∷ ws) past other =
    let differs = differ d c other in
    part-others c d ws (entry_by d w ∷ past) other ∙ rw differs refl

pub part-other_block : (k : Declarations) (past : Past) (c d : ℕ) (w : What) → d ≢ c → part (block k past (entry_by d w)) c ≡ part past c
part-other_block k past c d w other = part-others c d (w ∷ tail_of k past (entry_by d w ∷ past) d w) past other

-- the list after an ask stands for the part after its block
pub lead-part : (k : Declarations) (past : Past) (c : ℕ) (a : Ask) (m : List Piece) → history c m ≡ part past c
    → let w = lead k past c a in
    let tail = tail_of k past (entry_by c w ∷ past) c w in
    history c (Piece.Answered w tail a (answer_of w) ∷ m) ≡ part (block k past (entry_by c w)) c
lead-part k past c a m is =
    let w = lead k past c a in
    let tail = tail_of k past (entry_by c w ∷ past) c w in
    ap (λ (h : Past). onto (entries_by c tail) (entry_by c w ∷ h)) is ∙ sym (part-block k past c w)

pub ack-part : (k : Declarations) (past : Past) (c : ℕ) (op : OpId) (m : List Piece) → history c m ≡ part past c
    → let tail = tail_of k past (entry_by c (What.Ack op) ∷ past) c (What.Ack op) in
    history c (Piece.Acked op tail ∷ m) ≡ part (block k past (entry_by c (What.Ack op))) c
ack-part k past c op m is =
    let tail = tail_of k past (entry_by c (What.Ack op) ∷ past) c (What.Ack op) in
    ap (λ (h : Past). onto (entries_by c tail) (entry_by c (What.Ack op) ∷ h)) is ∙ sym (part-block k past c (What.Ack op))

-- what a core's part shows of the history

pub part-context : (past : Past) (c : ℕ) → context (part past c) c ≡ context past c
part-context [] c = refl
part-context (e ∷ past) c = by_test (part-context past c) (e.core.0 == c) refl
  where
    by_test : context (part past c) c ≡ context past c → (b : Bool) → (e.core.0 == c) ≡ b
        → context (if b then e ∷ part past c else part past c) c ≡ (if b then context_after e.what (context past c) else context past c)
    by_test rest true mine = rw mine (ap (context_after e.what) rest)
    by_test rest false mine = rest

-- no entry of another core names a handle that core c holds there
abbrev pub LeftAlone : ℕ → Past → Type 0
LeftAlone c [] = Unit {0}
LeftAlone c (e ∷ past) = (without_all (names e.what) (held past c) ≡ held past c ⊎ IsTrue (e.core.0 == c)) × LeftAlone c past

pub part-held : (past : Past) (c : ℕ) → LeftAlone c past → held (part past c) c ≡ held past c
part-held [] c alone = refl
part-held (e ∷ past) c alone = by_test (part-held past c alone.1) (e.core.0 == c) refl alone.0
  where
    by_test : held (part past c) c ≡ held past c → (b : Bool) → (e.core.0 == c) ≡ b
        → (without_all (names e.what) (held past c) ≡ held past c) ⊎ IsTrue b
        → held (if b then e ∷ part past c else part past c) c
        ≡ (if b then held_after e.what (context past c) (without_all (names e.what) (held past c)) else without_all (names e.what) (held past c))
    by_test rest true mine either =
        let same = part-context past c in
        rw (mine, same, rest) refl
    by_test rest false mine (inl kept) = rest ∙ sym kept
    by_test rest false mine (inr is) = absurd cc
