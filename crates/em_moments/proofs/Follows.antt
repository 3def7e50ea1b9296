-- What a tail consists of: each entry that one ask puts after its first, and what it follows.
use Rattle.std.proofs.Common.{◌≡◌, ◌≢◌, ◌⊎◌, inl, inr, ℕ, ◌==◌, Bool, true, false, not, ◌&&◌, List, [], ◌∷◌, ◌++◌, Option, Some, None, refl, sym, ◌∙◌, subst, ap, if◌then◌else◌}
use Rattle.std.proofs.lemmas.Bool.{eq-eqb}
use Rattle.std.proofs.lemmas.Bool.Decides.{eqb_tells}
use Rattle.em_log.specs.declared.declarations.Declarations.{Declarations}
use Rattle.em_log.specs.declared.ask.Ask.{Ask}
use Rattle.em_log.specs.declared.entry.Entry.{Entry}
use Rattle.em_log.specs.declared.entry.What.{What}
use Rattle.em_log.specs.declared.entry.Body.{Body}
use Rattle.em_log.specs.declared.fault.Fault.{Fault}
use Rattle.em_log.specs.declared.fault.Call.{Call}
use Rattle.em_log.specs.declared.ids.Note.{Note}
use Rattle.em_log.specs.declared.ids.Stamp.{Stamp}
use Rattle.em_log.specs.declared.ids.OpId.{OpId}
use Rattle.em_log.specs.declared.ids.QueueId.{QueueId}
use Rattle.em_log.specs.declared.ids.Cells.{Cells}
use Rattle.em_log.specs.declared.ids.Limits.{Limits}
use Rattle.em_log.specs.History.{Past, entry_by, entries_by}
use Rattle.em_log.specs.Declarations.{kind_of, is_output}
use Rattle.em_log.specs.Contexts.{context, take_queue}
use Rattle.em_log.specs.Handles.{Minting, minting}
use Rattle.em_log.specs.Operations.{operation, notes_of, all_acked, step}
use Rattle.em_log.specs.States.{closed}
use Rattle.em_log.specs.Order.{Sent, open_ticket, let_in}
use Rattle.em_log.specs.Arrivals.{Item, note_entering, send_entering}
use Rattle.em_log.specs.Places.{taken}
use Rattle.em_log.specs.EventGroups.{is_current, applied_notes, count, open_stamp}
use Rattle.em_log.specs.Leads.{call_of, refusal, own, refused_or, lead}
use Rattle.em_log.specs.Tails.{start_of, first_start, out_of, out, outs, note_result, note_results, completion, notification, has_failed, ack_tail, global_start_tail, end_tail, tail_of, tail}
use Rattle.em_log.specs.Lawful.{Begins, Boots, Steps, Takes, Starts, Untakes, Asks}
use Rattle.em_moments.proofs.Choices.{choice-ready}
use Rattle.em_moments.proofs.Steps.{Owes, OwesAck, OwesGlobalStart, OwesLocalStart, OwesLocalStop, OwesGlobalStop, step-owes}

-- an entry of core d that comes after the first of an ask, past being the history before it; before is the history
-- before the ask
pub data Follows (k : Declarations) (past : Past) (d : ℕ) (w : What) : Type 0 where
  FirstStart : (before : Past) (q : QueueId) (n : ℕ) (t : Option ℕ) (x : Item) (xs : List Item)
      → past ≡ entry_by d (What.Take q n t) ∷ before → context past d ≡ None → take_queue past d ≡ Some q.0
      → taken k past d ≡ x ∷ xs → w ≡ start_of past q.0 x → Follows k past d w
  Outs : (q kind : ℕ) (words : List ℕ) → is_output (kind_of k q) ≡ true → w ≡ What.Out (record { 0 = q }) kind words → Follows k past d w
  NoteLost : (n : Note) → w ≡ What.Fault Call.Note (Fault.NoteLost n.queue) None → Follows k past d w
  AcksStart : (before : Past) (lost : ℕ) (cells : Option Cells) (op : OpId) → past ≡ entry_by d (What.End lost cells) ∷ before
      → context before d ≡ Some (What.Enter (Body.LocalStart op)) → w ≡ What.Ack op → Follows k past d w
  AcksStop : (before : Past) (lost : ℕ) (cells : Option Cells) (op : OpId) → past ≡ entry_by d (What.End lost cells) ∷ before
      → context before d ≡ Some (What.Enter (Body.LocalStop op)) → w ≡ What.Ack op → Follows k past d w
  GlobalStarts : (before : Past) (lost : ℕ) (cells : Option Cells) (op : OpId) → past ≡ entry_by d (What.End lost cells) ∷ before
      → context before d ≡ Some (What.Enter (Body.GlobalStart op)) → w ≡ What.GlobalDone op (not (has_failed before d)) → Follows k past d w
  GlobalStops : (before : Past) (lost : ℕ) (cells : Option Cells) (op : OpId) → past ≡ entry_by d (What.End lost cells) ∷ before
      → context before d ≡ Some (What.Enter (Body.GlobalStop op)) → w ≡ What.GlobalDone op true → Follows k past d w
  ChangeDone : (before : Past) (op : OpId) → past ≡ entry_by d (What.Ack op) ∷ before → step k before d ≡ Some (What.Ack op)
      → all_acked k past op.0 ≡ true → w ≡ What.Done op true → Follows k past d w
  StartDone : (before : Past) (lost : ℕ) (cells : Option Cells) (op : OpId)
      → past ≡ entry_by d (What.Ack op) ∷ entry_by d (What.End lost cells) ∷ before
      → context before d ≡ Some (What.Enter (Body.LocalStart op)) → all_acked k past op.0 ≡ true → w ≡ What.Done op true → Follows k past d w
  StartFailed : (before : Past) (lost : ℕ) (cells : Option Cells) (op : OpId)
      → past ≡ entry_by d (What.GlobalDone op false) ∷ entry_by d (What.End lost cells) ∷ before
      → context before d ≡ Some (What.Enter (Body.GlobalStart op)) → w ≡ What.Done op false → Follows k past d w
  StopDone : (before : Past) (lost : ℕ) (cells : Option Cells) (op : OpId)
      → past ≡ entry_by d (What.GlobalDone op true) ∷ entry_by d (What.End lost cells) ∷ before
      → context before d ≡ Some (What.Enter (Body.GlobalStop op)) → w ≡ What.Done op true → Follows k past d w
  Notifies : (s : Stamp) → is_current past s.group.0 s.app ≡ true → count past s.group.0 ≡ 0 → w ≡ What.Notify s.group s.app
      → Follows k past d w

-- each of these entries of core d follows, the first after now
abbrev pub AllFollow : Declarations → Past → ℕ → List What → Type 0
AllFollow k now d [] = Unit {0}
AllFollow k now d (w ∷ ws) = Follows k now d w × AllFollow k (entry_by d w ∷ now) d ws

-- outputs and lost notes follow anywhere

pub data IsLoose (k : Declarations) (w : What) : Type 0 where
  LooseOut : (q kind : ℕ) (words : List ℕ) → is_output (kind_of k q) ≡ true → w ≡ What.Out (record { 0 = q }) kind words → IsLoose k w
  LooseLost : (n : Note) → w ≡ What.Fault Call.Note (Fault.NoteLost n.queue) None → IsLoose k w

pub data AllLoose (k : Declarations) : List What → Type 0 where
  NoLoose : AllLoose k []
  MoreLoose : {w : What} {ws : List What} → IsLoose k w → AllLoose k ws → AllLoose k (w ∷ ws)

loose-append : (k : Declarations) {vs ws : List What} → AllLoose k vs → AllLoose k ws → AllLoose k (vs ++ ws)
loose-append k NoLoose q = q
loose-append k (MoreLoose p ps) q = MoreLoose p (loose-append k ps q)

out-loose : (k : Declarations) (past : Past) (s : Sent) → AllLoose k (out k past s)
out-loose k past s = by_kind (is_output (kind_of k s.queue)) refl (minting past s.handle)
  where
    by_kind : (b : Bool) → is_output (kind_of k s.queue) ≡ b → (m : Option Minting) → AllLoose k (if b then out_of s.queue m else [])
    by_kind false is m = NoLoose
    by_kind true is None = NoLoose
    by_kind true is (Some m) = MoreLoose (LooseOut s.queue m.event.kind m.event.words is refl) NoLoose

outs-loose : (k : Declarations) (past : Past) (ss : List Sent) → AllLoose k (outs k past ss)
outs-loose k past [] = NoLoose
outs-loose k past (s ∷ ss) = loose-append k (out-loose k past s) (outs-loose k past ss)

note-loose : (k : Declarations) (now : Past) (n : Note) (o : Option Sent) → AllLoose k (note_result k now n o)
note-loose k now n None = MoreLoose (LooseLost n refl) NoLoose
note-loose k now n (Some s) = out-loose k now s

notes-loose : (k : Declarations) (now : Past) (d : ℕ) (ns : List Note) → AllLoose k (note_results k now d ns)
notes-loose k now d [] = NoLoose
notes-loose k now d (n ∷ ns) = loose-append k (note-loose k now n (note_entering d n (closed k now n.queue.0))) (notes-loose k now d ns)

loose-follows : (k : Declarations) (past : Past) (d : ℕ) (w : What) → IsLoose k w → Follows k past d w
loose-follows k past d w (LooseOut q kind words is e) = Outs q kind words is e
loose-follows k past d w (LooseLost n e) = NoteLost n e

all-loose : (k : Declarations) (now : Past) (d : ℕ) (ws : List What) → AllLoose k ws → AllFollow k now d ws
all-loose k now d [] p = tt
all-loose k now d (w ∷ ws) (MoreLoose p ps) = (loose-follows k now d w p, all-loose k (entry_by d w ∷ now) d ws ps)

-- two histories with the same event groups
record SameGroups (old new : Past) : Type 0 where
  current : (g a : ℕ) → is_current new g a ≡ is_current old g a
  count : (g : ℕ) → count new g ≡ count old g

loose-same : (k : Declarations) (old now : Past) (d : ℕ) (w : What) → IsLoose k w → SameGroups old now → SameGroups old (entry_by d w ∷ now)
loose-same k old now d w (LooseOut q kind words is e) same =
    subst (λ v. SameGroups old (entry_by d v ∷ now)) (sym e) (record { current = same.current; count = same.count })
loose-same k old now d w (LooseLost n e) same =
    subst (λ v. SameGroups old (entry_by d v ∷ now)) (sym e) (record { current = same.current; count = same.count })

after-loose : (k : Declarations) (old now : Past) (d : ℕ) (vs ws : List What) → AllLoose k vs → SameGroups old now
    → ((new : Past) → SameGroups old new → AllFollow k new d ws) → AllFollow k now d (vs ++ ws)
after-loose k old now d [] ws p same f = f now same
after-loose k old now d (v ∷ vs) ws (MoreLoose p ps) same f =
    (loose-follows k now d v p, after-loose k old (entry_by d v ∷ now) d vs ws ps (loose-same k old now d v p same) f)

-- the parts of tails

eqb-eq : (m n : ℕ) → (m == n) ≡ true → m ≡ n
eqb-eq m n h = by_test (eqb_tells m n)
  where
    by_test : (((m == n) ≡ true) × (m ≡ n)) ⊎ (((m == n) ≡ false) × (m ≢ n)) → m ≡ n
    by_test (inl p) = p.1
    by_test (inr p) = absurd (cc (p.0, h))

notification-follows : (k : Declarations) (old now : Past) (d : ℕ) (s : Option Stamp) → SameGroups old now
    → AllFollow k now d (notification k old d s)
notification-follows k old now d None same = tt
notification-follows k old now d (Some s) same = by_test (is_current old s.group.0 s.app) refl (count old s.group.0 == 0) refl
  where
    ws : List What
    ws = What.Notify s.group s.app
        ∷ note_results k (entry_by d (What.Notify s.group s.app) ∷ old) d (applied_notes old s.group.0)

    by_test : (a : Bool) → is_current old s.group.0 s.app ≡ a → (b : Bool) → (count old s.group.0 == 0) ≡ b → AllFollow k now d (if a && b then ws else [])
    by_test false is b zero = tt
    by_test true is false zero = tt
    by_test true is true zero = (
      Notifies s (same.current s.group.0 s.app ∙ is) (same.count s.group.0 ∙ eqb-eq _ 0 zero) refl,
      all-loose k (entry_by d (What.Notify s.group s.app) ∷ now) d _
          (notes-loose k (entry_by d (What.Notify s.group s.app) ∷ old) d (applied_notes old s.group.0)),
    )

ack-follows : (k : Declarations) (now : Past) (d : ℕ) (op : OpId) → Follows k now d (What.Done op true)
    → AllFollow k now d (completion k now d op)
ack-follows k now d op f = (f, all-loose k (entry_by d (What.Done op true) ∷ now) d _ (notes-loose k (entry_by d (What.Done op true) ∷ now) d (notes_of (operation now op.0))))

global_start-follows : (k : Declarations) (before : Past) (d lost : ℕ) (cells : Option Cells) (op : OpId) → context before d ≡ Some (What.Enter (Body.GlobalStart op))
    → AllFollow k (entry_by d (What.End lost cells) ∷ before) d (global_start_tail op (has_failed before d))
global_start-follows k before d lost cells op is = by_failed (has_failed before d) refl
  where
    by_failed : (b : Bool) → has_failed before d ≡ b → AllFollow k (entry_by d (What.End lost cells) ∷ before) d (global_start_tail op b)
    by_failed true failed = (
      GlobalStarts before lost cells op refl is (ap (λ b. What.GlobalDone op (not b)) (sym failed)),
      (StartFailed before lost cells op refl is refl, tt),
    )
    by_failed false failed = (GlobalStarts before lost cells op refl is (ap (λ b. What.GlobalDone op (not b)) (sym failed)), tt)

local_start-follows : (k : Declarations) (before : Past) (d lost : ℕ) (cells : Option Cells) (op : OpId) → context before d ≡ Some (What.Enter (Body.LocalStart op))
    → AllFollow k (entry_by d (What.Ack op) ∷ entry_by d (What.End lost cells) ∷ before) d
    (ack_tail k (entry_by d (What.Ack op) ∷ entry_by d (What.End lost cells) ∷ before) d op)
local_start-follows k before d lost cells op is = by_acked (all_acked k now op.0) refl
  where
    now : Past
    now = entry_by d (What.Ack op) ∷ entry_by d (What.End lost cells) ∷ before

    by_acked : (b : Bool) → all_acked k now op.0 ≡ b → AllFollow k now d (if b then completion k now d op else [])
    by_acked true all = ack-follows k now d op (StartDone before lost cells op refl is all refl)
    by_acked false all = tt

same-groups : (past : Past) → SameGroups past past
same-groups past = record { current = λ g a. refl; count = λ g. refl }

receive_end-follows : (k : Declarations) (past now : Past) (d : ℕ)
    → AllFollow k now d (outs k past (let_in past now (open_ticket past d)) ++ notification k now d (open_stamp past d))
receive_end-follows k past now d =
    after-loose k now now d (outs k past (let_in past now (open_ticket past d))) (notification k now d (open_stamp past d))
    (outs-loose k past (let_in past now (open_ticket past d))) (same-groups now)
    (λ new same. notification-follows k now new d (open_stamp past d) same)

end-follows : (k : Declarations) (before : Past) (d lost : ℕ) (cells : Option Cells) (o : Option What) → context before d ≡ o
    → AllFollow k (entry_by d (What.End lost cells) ∷ before) d (end_tail k before (entry_by d (What.End lost cells) ∷ before) d o)
end-follows k before d lost cells (Some (What.Enter (Body.LocalStart op))) is =
    (AcksStart before lost cells op refl is refl, local_start-follows k before d lost cells op is)
end-follows k before d lost cells (Some (What.Enter (Body.LocalStop op))) is = (AcksStop before lost cells op refl is refl, tt)
end-follows k before d lost cells (Some (What.Enter (Body.GlobalStart op))) is = global_start-follows k before d lost cells op is
end-follows k before d lost cells (Some (What.Enter (Body.GlobalStop op))) is = (
  GlobalStops before lost cells op refl is refl,
  ack-follows k (entry_by d (What.GlobalDone op true) ∷ entry_by d (What.End lost cells) ∷ before) d op
      (StopDone before lost cells op refl is refl),
)
end-follows k before d lost cells o is = receive_end-follows k before (entry_by d (What.End lost cells) ∷ before) d

-- which asks and steps begin a block

-- an entry that an ask gives as its own
abbrev pub is_asked : What → Bool
is_asked (What.Enter b) = false
is_asked (What.Take q n t) = false
is_asked (What.Start q e s) = false
is_asked (What.Untake q n) = false
is_asked (What.Out q kind words) = false
is_asked (What.GlobalDone op ok) = false
is_asked (What.Ack op) = false
is_asked (What.Done op ok) = false
is_asked (What.Notify g a) = false
is_asked w = true

own-asked : (k : Declarations) (past : Past) (c : ℕ) (a : Ask) → is_asked (own k past c a) ≡ true
own-asked k past c (Ask.Free h) = refl
own-asked k past c _ = refl

refused-asked : (k : Declarations) (past : Past) (c : ℕ) (asked : Call) (f : Option Fault) (w : What) → is_asked w ≡ true → is_asked (refused_or k past c asked f w) ≡ true
refused-asked k past c _ None w h = h
refused-asked k past c _ (Some f) w h = refl

pub lead-is_asked : (k : Declarations) (past : Past) (c : ℕ) (a : Ask) → is_asked (lead k past c a) ≡ true
lead-is_asked k past c a = refused-asked k past c (call_of a) (refusal k past c a) (own k past c a) (own-asked k past c a)

-- an acknowledgement that begins a block is a step
begins-ack : (k : Declarations) (l : Limits) (past : Past) (c : ℕ) (w : What) (op : OpId) → Begins k l past c w → w ≡ What.Ack op
    → step k past c ≡ Some (What.Ack op)
begins-ack k l past c w op (Boots none core is) e = absurd (cc (is, e))
begins-ack k l past c w op (Steps between owed) e = owed ∙ ap Some e
begins-ack k l past c w op (Takes q choice is) e = absurd (cc (is, e))
begins-ack k l past c w op (Starts q x xs closed queue taken is) e = absurd (cc (is, e))
begins-ack k l past c w op (Untakes q x xs closed queue taken is) e = absurd (cc (is, e))
begins-ack k l past c w op (Asks a may is) e =
    let asked : is_asked w ≡ true = subst (λ v. is_asked v ≡ true) (sym is) (lead-is_asked k past c a) in
    absurd (cc (subst (λ v. is_asked v ≡ true) e asked))

step-no_take : (k : Declarations) (past : Past) (c : ℕ) (w : What) (q : QueueId) (n : ℕ) (t : Option ℕ) → Owes k past c w → w ≡ What.Take q n t → ⊥
step-no_take k past c w q n t (OwesAck _ _ _ _ _ _ _ is) e = absurd (cc (is, e))
step-no_take k past c w q n t (OwesGlobalStart _ _ _ _ _ _ _ is) e = absurd (cc (is, e))
step-no_take k past c w q n t (OwesLocalStart _ _ _ _ _ _ _ is) e = absurd (cc (is, e))
step-no_take k past c w q n t (OwesLocalStop _ _ _ _ _ _ _ is) e = absurd (cc (is, e))
step-no_take k past c w q n t (OwesGlobalStop _ _ _ _ _ _ _ _ is) e = absurd (cc (is, e))

-- a take comes where no context is open
begins-take : (k : Declarations) (l : Limits) (past : Past) (c : ℕ) (w : What) (q : QueueId) (n : ℕ) (t : Option ℕ) → Begins k l past c w
    → w ≡ What.Take q n t → context past c ≡ None
begins-take k l past c w q n t (Boots none core is) e = absurd (cc (is, e))
begins-take k l past c w q n t (Steps between owed) e = absurd (step-no_take k past c w q n t (step-owes k past c w owed) e)
begins-take k l past c w q n t (Takes r choice is) e = (choice-ready k l past c r choice).between.closed
begins-take k l past c w q n t (Starts r x xs closed queue taken is) e = closed
begins-take k l past c w q n t (Untakes r x xs closed queue taken is) e = closed
begins-take k l past c w q n t (Asks a may is) e =
    let asked : is_asked w ≡ true = subst (λ v. is_asked v ≡ true) (sym is) (lead-is_asked k past c a) in
    absurd (cc (subst (λ v. is_asked v ≡ true) e asked))

if-own : {A : Type 0} (c : ℕ) (x y : A) → (if c == c then x else y) ≡ x
if-own c x y = rw (eq-eqb c c refl) refl

first_start-follows : (k : Declarations) (before : Past) (d : ℕ) (q : QueueId) (n : ℕ) (t : Option ℕ) (xs : List Item) → context before d ≡ None
    → taken k (entry_by d (What.Take q n t) ∷ before) d ≡ xs
    → AllFollow k (entry_by d (What.Take q n t) ∷ before) d (first_start (entry_by d (What.Take q n t) ∷ before) q.0 xs)
first_start-follows k before d q n t [] closed is = tt
first_start-follows k before d q n t (x ∷ xs) closed is =
    (FirstStart before q n t x xs refl (if-own d _ _ ∙ closed) (if-own d _ _) is refl, tt)

tail_of-follows : (k : Declarations) (l : Limits) (before : Past) (d : ℕ) (w : What) → Begins k l before d w
    → AllFollow k (entry_by d w ∷ before) d (tail_of k before (entry_by d w ∷ before) d w)
tail_of-follows k l before d (What.Take q n t) b =
    first_start-follows k before d q n t _ (begins-take k l before d (What.Take q n t) q n t b refl) refl
tail_of-follows k l before d (What.Send h q t s) b =
    all-loose k _ d _ (outs-loose k before (send_entering before d (What.Send h q t s)))
tail_of-follows k l before d (What.End lost cells) b = end-follows k before d lost cells (context before d) refl
tail_of-follows k l before d What.EndOrdered b =
    all-loose k _ d _ (outs-loose k before (let_in before (entry_by d What.EndOrdered ∷ before) (open_ticket before d)))
tail_of-follows k l before d What.EndGroup b =
    notification-follows k _ (entry_by d What.EndGroup ∷ before) d (open_stamp before d) (same-groups _)
tail_of-follows k l before d (What.Ack op) b = by_acked (all_acked k (entry_by d (What.Ack op) ∷ before) op.0) refl
  where
    by_acked : (v : Bool) → all_acked k (entry_by d (What.Ack op) ∷ before) op.0 ≡ v
        → AllFollow k (entry_by d (What.Ack op) ∷ before) d (if v then completion k (entry_by d (What.Ack op) ∷ before) d op else [])
    by_acked true all =
        ack-follows k (entry_by d (What.Ack op) ∷ before) d op
        (ChangeDone before op refl (begins-ack k l before d (What.Ack op) op b refl) all refl)
    by_acked false all = tt
tail_of-follows k l before d w b = tt

-- what is due

-- each of these entries follows, the first after past
abbrev pub AllDue : Declarations → Past → List Entry → Type 0
AllDue k past [] = Unit {0}
AllDue k past (e ∷ es) = Follows k past e.core.0 e.what × AllDue k (e ∷ past) es

follow-due : (k : Declarations) (now : Past) (d : ℕ) (ws : List What) → AllFollow k now d ws → AllDue k now (entries_by d ws)
follow-due k now d [] f = tt
follow-due k now d (w ∷ ws) f = (f.0, follow-due k (entry_by d w ∷ now) d ws f.1)

-- the tail of an entry that begins a block follows it
pub tail-follows : (k : Declarations) (l : Limits) (before : Past) (e : Entry) → Begins k l before e.core.0 e.what → AllDue k (e ∷ before) (tail k before e)
tail-follows k l before e b =
    follow-due k (e ∷ before) e.core.0 (tail_of k before (e ∷ before) e.core.0 e.what) (tail_of-follows k l before e.core.0 e.what b)
