-- The facts of an entry's moment, by its kind: what each entry of a lawful history says of the history before it.
use Rattle.std.proofs.Common.{◌≡◌, ℕ, suc, ◌+◌, ◌==◌, Bool, true, false, not, List, [], ◌∷◌, length, Option, Some, None, refl, sym, ◌∙◌, subst, ap}
use Rattle.std.specs.Prelude.{IsTrue, nat_lt}
use Rattle.em_log.specs.declared.declarations.Declarations.{Declarations}
use Rattle.em_log.specs.declared.ask.Ask.{Ask}
use Rattle.em_log.specs.declared.entry.Entry.{Entry}
use Rattle.em_log.specs.declared.entry.What.{What}
use Rattle.em_log.specs.declared.entry.Event.{Event}
use Rattle.em_log.specs.declared.entry.Body.{Body}
use Rattle.em_log.specs.declared.entry.Begun.{Begun}
use Rattle.em_log.specs.declared.fault.Fault.{Fault}
use Rattle.em_log.specs.declared.fault.Call.{Call}
use Rattle.em_log.specs.declared.ids.Note.{Note}
use Rattle.em_log.specs.declared.ids.Stamp.{Stamp}
use Rattle.em_log.specs.declared.ids.Cells.{Cells}
use Rattle.em_log.specs.declared.ids.OpId.{OpId}
use Rattle.em_log.specs.declared.ids.EoId.{EoId}
use Rattle.em_log.specs.declared.ids.EoState.{EoState}
use Rattle.em_log.specs.declared.ids.Limits.{Limits}
use Rattle.em_log.specs.History.{Past, entry_by}
use Rattle.em_log.specs.Declarations.{kind_of, is_output, is_served, is_unscheduled, words_of_pool, indices_of_pool}
use Rattle.em_log.specs.Contexts.{context, take_queue}
use Rattle.em_log.specs.Handles.{held, next_handle, rule}
use Rattle.em_log.specs.Operations.{operations, pending, op_id, step, all_acked}
use Rattle.em_log.specs.States.{state, closed}
use Rattle.em_log.specs.Order.{Ticket, open_ticket}
use Rattle.em_log.specs.Arrivals.{Item}
use Rattle.em_log.specs.Places.{waiting, taken, first_free}
use Rattle.em_log.specs.Atomic.{holds}
use Rattle.em_log.specs.Eligible.{is_choice, take_size, ticket_drawn}
use Rattle.em_log.specs.EventGroups.{applications, busy, is_current, total, members, count, open_stamp}
use Rattle.em_log.specs.Leads.{item_again, stamp_now, open_number, dequeued, claimed, notes_refusal, count_refusal, increment_refusal, aims_at_object, aims_at_group, operations_fault, mask_fault, call_of, refusal, scope}
use Rattle.em_log.specs.Tails.{has_failed}
use Rattle.em_log.specs.Lawful.{may_ask, Allowed, AllAllowed}
use Rattle.em_moments.proofs.Asked.{Asked, Refused, Allocs, Frees, Sends, SendsIn, Keeps, Claims, Dequeues, Says, Enables, Disables, EndsAtomic, EndsOrdered, EndsGroup, Applies, Increments, Aborts, BeginsStart, BeginsStop, BeginsModify, Ends, asks-open}
use Rattle.em_moments.proofs.Steps.{Owes, OwesAck, OwesGlobalStart, OwesLocalStart, OwesLocalStop, OwesGlobalStop}
use Rattle.em_moments.proofs.Choices.{IsBetween, IsReady}
use Rattle.em_moments.proofs.Follows.{Follows, FirstStart, Outs, NoteLost, AcksStart, AcksStop, GlobalStarts, GlobalStops, ChangeDone, StartDone, StartFailed, StopDone, Notifies}
use Rattle.em_moments.proofs.Inversion.{Came, ByBoot, ByStep, ByTake, ByStart, ByUntake, ByAsk, ByTail, allowed-came}

pub data EnterMoment (k : Declarations) (past : Past) (c : ℕ) (b : Body) : Type 0 where
  EntersBoot : past ≡ [] → c ≡ 0 → b ≡ Body.Boot → EnterMoment k past c b
  EntersStep : IsBetween k past c → step k past c ≡ Some (What.Enter b) → Owes k past c (What.Enter b) → EnterMoment k past c b

pub record TakeMoment (k : Declarations) (l : Limits) (past : Past) (c q n : ℕ) (t : Option ℕ) : Type 0 where
  pub choice : is_choice k l past c q ≡ true
  pub ready : IsReady k past c q
  pub size : n ≡ take_size k l past c q
  pub ticket : t ≡ ticket_drawn k past q

pub record StartMoment (k : Declarations) (past : Past) (c q : ℕ) (e : Event) (s : Option Stamp) : Type 0 where
  pub closed : context past c ≡ None
  pub queue : take_queue past c ≡ Some q
  pub item : Item
  pub rest : List Item
  pub taken : taken k past c ≡ item ∷ rest
  pub event : e ≡ item_again past item
  pub stamp : s ≡ item.stamp

pub record UntakeMoment (k : Declarations) (past : Past) (c q n : ℕ) : Type 0 where
  pub closed : context past c ≡ None
  pub queue : take_queue past c ≡ Some q
  pub item : Item
  pub rest : List Item
  pub taken : taken k past c ≡ item ∷ rest
  pub size : n ≡ suc (length rest)

-- core c has an open context in which this ask may stand
pub record IsOpen (k : Declarations) (past : Past) (c : ℕ) (a : Ask) : Type 0 where
  pub began : What
  pub context : context past c ≡ Some began
  pub may : IsTrue (may_ask k past c a)

pub record EndMoment (k : Declarations) (past : Past) (c lost : ℕ) (cells : Option Cells) : Type 0 where
  pub open_context : IsOpen k past c (Ask.End cells)
  pub counted : lost ≡ length (held past c)

pub record EndAtomicMoment (k : Declarations) (past : Past) (c rest : ℕ) (cells : Cells) : Type 0 where
  pub open_context : IsOpen k past c (Ask.EndAtomic cells)
  pub atomic : ℕ
  pub holds : holds k past c ≡ Some atomic
  pub counted : rest ≡ length (taken k past c)

pub record EndOrderedMoment (k : Declarations) (past : Past) (c : ℕ) : Type 0 where
  pub open_context : IsOpen k past c Ask.EndOrdered
  pub ticket : Ticket
  pub is : open_ticket past c ≡ Some ticket

pub record EndGroupMoment (k : Declarations) (past : Past) (c : ℕ) : Type 0 where
  pub open_context : IsOpen k past c Ask.EndGroup
  pub stamp : Stamp
  pub is : open_stamp past c ≡ Some stamp

pub record AllocMoment (k : Declarations) (past : Past) (c p : ℕ) (e : Event) : Type 0 where
  pub open_context : IsOpen k past c (Ask.Alloc (record { 0 = p }) e.kind e.words)
  pub fits : nat_lt (words_of_pool k p) (length e.words) ≡ false
  pub index : ℕ
  pub free : first_free k past (indices_of_pool k p) ≡ Some index
  pub handle : e.handle.0 ≡ next_handle past index

pub record FreeMoment (k : Declarations) (past : Past) (c h : ℕ) : Type 0 where
  pub open_context : IsOpen k past c (Ask.Free h)
  pub rule : rule past c h ≡ None

pub record KeepMoment (k : Declarations) (past : Past) (c h : ℕ) : Type 0 where
  pub open_context : IsOpen k past c (Ask.Keep h)
  pub rule : rule past c h ≡ None

-- what allows a stamp
pub data StampMoment (k : Declarations) (past : Past) (c h q : ℕ) (s : Option Stamp) : Type 0 where
  NoStamp : IsOpen k past c (Ask.Send h (record { 0 = q }) None) → s ≡ None → StampMoment k past c h q s
  NewStamp : (g : ℕ) → IsOpen k past c (Ask.Send h (record { 0 = q }) (Some (record { 0 = g }))) → is_served (kind_of k q) ≡ true → busy past g ≡ true
      → (total past g == members past g (applications past g)) ≡ false → s ≡ Some (stamp_now past g) → StampMoment k past c h q s

pub record SendMoment (k : Declarations) (past : Past) (c h q : ℕ) (t : Option ℕ) (s : Option Stamp) : Type 0 where
  pub began : What
  pub context : context past c ≡ Some began
  pub rule : rule past c h ≡ None
  pub closed : closed k past q ≡ None
  pub ticket : t ≡ open_number past c
  pub stamp : StampMoment k past c h q s

pub record ClaimMoment (k : Declarations) (past : Past) (c : ℕ) (e : Option Event) : Type 0 where
  pub open_context : IsOpen k past c Ask.Claim
  pub event : e ≡ claimed k past c

pub record DequeueMoment (k : Declarations) (past : Past) (c q : ℕ) (e : Option Event) : Type 0 where
  pub open_context : IsOpen k past c (Ask.Dequeue (record { 0 = q }))
  pub unscheduled : is_unscheduled (kind_of k q) ≡ true
  pub event : e ≡ dequeued past (waiting k past q c)

pub record FlagMoment (k : Declarations) (past : Past) (c q : ℕ) : Type 0 where
  pub began : What
  pub context : context past c ≡ Some began
  pub served : is_served (kind_of k q) ≡ true

-- what allows the operation
pub data JobMoment (k : Declarations) (past : Past) (c : ℕ) (job : Begun) (notes : List Note) : Type 0 where
  StartJob : (x : EoId) → IsOpen k past c (Ask.Start x notes) → job ≡ Begun.Start x → pending past (aims_at_object x.0) ≡ None
      → state k past x.0 ≡ EoState.Created → JobMoment k past c job notes
  StopJob : (x : EoId) → IsOpen k past c (Ask.Stop x notes) → job ≡ Begun.Stop x → pending past (aims_at_object x.0) ≡ None
      → state k past x.0 ≡ EoState.Running → JobMoment k past c job notes
  ModifyJob : (g m : ℕ) → IsOpen k past c (Ask.Modify (record { 0 = g }) m notes) → job ≡ Begun.Modify (record { 0 = g }) m
      → pending past (aims_at_group g) ≡ None → mask_fault k m ≡ None → JobMoment k past c job notes

pub record BeginMoment (k : Declarations) (past : Past) (c : ℕ) (op : OpId) (job : Begun) (notes : List Note) : Type 0 where
  pub number : op ≡ op_id (operations past)
  pub aim : JobMoment k past c job notes
  pub more : operations_fault past ≡ None
  pub usable : notes_refusal past c [] notes ≡ None

pub record ApplyMoment (k : Declarations) (past : Past) (c g a n : ℕ) (notes : List Note) : Type 0 where
  pub open_context : IsOpen k past c (Ask.Apply (record { 0 = g }) n notes)
  pub number : a ≡ applications past g + 1
  pub count : count_refusal past g n ≡ None
  pub usable : notes_refusal past c [] notes ≡ None

pub record IncrementMoment (k : Declarations) (past : Past) (c g n : ℕ) : Type 0 where
  pub open_context : IsOpen k past c (Ask.Increment n)
  pub stamp : Stamp
  pub is : open_stamp past c ≡ Some stamp
  pub group : g ≡ stamp.group.0
  pub current : is_current past stamp.group.0 stamp.app ≡ true
  pub count : increment_refusal past (Some stamp) n ≡ None

pub record AbortMoment (k : Declarations) (past : Past) (c : ℕ) (g : ℕ) : Type 0 where
  pub open_context : IsOpen k past c (Ask.Abort (record { 0 = g }))
  pub busy : busy past g ≡ true

pub data AckMoment (k : Declarations) (past : Past) (c : ℕ) (op : OpId) : Type 0 where
  AckChange : IsBetween k past c → step k past c ≡ Some (What.Ack op) → Owes k past c (What.Ack op) → AckMoment k past c op
  AckStart : (before : Past) (lost : ℕ) (cells : Option Cells) → past ≡ entry_by c (What.End lost cells) ∷ before
      → context before c ≡ Some (What.Enter (Body.LocalStart op)) → AckMoment k past c op
  AckStop : (before : Past) (lost : ℕ) (cells : Option Cells) → past ≡ entry_by c (What.End lost cells) ∷ before
      → context before c ≡ Some (What.Enter (Body.LocalStop op)) → AckMoment k past c op

pub data GlobalDoneMoment (k : Declarations) (past : Past) (c : ℕ) (op : OpId) (ok : Bool) : Type 0 where
  GlobalStartDone : (before : Past) (lost : ℕ) (cells : Option Cells) → past ≡ entry_by c (What.End lost cells) ∷ before
      → context before c ≡ Some (What.Enter (Body.GlobalStart op)) → ok ≡ not (has_failed before c) → GlobalDoneMoment k past c op ok
  GlobalStopDone : (before : Past) (lost : ℕ) (cells : Option Cells) → past ≡ entry_by c (What.End lost cells) ∷ before
      → context before c ≡ Some (What.Enter (Body.GlobalStop op)) → ok ≡ true → GlobalDoneMoment k past c op ok

pub data DoneMoment (k : Declarations) (past : Past) (c : ℕ) (op : OpId) (ok : Bool) : Type 0 where
  DoneChange : (before : Past) → past ≡ entry_by c (What.Ack op) ∷ before → step k before c ≡ Some (What.Ack op)
      → all_acked k past op.0 ≡ true → ok ≡ true → DoneMoment k past c op ok
  DoneStart : (before : Past) (lost : ℕ) (cells : Option Cells)
      → past ≡ entry_by c (What.Ack op) ∷ entry_by c (What.End lost cells) ∷ before
      → context before c ≡ Some (What.Enter (Body.LocalStart op)) → all_acked k past op.0 ≡ true → ok ≡ true → DoneMoment k past c op ok
  FailedStart : (before : Past) (lost : ℕ) (cells : Option Cells)
      → past ≡ entry_by c (What.GlobalDone op false) ∷ entry_by c (What.End lost cells) ∷ before
      → context before c ≡ Some (What.Enter (Body.GlobalStart op)) → ok ≡ false → DoneMoment k past c op ok
  DoneStop : (before : Past) (lost : ℕ) (cells : Option Cells)
      → past ≡ entry_by c (What.GlobalDone op true) ∷ entry_by c (What.End lost cells) ∷ before
      → context before c ≡ Some (What.Enter (Body.GlobalStop op)) → ok ≡ true → DoneMoment k past c op ok

pub record NotifyMoment (past : Past) (g a : ℕ) : Type 0 where
  pub current : is_current past g a ≡ true
  pub count : count past g ≡ 0

pub data FaultMoment (k : Declarations) (past : Past) (c : ℕ) (w : What) : Type 0 where
  AskFault : (a : Ask) (f : Fault) → IsOpen k past c a → refusal k past c a ≡ Some f → w ≡ What.Fault (call_of a) f (scope k past c) → FaultMoment k past c w
  LostNote : (n : Note) → w ≡ What.Fault Call.Note (Fault.NoteLost n.queue) None → FaultMoment k past c w

-- the facts of an entry w of core c, made after past
abbrev pub Moment : Declarations → Limits → Past → ℕ → What → Type 0
Moment k l past c (What.Enter b) = EnterMoment k past c b
Moment k l past c (What.Take q n t) = TakeMoment k l past c q.0 n t
Moment k l past c (What.Start q e s) = StartMoment k past c q.0 e s
Moment k l past c (What.Untake q n) = UntakeMoment k past c q.0 n
Moment k l past c (What.End lost cells) = EndMoment k past c lost cells
Moment k l past c (What.EndAtomic rest cells) = EndAtomicMoment k past c rest cells
Moment k l past c What.EndOrdered = EndOrderedMoment k past c
Moment k l past c What.EndGroup = EndGroupMoment k past c
Moment k l past c (What.Alloc p e) = AllocMoment k past c p.0 e
Moment k l past c (What.Free h) = FreeMoment k past c h.0
Moment k l past c (What.Send h q t s) = SendMoment k past c h.0 q.0 t s
Moment k l past c (What.Keep h) = KeepMoment k past c h.0
Moment k l past c (What.Claim e) = ClaimMoment k past c e
Moment k l past c (What.Dequeue q e) = DequeueMoment k past c q.0 e
Moment k l past c (What.Out q kind words) = is_output (kind_of k q.0) ≡ true
Moment k l past c (What.Say v) = IsOpen k past c (Ask.Say v)
Moment k l past c (What.Enable q) = FlagMoment k past c q.0
Moment k l past c (What.Disable q) = FlagMoment k past c q.0
Moment k l past c (What.Begin op job notes) = BeginMoment k past c op job notes
Moment k l past c (What.GlobalDone op ok) = GlobalDoneMoment k past c op ok
Moment k l past c (What.Ack op) = AckMoment k past c op
Moment k l past c (What.Done op ok) = DoneMoment k past c op ok
Moment k l past c (What.Apply g a n notes) = ApplyMoment k past c g.0 a n notes
Moment k l past c (What.Increment g n) = IncrementMoment k past c g.0 n
Moment k l past c (What.Abort g) = AbortMoment k past c g.0
Moment k l past c (What.Notify g a) = NotifyMoment past g.0 a
Moment k l past c (What.Fault call f s) = FaultMoment k past c (What.Fault call f s)

open-from : (k : Declarations) (past : Past) (c : ℕ) (a : Ask) → IsTrue (may_ask k past c a) → IsOpen k past c a
open-from k past c a may = let o = asks-open k past c a may in record { began = o.0; context = o.1; may = may }

asked-moment : (k : Declarations) (l : Limits) (past : Past) (c : ℕ) (w : What) → Asked k past c w → Moment k l past c w
asked-moment k l past c w (Refused a f may is e) = subst (Moment k l past c) (sym e) (AskFault a f (open-from k past c a may) is refl)
asked-moment k l past c w (Allocs p kind words i may fits free e) = subst (Moment k l past c) (sym e)
    (record { open_context = open-from k past c (Ask.Alloc p kind words) may; fits = fits; index = i; free = free; handle = refl })
asked-moment k l past c w (Frees h may ok e) = subst (Moment k l past c) (sym e) (record { open_context = open-from k past c (Ask.Free h) may; rule = ok })
asked-moment k l past c w (Sends h q may ok unclosed e) =
    let o = open-from k past c (Ask.Send h q None) may in
    subst (Moment k l past c) (sym e)
    (record { began = o.began; context = o.context; rule = ok; closed = unclosed; ticket = refl; stamp = NoStamp o refl })
asked-moment k l past c w (SendsIn h q g may ok unclosed served active room e) =
    let o = open-from k past c (Ask.Send h q (Some g)) may in
    subst (Moment k l past c) (sym e)
    (record { began = o.began; context = o.context; rule = ok; closed = unclosed; ticket = refl; stamp = NewStamp g.0 o served active room refl })
asked-moment k l past c w (Keeps h may ok e) = subst (Moment k l past c) (sym e) (record { open_context = open-from k past c (Ask.Keep h) may; rule = ok })
asked-moment k l past c w (Claims may e) = subst (Moment k l past c) (sym e) (record { open_context = open-from k past c Ask.Claim may; event = refl })
asked-moment k l past c w (Dequeues q may kind e) = subst (Moment k l past c) (sym e)
    (record { open_context = open-from k past c (Ask.Dequeue q) may; unscheduled = kind; event = refl })
asked-moment k l past c w (Says v may e) = subst (Moment k l past c) (sym e) (open-from k past c (Ask.Say v) may)
asked-moment k l past c w (Enables q may served e) =
    let o = open-from k past c (Ask.Enable q) may in subst (Moment k l past c) (sym e) (record { began = o.began; context = o.context; served = served })
asked-moment k l past c w (Disables q may served e) =
    let o = open-from k past c (Ask.Disable q) may in subst (Moment k l past c) (sym e) (record { began = o.began; context = o.context; served = served })
asked-moment k l past c w (EndsAtomic cells a may is e) = subst (Moment k l past c) (sym e)
    (record { open_context = open-from k past c (Ask.EndAtomic cells) may; atomic = a; holds = is; counted = refl })
asked-moment k l past c w (EndsOrdered t may is e) = subst (Moment k l past c) (sym e)
    (record { open_context = open-from k past c Ask.EndOrdered may; ticket = t; is = is })
asked-moment k l past c w (EndsGroup s may is e) = subst (Moment k l past c) (sym e)
    (record { open_context = open-from k past c Ask.EndGroup may; stamp = s; is = is })
asked-moment k l past c w (Applies g n notes may counted ok e) = subst (Moment k l past c) (sym e)
    (record { open_context = open-from k past c (Ask.Apply g n notes) may; number = refl; count = counted; usable = ok })
asked-moment k l past c w (Increments s n may is now counted e) = subst (Moment k l past c) (sym e)
    (record { open_context = open-from k past c (Ask.Increment n) may; stamp = s; is = is; group = refl; current = now; count = counted })
asked-moment k l past c w (Aborts g may active e) = subst (Moment k l past c) (sym e)
    (record { open_context = open-from k past c (Ask.Abort g) may; busy = active })
asked-moment k l past c w (BeginsStart x notes may free is more ok e) = subst (Moment k l past c) (sym e)
    (record { number = refl; aim = StartJob x (open-from k past c (Ask.Start x notes) may) refl free is; more = more; usable = ok })
asked-moment k l past c w (BeginsStop x notes may free is more ok e) = subst (Moment k l past c) (sym e)
    (record { number = refl; aim = StopJob x (open-from k past c (Ask.Stop x notes) may) refl free is; more = more; usable = ok })
asked-moment k l past c w (BeginsModify g m notes may free is more ok e) = subst (Moment k l past c) (sym e)
    (record { number = refl; aim = ModifyJob g.0 m (open-from k past c (Ask.Modify g m notes) may) refl free is; more = more; usable = ok })
asked-moment k l past c w (Ends cells may e) = subst (Moment k l past c) (sym e) (record { open_context = open-from k past c (Ask.End cells) may; counted = refl })

step-moment : (k : Declarations) (l : Limits) (past : Past) (c : ℕ) (w : What) → IsBetween k past c → step k past c ≡ Some w → Owes k past c w → Moment k l past c w
step-moment k l past c w between owed (OwesAck n o g m is job un e) = subst (Moment k l past c) (sym e)
    (AckChange between (owed ∙ ap Some e) (OwesAck n o g m is job un refl))
step-moment k l past c w between owed (OwesGlobalStart n o x is job un by e) = subst (Moment k l past c) (sym e)
    (EntersStep between (owed ∙ ap Some e) (OwesGlobalStart n o x is job un by refl))
step-moment k l past c w between owed (OwesLocalStart n o x is job done un e) = subst (Moment k l past c) (sym e)
    (EntersStep between (owed ∙ ap Some e) (OwesLocalStart n o x is job done un refl))
step-moment k l past c w between owed (OwesLocalStop n o x is job done un e) = subst (Moment k l past c) (sym e)
    (EntersStep between (owed ∙ ap Some e) (OwesLocalStop n o x is job done un refl))
step-moment k l past c w between owed (OwesGlobalStop n o x is job done at last e) = subst (Moment k l past c) (sym e)
    (EntersStep between (owed ∙ ap Some e) (OwesGlobalStop n o x is job done at last refl))

follows-moment : (k : Declarations) (l : Limits) (past : Past) (c : ℕ) (w : What) → Follows k past c w → Moment k l past c w
follows-moment k l past c w (FirstStart before q n t x xs was closed queue taken e) = subst (Moment k l past c) (sym e)
    (record { closed = closed; queue = queue; item = x; rest = xs; taken = taken; event = refl; stamp = refl })
follows-moment k l past c w (Outs q kind words is e) = subst (Moment k l past c) (sym e) is
follows-moment k l past c w (NoteLost n e) = subst (Moment k l past c) (sym e) (LostNote n refl)
follows-moment k l past c w (AcksStart before lost cells op was is e) = subst (Moment k l past c) (sym e) (AckStart before lost cells was is)
follows-moment k l past c w (AcksStop before lost cells op was is e) = subst (Moment k l past c) (sym e) (AckStop before lost cells was is)
follows-moment k l past c w (GlobalStarts before lost cells op was is e) = subst (Moment k l past c) (sym e) (GlobalStartDone before lost cells was is refl)
follows-moment k l past c w (GlobalStops before lost cells op was is e) = subst (Moment k l past c) (sym e) (GlobalStopDone before lost cells was is refl)
follows-moment k l past c w (ChangeDone before op was owed all e) = subst (Moment k l past c) (sym e) (DoneChange before was owed all refl)
follows-moment k l past c w (StartDone before lost cells op was is all e) = subst (Moment k l past c) (sym e) (DoneStart before lost cells was is all refl)
follows-moment k l past c w (StartFailed before lost cells op was is e) = subst (Moment k l past c) (sym e) (FailedStart before lost cells was is refl)
follows-moment k l past c w (StopDone before lost cells op was is e) = subst (Moment k l past c) (sym e) (DoneStop before lost cells was is refl)
follows-moment k l past c w (Notifies s now zero e) = subst (Moment k l past c) (sym e) (record { current = now; count = zero })

came-moment : (k : Declarations) (l : Limits) (past : Past) (c : ℕ) (w : What) → Came k l past c w → Moment k l past c w
came-moment k l past c w (ByBoot none core e) = subst (Moment k l past c) (sym e) (EntersBoot none core refl)
came-moment k l past c w (ByStep between owed owes) = step-moment k l past c w between owed owes
came-moment k l past c w (ByTake q choice ready e) = subst (Moment k l past c) (sym e) (record { choice = choice; ready = ready; size = refl; ticket = refl })
came-moment k l past c w (ByStart q x xs closed queue taken e) = subst (Moment k l past c) (sym e)
    (record { closed = closed; queue = queue; item = x; rest = xs; taken = taken; event = refl; stamp = refl })
came-moment k l past c w (ByUntake q x xs closed queue taken e) = subst (Moment k l past c) (sym e)
    (record { closed = closed; queue = queue; item = x; rest = xs; taken = taken; size = refl })
came-moment k l past c w (ByAsk asked) = asked-moment k l past c w asked
came-moment k l past c w (ByTail follows) = follows-moment k l past c w follows

-- each entry of a lawful history has the facts of its kind
pub allowed-moment : (k : Declarations) (l : Limits) (past : Past) (e : Entry) → AllAllowed k l past → Allowed k l past e
    → Moment k l past e.core.0 e.what
allowed-moment k l past e all allowed = came-moment k l past e.core.0 e.what (allowed-came k l past e all allowed)
