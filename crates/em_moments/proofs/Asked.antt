-- What an ask gives: the fault of its first refusal, or its own entry with what it needed.
use Rattle.std.proofs.Common.{◌≡◌, ℕ, ◌+◌, ◌==◌, Bool, true, false, not, ◌&&◌, ◌||◌, List, [], length, Option, Some, None, refl, ◌∙◌, ap, is_none, is_some, if◌then◌else◌}
use Rattle.std.specs.Prelude.{IsTrue, nat_lt, unwrap_or}
use Rattle.std.specs.Option.{option_or, option_map}
use Rattle.em_log.specs.declared.declarations.Declarations.{Declarations}
use Rattle.em_log.specs.declared.ask.Ask.{Ask}
use Rattle.em_log.specs.declared.entry.What.{What}
use Rattle.em_log.specs.declared.entry.Begun.{Begun}
use Rattle.em_log.specs.declared.fault.Fault.{Fault}
use Rattle.em_log.specs.declared.ids.Note.{Note}
use Rattle.em_log.specs.declared.ids.Stamp.{Stamp}
use Rattle.em_log.specs.declared.ids.Cells.{Cells}
use Rattle.em_log.specs.declared.ids.EoId.{EoId}
use Rattle.em_log.specs.declared.ids.GroupId.{GroupId}
use Rattle.em_log.specs.declared.ids.PoolId.{PoolId}
use Rattle.em_log.specs.declared.ids.QueueId.{QueueId}
use Rattle.em_log.specs.declared.ids.EventGroupId.{EventGroupId}
use Rattle.em_log.specs.declared.ids.EoState.{EoState}
use Rattle.em_log.specs.History.{Past}
use Rattle.em_log.specs.Declarations.{kind_of, is_unscheduled, is_served, words_of_pool, indices_of_pool}
use Rattle.em_log.specs.Contexts.{context}
use Rattle.em_log.specs.Handles.{held, next_handle, rule}
use Rattle.em_log.specs.Operations.{operations, pending, op_id}
use Rattle.em_log.specs.States.{state, closed}
use Rattle.em_log.specs.Order.{Ticket, open_ticket}
use Rattle.em_log.specs.Places.{waiting, taken, first_free, live}
use Rattle.em_log.specs.Atomic.{holds}
use Rattle.em_log.specs.EventGroups.{applications, busy, is_current, total, members, open_stamp}
use Rattle.em_log.specs.Leads.{event_with, alloc_refusal, closed_fault, kind_refusal, stamp_refusal, stamp_now, open_number, dequeued, claimed, notes_refusal, count_refusal, increment_refusal, own_group, count_limit, aims_at_object, aims_at_group, operations_fault, pending_fault, unless_created, unless_running, mask_fault, begin_refusal, call_of, refusal, own, scope, refused_or, lead}
use Rattle.em_log.specs.Lawful.{may_ask}

-- an entry that an ask of core c gives, and the facts of its moment
pub data Asked (k : Declarations) (past : Past) (c : ℕ) (w : What) : Type 0 where
  Refused : (a : Ask) (f : Fault) → IsTrue (may_ask k past c a) → refusal k past c a ≡ Some f → w ≡ What.Fault (call_of a) f (scope k past c)
      → Asked k past c w
  Allocs : (p : PoolId) (kind : ℕ) (words : List ℕ) (i : ℕ) → IsTrue (may_ask k past c (Ask.Alloc p kind words))
      → nat_lt (words_of_pool k p.0) (length words) ≡ false → first_free k past (indices_of_pool k p.0) ≡ Some i
      → w ≡ What.Alloc p (event_with (next_handle past i) kind words) → Asked k past c w
  Frees : (h : ℕ) → IsTrue (may_ask k past c (Ask.Free h)) → rule past c h ≡ None → w ≡ What.Free (record { 0 = h }) → Asked k past c w
  Sends : (h : ℕ) (q : QueueId) → IsTrue (may_ask k past c (Ask.Send h q None)) → rule past c h ≡ None → closed k past q.0 ≡ None
      → w ≡ What.Send (record { 0 = h }) q (open_number past c) None → Asked k past c w
  SendsIn : (h : ℕ) (q : QueueId) (g : EventGroupId) → IsTrue (may_ask k past c (Ask.Send h q (Some g))) → rule past c h ≡ None
      → closed k past q.0 ≡ None → is_served (kind_of k q.0) ≡ true → busy past g.0 ≡ true
      → (total past g.0 == members past g.0 (applications past g.0)) ≡ false
      → w ≡ What.Send (record { 0 = h }) q (open_number past c) (Some (stamp_now past g.0)) → Asked k past c w
  Keeps : (h : ℕ) → IsTrue (may_ask k past c (Ask.Keep h)) → rule past c h ≡ None → w ≡ What.Keep (record { 0 = h }) → Asked k past c w
  Claims : IsTrue (may_ask k past c Ask.Claim) → w ≡ What.Claim (claimed k past c) → Asked k past c w
  Dequeues : (q : QueueId) → IsTrue (may_ask k past c (Ask.Dequeue q)) → is_unscheduled (kind_of k q.0) ≡ true
      → w ≡ What.Dequeue q (dequeued past (waiting k past q.0 c)) → Asked k past c w
  Says : (v : ℕ) → IsTrue (may_ask k past c (Ask.Say v)) → w ≡ What.Say v → Asked k past c w
  Enables : (q : QueueId) → IsTrue (may_ask k past c (Ask.Enable q)) → is_served (kind_of k q.0) ≡ true → w ≡ What.Enable q → Asked k past c w
  Disables : (q : QueueId) → IsTrue (may_ask k past c (Ask.Disable q)) → is_served (kind_of k q.0) ≡ true → w ≡ What.Disable q → Asked k past c w
  EndsAtomic : (cells : Cells) (a : ℕ) → IsTrue (may_ask k past c (Ask.EndAtomic cells)) → holds k past c ≡ Some a
      → w ≡ What.EndAtomic (length (taken k past c)) cells → Asked k past c w
  EndsOrdered : (t : Ticket) → IsTrue (may_ask k past c Ask.EndOrdered) → open_ticket past c ≡ Some t → w ≡ What.EndOrdered → Asked k past c w
  EndsGroup : (s : Stamp) → IsTrue (may_ask k past c Ask.EndGroup) → open_stamp past c ≡ Some s → w ≡ What.EndGroup → Asked k past c w
  Applies : (g : EventGroupId) (n : ℕ) (notes : List Note) → IsTrue (may_ask k past c (Ask.Apply g n notes)) → count_refusal past g.0 n ≡ None
      → notes_refusal past c [] notes ≡ None → w ≡ What.Apply g (applications past g.0 + 1) n notes → Asked k past c w
  Increments : (s : Stamp) (n : ℕ) → IsTrue (may_ask k past c (Ask.Increment n)) → open_stamp past c ≡ Some s
      → is_current past s.group.0 s.app ≡ true → increment_refusal past (Some s) n ≡ None → w ≡ What.Increment s.group n → Asked k past c w
  Aborts : (g : EventGroupId) → IsTrue (may_ask k past c (Ask.Abort g)) → busy past g.0 ≡ true → w ≡ What.Abort g → Asked k past c w
  BeginsStart : (x : EoId) (notes : List Note) → IsTrue (may_ask k past c (Ask.Start x notes)) → pending past (aims_at_object x.0) ≡ None
      → state k past x.0 ≡ EoState.Created → operations_fault past ≡ None → notes_refusal past c [] notes ≡ None
      → w ≡ What.Begin (op_id (operations past)) (Begun.Start x) notes → Asked k past c w
  BeginsStop : (x : EoId) (notes : List Note) → IsTrue (may_ask k past c (Ask.Stop x notes)) → pending past (aims_at_object x.0) ≡ None
      → state k past x.0 ≡ EoState.Running → operations_fault past ≡ None → notes_refusal past c [] notes ≡ None
      → w ≡ What.Begin (op_id (operations past)) (Begun.Stop x) notes → Asked k past c w
  BeginsModify : (g : GroupId) (m : ℕ) (notes : List Note) → IsTrue (may_ask k past c (Ask.Modify g m notes)) → pending past (aims_at_group g.0) ≡ None
      → mask_fault k m ≡ None → operations_fault past ≡ None → notes_refusal past c [] notes ≡ None
      → w ≡ What.Begin (op_id (operations past)) (Begun.Modify g m) notes → Asked k past c w
  Ends : (cells : Option Cells) → IsTrue (may_ask k past c (Ask.End cells)) → w ≡ What.End (length (held past c)) cells → Asked k past c w

pub and-true : (a b : Bool) → (a && b) ≡ true → (a ≡ true) × (b ≡ true)
and-true true b h = (refl, h)
and-true false b h = absurd cc

pub is_some-some : {A : Type 0} (o : Option A) → is_some o ≡ true → (x : A) × (o ≡ Some x)
is_some-some None h = absurd cc
is_some-some (Some x) h = (x, refl)

pub is_none-none : {A : Type 0} (o : Option A) → is_none o ≡ true → o ≡ None
is_none-none None h = refl
is_none-none (Some x) h = absurd cc

-- an ask needs an open context
pub asks-open : (k : Declarations) (past : Past) (c : ℕ) (a : Ask) → IsTrue (may_ask k past c a) → (b : What) × (context past c ≡ Some b)
asks-open k past c a may = is_some-some (context past c) (and-true _ _ (and-true _ _ may).0).0

or-none : {A : Type 0} (o p : Option A) → option_or o p ≡ None → (o ≡ None) × (p ≡ None)
or-none None p h = (refl, h)
or-none (Some x) p h = absurd cc

if-none : {A : Type 0} (b : Bool) (x : A) → (if b then Some x else None) ≡ None → b ≡ false
if-none true x h = absurd cc
if-none false x h = refl

unless-none : {A : Type 0} (b : Bool) (x : A) → (if b then None else Some x) ≡ None → b ≡ true
unless-none true x h = refl
unless-none false x h = absurd cc

map-none : {A B : Type 0} (f : A → B) (o : Option A) → option_map f o ≡ None → o ≡ None
map-none f None h = refl
map-none f (Some x) h = absurd cc

is_none-false : {A : Type 0} (o : Option A) → is_none o ≡ false → (x : A) × (o ≡ Some x)
is_none-false None h = absurd cc
is_none-false (Some x) h = (x, refl)

alloc-free : (k : Declarations) (past : Past) (p n : ℕ) → alloc_refusal k past p n ≡ None
    → (nat_lt (words_of_pool k p) n ≡ false) × ((i : ℕ) × (first_free k past (indices_of_pool k p) ≡ Some i))
alloc-free k past p n h = by_size (nat_lt (words_of_pool k p) n) refl h
  where
    by_size : (b : Bool) → nat_lt (words_of_pool k p) n ≡ b
        → (if b then Some (Fault.BadSize (words_of_pool k p))
        else if is_none (first_free k past (indices_of_pool k p)) then Some (Fault.PoolEmpty (live k past (indices_of_pool k p))) else None) ≡ None
        → (nat_lt (words_of_pool k p) n ≡ false) × ((i : ℕ) × (first_free k past (indices_of_pool k p) ≡ Some i))
    by_size true is e = absurd cc
    by_size false is e = (is, is_none-false _ (if-none _ _ e))

stamp-busy : (past : Past) (g : ℕ) → stamp_refusal past g ≡ None
    → (busy past g ≡ true) × ((total past g == members past g (applications past g)) ≡ false)
stamp-busy past g h = by_busy (busy past g) refl h
  where
    by_busy : (b : Bool) → busy past g ≡ b
        → (if not b then Some (Fault.GroupIdle (record { 0 = g }))
        else if total past g == members past g (applications past g) then Some (Fault.BadCount (total past g)) else None) ≡ None
        → (busy past g ≡ true) × ((total past g == members past g (applications past g)) ≡ false)
    by_busy true is e = (is, if-none _ _ e)
    by_busy false is e = absurd cc

increment-current : (past : Past) (s : Stamp) (n : ℕ) → increment_refusal past (Some s) n ≡ None → is_current past s.group.0 s.app ≡ true
increment-current past s n h = by_current (is_current past s.group.0 s.app) refl h
  where
    by_current : (b : Bool) → is_current past s.group.0 s.app ≡ b
        → (if not b then Some (Fault.GroupIdle s.group)
        else if (n == 0) || nat_lt count_limit (total past s.group.0 + n) then Some (Fault.BadCount (total past s.group.0)) else None) ≡ None
        → is_current past s.group.0 s.app ≡ true
    by_current true is e = is
    by_current false is e = absurd cc

created : (s : EoState) → unless_created s ≡ None → s ≡ EoState.Created
created EoState.Created h = refl
created EoState.Starting h = absurd cc
created EoState.Running h = absurd cc
created EoState.Stopping h = absurd cc

running : (s : EoState) → unless_running s ≡ None → s ≡ EoState.Running
running EoState.Created h = absurd cc
running EoState.Starting h = absurd cc
running EoState.Running h = refl
running EoState.Stopping h = absurd cc

asked-begin : (past : Past) (c : ℕ) (aims : Begun → Bool) (o : Option Fault) (notes : List Note) → begin_refusal past c aims o notes ≡ None
    → (pending past aims ≡ None) × (o ≡ None) × (operations_fault past ≡ None) × (notes_refusal past c [] notes ≡ None)
asked-begin past c aims o notes h =
    let a = or-none (pending_fault past aims) _ h in
    let b = or-none o _ a.1 in
    let d = or-none (operations_fault past) _ b.1 in
    (map-none _ (pending past aims) a.0, b.0, d.0, d.1)

asked-own : (k : Declarations) (past : Past) (c : ℕ) (a : Ask) (w : What) → IsTrue (may_ask k past c a) → refusal k past c a ≡ None
    → w ≡ own k past c a → Asked k past c w
asked-own k past c (Ask.Alloc p kind words) w may none e =
    let f = alloc-free k past p.0 (length words) none in
    Allocs p kind words f.1.0 may f.0 f.1.1 (e ∙ ap (λ o. What.Alloc p (event_with (next_handle past (unwrap_or o 0)) kind words)) f.1.1)
asked-own k past c (Ask.Free h) w may none e = Frees h may none e
asked-own k past c (Ask.Send h q None) w may none e =
    let f = or-none (rule past c h) _ none in Sends h q may f.0 (map-none _ (closed k past q.0) f.1) e
asked-own k past c (Ask.Send h q (Some g)) w may none e =
    let f = or-none (rule past c h) _ none in
    let d = or-none (kind_refusal k q.0) _ f.1 in
    let b = or-none (closed_fault k past q.0) _ d.1 in
    let s = stamp-busy past g.0 b.1 in
    SendsIn h q g may f.0 (map-none _ (closed k past q.0) b.0) (unless-none _ _ d.0) s.0 s.1 e
asked-own k past c (Ask.Keep h) w may none e = Keeps h may none e
asked-own k past c Ask.Claim w may none e = Claims may e
asked-own k past c (Ask.Dequeue q) w may none e = Dequeues q may (unless-none _ _ none) e
asked-own k past c (Ask.Say v) w may none e = Says v may e
asked-own k past c (Ask.Enable q) w may none e = Enables q may (unless-none _ _ none) e
asked-own k past c (Ask.Disable q) w may none e = Disables q may (unless-none _ _ none) e
asked-own k past c (Ask.EndAtomic cells) w may none e =
    let f = is_none-false (holds k past c) (if-none _ _ none) in EndsAtomic cells f.0 may f.1 e
asked-own k past c Ask.EndOrdered w may none e =
    let f = is_none-false (open_ticket past c) (if-none _ _ none) in EndsOrdered f.0 may f.1 e
asked-own k past c Ask.EndGroup w may none e =
    let f = is_none-false (open_stamp past c) (if-none _ _ none) in EndsGroup f.0 may f.1 e
asked-own k past c Ask.Cell w may none e = absurd cc
asked-own k past c (Ask.Apply g n notes) w may none e =
    let f = or-none (count_refusal past g.0 n) _ none in Applies g n notes may f.0 f.1 e
asked-own k past c (Ask.Increment n) w may none e = by_stamp (open_stamp past c) refl none e
  where
    by_stamp : (o : Option Stamp) → open_stamp past c ≡ o → increment_refusal past o n ≡ None → w ≡ What.Increment (own_group o) n → Asked k past c w
    by_stamp None is none e = absurd cc
    by_stamp (Some s) is none e = Increments s n may is (increment-current past s n none) none e
asked-own k past c (Ask.Abort g) w may none e = Aborts g may (unless-none _ _ none) e
asked-own k past c (Ask.Start x notes) w may none e =
    let f = asked-begin past c (aims_at_object x.0) _ notes none in BeginsStart x notes may f.0 (created _ f.1) f.2 f.3 e
asked-own k past c (Ask.Stop x notes) w may none e =
    let f = asked-begin past c (aims_at_object x.0) _ notes none in BeginsStop x notes may f.0 (running _ f.1) f.2 f.3 e
asked-own k past c (Ask.Modify g m notes) w may none e =
    let f = asked-begin past c (aims_at_group g.0) _ notes none in BeginsModify g m notes may f.0 f.1 f.2 f.3 e
asked-own k past c Ask.Fail w may none e = absurd cc
asked-own k past c (Ask.End cells) w may none e = Ends cells may e

-- the entry of an ask is its fault or its own entry
pub lead-asked : (k : Declarations) (past : Past) (c : ℕ) (a : Ask) (w : What) → IsTrue (may_ask k past c a) → w ≡ lead k past c a → Asked k past c w
lead-asked k past c a w may e = by_refusal (refusal k past c a) refl e
  where
    by_refusal : (o : Option Fault) → refusal k past c a ≡ o → w ≡ refused_or k past c (call_of a) o (own k past c a) → Asked k past c w
    by_refusal None is e = asked-own k past c a w may is e
    by_refusal (Some f) is e = Refused a f may is e
