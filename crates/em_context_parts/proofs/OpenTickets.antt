-- An open ticket is of the ordered queue that its core receives from, or of which the core has just taken: so each take
-- and each send has its ticket.
use Rattle.std.proofs.Common.{◌≡◌, ◌≢◌, inl, ℕ, Bool, true, false, List, [], ◌∷◌, Option, Some, None, if◌then◌else◌, arith, refl, ap, sym, ◌∙◌, subst}
use Rattle.std.specs.Option.{option_map}
use Rattle.em_log.specs.declared.declarations.Declarations.{Declarations}
use Rattle.em_log.specs.declared.entry.Entry.{Entry}
use Rattle.em_log.specs.declared.entry.Body.{Body}
use Rattle.em_log.specs.declared.entry.Event.{Event}
use Rattle.em_log.specs.declared.entry.What.{What}
use Rattle.em_log.specs.declared.ids.Kind.{Kind}
use Rattle.em_log.specs.declared.ids.Cells.{Cells}
use Rattle.em_log.specs.declared.ids.Limits.{Limits}
use Rattle.em_log.specs.declared.ids.QueueId.{QueueId}
use Rattle.em_log.specs.declared.ids.Stamp.{Stamp}
use Rattle.em_log.specs.History.{Past, entry_by}
use Rattle.em_log.specs.Declarations.{kind_of, is_ordered, is_atomic}
use Rattle.em_log.specs.Contexts.{context, context_after, received_queue, receives_from, take_queue, take_queue_after}
use Rattle.em_log.specs.Arrivals.{Item}
use Rattle.em_log.specs.Eligible.{ticket_drawn}
use Rattle.em_log.specs.Places.{waiting, taken, taken_after}
use Rattle.em_log.specs.Order.{Ticket, takes, open_ticket, ticket_after, ticket_of_send}
use Rattle.em_log.specs.Leads.{open_number}
use Rattle.em_log.specs.Tails.{start_of}
use Rattle.em_log.specs.Lawful.{Allowed, AllAllowed}
use Rattle.em_log.specs.Laws.{Each}
use Rattle.em_moments.proofs.Moments.{Moment, EnterMoment, EntersBoot, EntersStep, TakeMoment, StartMoment, EndAtomicMoment, allowed-moment}
use Rattle.em_laws.proofs.Cores.{Compared, Same, Other, compared, none-some, some-inj}
use Rattle.em_laws.proofs.Single.{single, one-next}
use Rattle.em_context_parts.proofs.AtomicTakes.{some-taken}

-- the ticket's queue is ordered, and the core receives from it, or has taken an event of it that starts next
pub data Owning (k : Declarations) (began : Option What) (source : Option ℕ) (items : List Item) (t : Ticket) : Type 0 where
  Receiving : received_queue began ≡ Some t.queue → Owning k began source items t
  Starting : began ≡ None → source ≡ Some t.queue → items ≢ [] → Owning k began source items t

pub record HasContext (k : Declarations) (past : Past) (c : ℕ) (t : Ticket) : Type 0 where
  pub ordered : is_ordered (kind_of k t.queue) ≡ true
  pub owning : Owning k (context past c) (take_queue past c) (taken k past c) t

not-atomic : (kind : Kind) → is_ordered kind ≡ true → is_atomic kind ≡ false
not-atomic Kind.Ordered e = refl
not-atomic Kind.Atomic e = absurd cc
not-atomic Kind.Parallel e = refl
not-atomic Kind.Local e = refl
not-atomic Kind.Unscheduled e = refl
not-atomic Kind.Output e = refl

pub record DrawnIf (b : Bool) (t n : ℕ) : Type 0 where
  pub is : b ≡ true
  pub number : t ≡ n

pub drawn-if : (b : Bool) (t n : ℕ) → Some t ≡ (if b then Some n else None) → DrawnIf b t n
drawn-if true t n e = record { is = refl; number = cc }
drawn-if false t n e = absurd cc

module _ (k : Declarations) (l : Limits) (past : Past) (c : ℕ) (all : AllAllowed k l past)
    (was : (t : Ticket) → open_ticket past c ≡ Some t → HasContext k past c t) where
  abbrev OwningNow : What → Ticket → Type 0
  OwningNow w t =
      Owning k (context_after w (context past c)) (take_queue_after w (take_queue past c)) (taken_after k past c w (taken k past c)) t

  -- a core that has no open context and nothing taken has no open ticket
  none-open : context past c ≡ None → taken k past c ≡ [] → (t : Ticket) → open_ticket past c ≡ Some t → ⊥
  none-open closed untaken t h = by_owning (was t h).owning
    where
      by_owning : Owning k (context past c) (take_queue past c) (taken k past c) t → ⊥
      by_owning (Receiving is) = none-some t.queue (sym (ap received_queue closed) ∙ is)
      by_owning (Starting closed queue some) = some untaken

  take-owns : (q : QueueId) (n u : ℕ) → TakeMoment k l past c q.0 n (Some u) → (t : Ticket) → record { queue = q.0; number = u } ≡ t
      → (is_ordered (kind_of k t.queue) ≡ true) × OwningNow (What.Take q n (Some u)) t
  take-owns q n u m t is =
      let queue : q.0 ≡ t.queue = ap (λ (v : Ticket). v.queue) is in
      let ordered = drawn-if (is_ordered (kind_of k q.0)) u (takes past q.0) m.ticket in
      let one : n ≡ 1 = m.size ∙ rw (not-atomic (kind_of k q.0) ordered.is) refl in
      let w = m.ready.waits in (
        ap (λ (i : ℕ). is_ordered (kind_of k i)) (sym queue) ∙ ordered.is,
        Starting m.ready.between.closed (ap Some queue) (some-taken n w.0 w.1.0 (waiting k past q.0 c) (omega (arith, one)) w.1.1),
      )

  untake-none : (q : QueueId) (n : ℕ) → Allowed k l past (entry_by c (What.Untake q n)) → context past c ≡ None → (t : Ticket) → HasContext k past c t → ⊥
  untake-none q n allowed closed t h = by_owning h.owning
    where
      by_owning : Owning k (context past c) (take_queue past c) (taken k past c) t → ⊥
      by_owning (Receiving is) = none-some t.queue (sym (ap received_queue closed) ∙ is)
      by_owning (Starting closed queue some) =
          let o = single k l past all c t.queue (some, queue) (inl (not-atomic (kind_of k t.queue) h.ordered)) in
          let is : What.Untake q n ≡ start_of past t.queue o.item =
          ap (λ (v : Entry). v.what) (one-next k l past (entry_by c (What.Untake q n)) c t.queue o allowed) in
          cc is

  start-owns : (q : QueueId) (e : Event) (s : Option Stamp) → StartMoment k past c q.0 e s → (t : Ticket) → HasContext k past c t → OwningNow (What.Start q e s) t
  start-owns q e s m t h = by_owning h.owning
    where
      by_owning : Owning k (context past c) (take_queue past c) (taken k past c) t → OwningNow (What.Start q e s) t
      by_owning (Receiving is) = absurd (none-some t.queue (sym (ap received_queue m.closed) ∙ is))
      by_owning (Starting closed queue some) = Receiving (sym m.queue ∙ queue)

  end_atomic-owns : (rest : ℕ) (cells : Cells) → EndAtomicMoment k past c rest cells → (t : Ticket) → HasContext k past c t → OwningNow (What.EndAtomic rest cells) t
  end_atomic-owns rest cells m t h = by_owning h.owning
    where
      by_owning : Owning k (context past c) (take_queue past c) (taken k past c) t → OwningNow (What.EndAtomic rest cells) t
      by_owning (Receiving is) = Receiving is
      by_owning (Starting closed queue some) = absurd (none-some m.open_context.began (sym closed ∙ m.open_context.context))

  enter-none : (b : Body) → EnterMoment k past c b → (t : Ticket) → open_ticket past c ≡ Some t → ⊥
  enter-none b (EntersBoot none core is) t h = none-some t (sym (ap (λ p. open_ticket p c) none) ∙ h)
  enter-none b (EntersStep between owed owes) t h = none-open between.closed between.untaken t h

  abbrev Owned : What → Ticket → Type 0
  Owned w t = (is_ordered (kind_of k t.queue) ≡ true) × OwningNow w t

  own : (w : What) → Moment k l past c w → Allowed k l past (entry_by c w) → (t : Ticket) → ticket_after w (open_ticket past c) ≡ Some t → Owned w t
  own (What.Take q n (Some u)) m allowed t h = take-owns q n u m t (some-inj _ _ h)
  own (What.Take q n None) m allowed t h = absurd (none-some t h)
  own What.EndOrdered m allowed t h = absurd (none-some t h)
  own (What.End lost cells) m allowed t h = absurd (none-some t h)
  own (What.Start q e s) m allowed t h = let o = was t h in (o.ordered, start-owns q e s m t o)
  own (What.Enter b) m allowed t h = absurd (enter-none b m t h)
  own (What.Untake q n) m allowed t h = absurd (untake-none q n allowed m.closed t (was t h))
  own (What.EndAtomic rest cells) m allowed t h = let o = was t h in (o.ordered, end_atomic-owns rest cells m t o)
  own w m allowed t h = let o = was t h in (o.ordered, o.owning)

next-owned : (k : Declarations) (l : Limits) (past : Past) (d : ℕ) (w : What) → AllAllowed k l past → Allowed k l past (entry_by d w) → Moment k l past d w
    → ((c : ℕ) (t : Ticket) → open_ticket past c ≡ Some t → HasContext k past c t)
    → (c : ℕ) (t : Ticket) → open_ticket (entry_by d w ∷ past) c ≡ Some t → HasContext k (entry_by d w ∷ past) c t
next-owned k l past d w all allowed m was c t h = by_test (compared d c)
  where
    by_test : Compared d c → HasContext k (entry_by d w ∷ past) c t
    by_test (Same u e) =
        let o =
        own k l past c all (was c) w (subst (λ n. Moment k l past n w) e m) (subst (λ n. Allowed k l past (entry_by n w)) e allowed) t
        (rw u at h) in
        record { ordered = o.0; owning = rw u o.1 }
    by_test (Other f e) = let o = was c t (rw f at h) in record { ordered = o.ordered; owning = rw f o.owning }

-- each open ticket has its context
pub owned : (k : Declarations) (l : Limits) (past : Past) → AllAllowed k l past → (c : ℕ) (t : Ticket) → open_ticket past c ≡ Some t → HasContext k past c t
owned k l [] all c t h = absurd (none-some t h)
owned k l (e ∷ past) all c t h =
    next-owned k l past e.core.0 e.what all.1 all.0 (allowed-moment k l past e all.1 all.0) (owned k l past all.1) c t h

-- in an open context it is of the queue that the context receives from
pub received : (k : Declarations) (l : Limits) (past : Past) → AllAllowed k l past → (c : ℕ) (began : What) (t : Ticket) → context past c ≡ Some began
    → open_ticket past c ≡ Some t → receives_from past c ≡ Some t.queue
received k l past all c began t is h = by_owning (owned k l past all c t h).owning
  where
    by_owning : Owning k (context past c) (take_queue past c) (taken k past c) t → receives_from past c ≡ Some t.queue
    by_owning (Receiving from) = from
    by_owning (Starting closed queue some) = absurd (none-some began (sym closed ∙ is))

-- a core that has no open context and nothing taken has no open ticket
pub unticketed : (k : Declarations) (l : Limits) (past : Past) → AllAllowed k l past → (c : ℕ) → context past c ≡ None → taken k past c ≡ []
    → open_ticket past c ≡ None
unticketed k l past all c closed untaken = by_ticket (open_ticket past c) refl
  where
    by_ticket : (o : Option Ticket) → open_ticket past c ≡ o → open_ticket past c ≡ None
    by_ticket None is = is
    by_ticket (Some t) is = absurd (none-open k l past c all (owned k l past all c) closed untaken t is)

-- the ticket that a send in an open context shows is the core's open one
pub sent-under : (k : Declarations) (l : Limits) (past : Past) → AllAllowed k l past → (c : ℕ) (began : What) → context past c ≡ Some began
    → ticket_of_send past c (open_number past c) ≡ open_ticket past c
sent-under k l past all c began is = by_ticket (open_ticket past c) refl
  where
    by_ticket : (o : Option Ticket) → open_ticket past c ≡ o → ticket_of_send past c (option_map (λ (t : Ticket). t.number) o) ≡ o
    by_ticket None open_is = refl
    by_ticket (Some t) open_is =
        ap (option_map (λ (q : ℕ). record { queue = q; number = t.number })) (received k l past all c began t is open_is)

-- a core that takes has no open ticket, a take has the ticket that it draws, and a send that of its context
abbrev pub IsFitting : Declarations → Past → ℕ → What → Type 0
IsFitting k past c (What.Take q n t) = (open_ticket past c ≡ None) × (t ≡ ticket_drawn k past q.0)
IsFitting k past c (What.Send h q t s) = ticket_of_send past c t ≡ open_ticket past c
IsFitting k past c w = Unit {0}

abbrev pub AreFitting : Declarations → Past → Type 0
AreFitting k past = Each (IsFitting k) past

fits : (k : Declarations) (l : Limits) (past : Past) → AllAllowed k l past → (c : ℕ) (w : What) → Moment k l past c w → IsFitting k past c w
fits k l past all c (What.Take q n t) m = (unticketed k l past all c m.ready.between.closed m.ready.between.untaken, m.ticket)
fits k l past all c (What.Send h q t s) m = ap (ticket_of_send past c) m.ticket ∙ sent-under k l past all c m.began m.context
fits k l past all c w m = tt

pub all-fitting : (k : Declarations) (l : Limits) (past : Past) → AllAllowed k l past → AreFitting k past
all-fitting k l [] all = tt
all-fitting k l (e ∷ past) all = (fits k l past all.1 e.core.0 e.what (allowed-moment k l past e all.1 all.0), all-fitting k l past all.1)
