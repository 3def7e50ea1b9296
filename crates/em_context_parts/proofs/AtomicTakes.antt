-- A take of an atomic context that is not closed is of events that the core has taken, or of its open receive: so each
-- entry fits.
use Rattle.std.proofs.Common.{◌≡◌, ◌≢◌, ◌⊎◌, inl, inr, ℕ, zero, suc, ◌-◌, ◌<◌, ◌≤◌, min, Bool, true, false, List, [], ◌∷◌, length, take, Option, Some, None, if◌then◌else◌, arith, refl, ap, sym, ◌∙◌, subst, ⊎_elim}
use Rattle.std.specs.Prelude.{nat_lt}
use Rattle.std.specs.Option.{option_and_then}
use Rattle.std.proofs.lemmas.Bool.{eq-eqb, ltb-true, false_from_ne_true}
use Rattle.em_log.specs.declared.declarations.Declarations.{Declarations}
use Rattle.em_log.specs.declared.entry.What.{What}
use Rattle.em_log.specs.declared.ids.Cells.{Cells}
use Rattle.em_log.specs.declared.ids.Limits.{Limits}
use Rattle.em_log.specs.declared.ids.QueueId.{QueueId}
use Rattle.em_log.specs.History.{Past, entry_by}
use Rattle.em_log.specs.Declarations.{kind_of, is_atomic, atomic_of, is_number}
use Rattle.em_log.specs.Contexts.{context, context_after, received_queue, take_queue, take_queue_after}
use Rattle.em_log.specs.Arrivals.{Item}
use Rattle.em_log.specs.Places.{waiting, taken, taken_after, promised}
use Rattle.em_log.specs.Atomic.{is_empty, has_open_after, has_open_take, holder, if_holder, received_atomic, holds}
use Rattle.em_log.specs.Eligible.{ready, eligible, is_best}
use Rattle.em_log.specs.Lawful.{AllAllowed}
use Rattle.em_log.specs.Laws.{within, within_after}
use Rattle.em_moments.proofs.Asked.{and-true}
use Rattle.em_moments.proofs.Choices.{IsBetween, is_empty-none}
use Rattle.em_moments.proofs.Steps.{is_number-some}
use Rattle.em_moments.proofs.Moments.{Moment, TakeMoment, EntersBoot, EntersStep, allowed-moment}
use Rattle.em_laws.proofs.Cores.{Compared, Same, Other, compared, none-some, some-inj, find-below}
use Rattle.em_laws.proofs.Holders.{Held, held-after}
use Rattle.em_laws.proofs.Served.{cons-some}
use Rattle.em_context_parts.proofs.HeldAtomics.{HoldsNone, NoneUnless, EndsFitting, IsFitting, AreFitting}

-- the queue of a core's last take is of context a, and the core has events of it taken and no open context, or is in the
-- atomic context
pub record Serving (k : Declarations) (a : ℕ) (source : Option ℕ) (items : List Item) (began : Option What) (inside : Option ℕ) : Type 0 where
  pub queue : ℕ
  pub last : source ≡ Some queue
  pub atomic : atomic_of k queue ≡ Some a
  pub busy : ((items ≢ []) × (began ≡ None)) ⊎ (inside ≡ Some a)

abbrev pub Serves : Declarations → Past → ℕ → ℕ → Type 0
Serves k past a c = Serving k a (take_queue past c) (taken k past c) (context past c) (within k past c)

pub some-taken : (n : ℕ) (x : Item) (xs ys : List Item) → 0 < n → ys ≡ x ∷ xs → take n ys ≢ []
some-taken zero x xs ys lt is e = absurd (omega arith)
some-taken (suc n) x xs ys lt is e = let cut = sym (ap (take (suc n)) is) ∙ e in absurd (cc cut)

takes-some : (k : Declarations) (l : Limits) (past : Past) (c q n : ℕ) (t : Option ℕ) → 1 ≤ l.burst → TakeMoment k l past c q n t → 0 < n
takes-some k l past c q n t burst m = subst (λ i. 0 < i) (sym m.size) (by_kind (is_atomic (kind_of k q)))
  where
    by_kind : (b : Bool) → 0 < (if b then min l.burst (min (length (waiting k past q c)) (l.receives - promised k past)) else 1)
    by_kind true =
        let eligible_is = and-true (eligible k l past c q) (is_best k l past c q) m.choice in
        let room_is = and-true (ready k past c q) (nat_lt (promised k past) l.receives) eligible_is.0 in
        let room : promised k past < l.receives = ltb-true (promised k past) l.receives room_is.1 in
        let waits : length (waiting k past q c) ≡ suc (length m.ready.waits.1.0) = ap length m.ready.waits.1.1 in
        omega (arith, burst, room, waits)
    by_kind false = omega arith

module _ (k : Declarations) (l : Limits) (burst : 1 ≤ l.burst) (past : Past) (c a : ℕ) (held : Held k past)
    (was : has_open_take k past a c ≡ true → Serves k past a c) where
  abbrev OwnServing : What → Type 0
  OwnServing w =
      Serving k a (take_queue_after w (take_queue past c)) (taken_after k past c w (taken k past c)) (context_after w (context past c))
      (within_after k w (within k past c))

  -- between contexts a core has no open take
  between-none : IsBetween k past c → has_open_take k past a c ≡ true → ⊥
  between-none between opened =
      ⊎_elim (λ some. some.0 between.untaken) (λ inside. none-some a (sym (held.outside c between.closed) ∙ inside)) (was opened).busy

  take-serves : (q : QueueId) (n : ℕ) (t : Option ℕ) → TakeMoment k l past c q.0 n t → (b : Bool) → is_number a (atomic_of k q.0) ≡ b
      → (if b then true else has_open_take k past a c) ≡ true → OwnServing (What.Take q n t)
  take-serves q n t m true is h = record {
    queue = q.0;
    last = refl;
    atomic = is_number-some a _ is;
    busy = inl (
      some-taken n m.ready.waits.0 m.ready.waits.1.0 (waiting k past q.0 c)
          (takes-some k l past c q.0 n t burst m) m.ready.waits.1.1,
      m.ready.between.closed,
    );
  }
  take-serves q n t m false is h = absurd (between-none m.ready.between h)

  end-serves : (lost : ℕ) (cells : Option Cells) (xs : List Item) → taken k past c ≡ xs → (if is_empty xs then false else has_open_take k past a c) ≡ true
      → OwnServing (What.End lost cells)
  end-serves lost cells [] is h = absurd (cc h)
  end-serves lost cells (x ∷ xs) is h =
      let o = was h in record { queue = o.queue; last = o.last; atomic = o.atomic; busy = inl (cons-some x _ xs is, refl) }

  own-serves : (w : What) → Moment k l past c w → has_open_after k a (taken k past c) w (has_open_take k past a c) ≡ true → OwnServing w
  own-serves (What.Take q n t) m h = take-serves q n t m (is_number a (atomic_of k q.0)) refl h
  own-serves (What.Enter b) (EntersBoot none core boot) h = absurd (cc (sym (ap (λ p. has_open_take k p a c) none) ∙ h))
  own-serves (What.Enter b) (EntersStep between owed owes) h = absurd (between-none between h)
  own-serves (What.Untake q n) m h = absurd (cc h)
  own-serves (What.EndAtomic rest cells) m h = absurd (cc h)
  own-serves (What.Start q e s) m h =
      let o = was h in
      let same : o.queue ≡ q.0 = some-inj _ _ (sym o.last ∙ m.queue) in
      record { queue = o.queue; last = o.last; atomic = o.atomic; busy = inr (ap (atomic_of k) (sym same) ∙ o.atomic) }
  own-serves (What.End lost cells) m h = end-serves lost cells (taken k past c) refl h
  own-serves w m h = was h

next-serves : (k : Declarations) (l : Limits) → 1 ≤ l.burst → (past : Past) (d : ℕ) (w : What) → Moment k l past d w → Held k past
    → ((a c : ℕ) → has_open_take k past a c ≡ true → Serves k past a c)
    → (a c : ℕ) → has_open_take k (entry_by d w ∷ past) a c ≡ true → Serves k (entry_by d w ∷ past) a c
next-serves k l burst past d w m held was a c h = by_test (compared d c)
  where
    by_test : Compared d c → Serves k (entry_by d w ∷ past) a c
    by_test (Same t e) = rw t (own-serves k l burst past c a held (was a c) w (subst (λ n. Moment k l past n w) e m) (rw t at h))
    by_test (Other f e) = rw f (was a c (rw f at h))

pub open-serves : (k : Declarations) (l : Limits) → 1 ≤ l.burst → (past : Past) → AllAllowed k l past
    → (a c : ℕ) → has_open_take k past a c ≡ true → Serves k past a c
open-serves k l burst [] all a c h = absurd (cc h)
open-serves k l burst (e ∷ past) all a c h =
    next-serves k l burst past e.core.0 e.what (allowed-moment k l past e all.1 all.0) (held-after k l past all.1) (open-serves k l burst past all.1) a c h

-- a core in a context receives from a queue of it

own-received : (k : Declarations) (past : Past) (c a : ℕ) (w : What) → (within k past c ≡ Some a → received_atomic k past c ≡ Some a)
    → within_after k w (within k past c) ≡ Some a → option_and_then (atomic_of k) (received_queue (context_after w (context past c))) ≡ Some a
own-received k past c a (What.Start q e s) was h = h
own-received k past c a (What.Enter b) was h = absurd (none-some a h)
own-received k past c a (What.End lost cells) was h = absurd (none-some a h)
own-received k past c a (What.EndAtomic rest cells) was h = absurd (none-some a h)
own-received k past c a w was h = was h

next-received : (k : Declarations) (past : Past) (d c a : ℕ) (w : What) → (within k past c ≡ Some a → received_atomic k past c ≡ Some a)
    → within k (entry_by d w ∷ past) c ≡ Some a → received_atomic k (entry_by d w ∷ past) c ≡ Some a
next-received k past d c a w was h = by_test (compared d c)
  where
    by_test : Compared d c → received_atomic k (entry_by d w ∷ past) c ≡ Some a
    by_test (Same t same) = rw t (own-received k past c a w was (rw t at h))
    by_test (Other f apart) = rw f (was (rw f at h))

received-within : (k : Declarations) (past : Past) (c a : ℕ) → within k past c ≡ Some a → received_atomic k past c ≡ Some a
received-within k [] c a h = absurd (none-some a h)
received-within k (e ∷ past) c a h = next-received k past e.core.0 c a e.what (received-within k past c a) h

pub holds-within : (k : Declarations) (past : Past) (c a : ℕ) → Held k past → within k past c ≡ Some a → holds k past c ≡ Some a
holds-within k past c a held h =
    let opened = held.inside a c h in
    let is : holder k past a ≡ Some c = find-below (has_open_take k past a) c k.cores opened (λ d i. held.only a c d opened i) (held.bounded a c opened) in
    ap (option_and_then (if_holder k past c)) (received-within k past c a h)
    ∙ (ap (λ o. if is_number c o then Some a else None) is ∙ ap (λ b. if b then Some a else None) (eq-eqb c c refl))

-- fitting

module _ (k : Declarations) (l : Limits) (burst : 1 ≤ l.burst) (past : Past) (c : ℕ) (held : Held k past)
    (serves : (a d : ℕ) → has_open_take k past a d ≡ true → Serves k past a d) where
  take-fits : IsBetween k past c → HoldsNone k past c
  take-fits between a = false_from_ne_true (has_open_take k past a c) (between-none k l burst past c a held (serves a c) between)

  untake-fits : (q : ℕ) → take_queue past c ≡ Some q → (o : Option ℕ) → atomic_of k q ≡ o → NoneUnless k past c o
  untake-fits q of_queue (Some g) is = tt
  untake-fits q of_queue None is = λ a.
      false_from_ne_true (has_open_take k past a c) (λ opened.
      let s = serves a c opened in
      let same : s.queue ≡ q = some-inj _ _ (sym s.last ∙ of_queue) in
      none-some a (sym is ∙ (ap (atomic_of k) (sym same) ∙ s.atomic)))

  end-fits : (lost : ℕ) (cells : Option Cells) → Moment k l past c (What.End lost cells) → (b : Bool) → is_empty (taken k past c) ≡ b → EndsFitting k past c b cells
  end-fits lost (Some cs) m true is = tt
  end-fits lost (Some cs) m false is = tt
  end-fits lost None m false is = tt
  end-fits lost None m true is = λ a.
      false_from_ne_true (has_open_take k past a c) (λ opened.
      ⊎_elim (λ some. some.0 (is_empty-none (taken k past c) is))
      (λ inside.
      let here = m.open_context.context in
      let holding = holds-within k past c a held inside in
      let may = m.open_context.may in
      cc (rw (holding, here) at may))
      (serves a c opened).busy)

  next-fits : (w : What) → Moment k l past c w → IsFitting k past c w
  next-fits (What.Take q n t) m = take-fits m.ready.between
  next-fits (What.Untake q n) m = untake-fits q.0 m.queue (atomic_of k q.0) refl
  next-fits (What.End lost cells) m = end-fits lost cells m (is_empty (taken k past c)) refl
  next-fits w m = tt

pub all-fitting : (k : Declarations) (l : Limits) → 1 ≤ l.burst → (past : Past) → AllAllowed k l past → AreFitting k past
all-fitting k l burst [] all = tt
all-fitting k l burst (e ∷ past) all = (
  next-fits k l burst past e.core.0 (held-after k l past all.1) (open-serves k l burst past all.1) e.what (allowed-moment k l past e all.1 all.0),
  all-fitting k l burst past all.1,
)
