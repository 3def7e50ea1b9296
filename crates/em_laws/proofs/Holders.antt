-- At most one core at a time is in an atomic context, and it is the holder.
use Rattle.std.proofs.Common.{◌≡◌, ◌≢◌, ℕ, ◌<◌, Bool, true, false, List, [], ◌∷◌, Option, Some, None, refl, sym, ◌∙◌, subst, ap, is_none, if◌then◌else◌}
use Rattle.std.proofs.lemmas.Bool.{eq-eqb}
use Rattle.em_log.specs.declared.declarations.Declarations.{Declarations}
use Rattle.em_log.specs.declared.entry.What.{What}
use Rattle.em_log.specs.declared.ids.Limits.{Limits}
use Rattle.em_log.specs.History.{Past, entry_by}
use Rattle.em_log.specs.Declarations.{atomic_of, is_number}
use Rattle.em_log.specs.Contexts.{context, context_after, take_queue, take_queue_after}
use Rattle.em_log.specs.Arrivals.{Item}
use Rattle.em_log.specs.Places.{taken, taken_after}
use Rattle.em_log.specs.Atomic.{is_empty, has_open_after, has_open_take, holder}
use Rattle.em_log.specs.Eligible.{is_unheld}
use Rattle.em_log.specs.Lawful.{AllAllowed}
use Rattle.em_log.specs.Laws.{HasTaken, within, within_after, OnlyHolder, Exclusive}
use Rattle.em_moments.proofs.Asked.{is_none-none}
use Rattle.em_moments.proofs.Choices.{IsReady}
use Rattle.em_moments.proofs.Steps.{is_number-some}
use Rattle.em_moments.proofs.Moments.{Moment, allowed-moment}
use Rattle.em_laws.proofs.Cores.{Compared, Same, Other, compared, none-some, some-inj, find-below, find-none}
use Rattle.em_laws.proofs.Served.{drop-some, cons-some}

-- what holds of the open takes after each entry
pub record Held (k : Declarations) (past : Past) : Type 0 where
  pub inside : (a c : ℕ) → within k past c ≡ Some a → has_open_take k past a c ≡ true
  pub queued : (a c q : ℕ) → HasTaken k past c q → atomic_of k q ≡ Some a → has_open_take k past a c ≡ true
  pub only : (a c d : ℕ) → has_open_take k past a c ≡ true → has_open_take k past a d ≡ true → d ≡ c
  pub bounded : (a c : ℕ) → has_open_take k past a c ≡ true → c < k.cores
  pub outside : (c : ℕ) → context past c ≡ None → within k past c ≡ None

-- an open take after an entry: it was open, or it is this entry
data OpenAfter (k : Declarations) (past : Past) (a c d : ℕ) (w : What) : Type 0 where
  OpenBefore : has_open_take k past a c ≡ true → OpenAfter k past a c d w
  OpensNow : (q : ℕ) → d ≡ c → atomic_of k q ≡ Some a → IsReady k past c q → OpenAfter k past a c d w

own-open : (k : Declarations) (l : Limits) (past : Past) (a c : ℕ) (w : What) → Moment k l past c w
    → has_open_after k a (taken k past c) w (has_open_take k past a c) ≡ true → OpenAfter k past a c c w
own-open k l past a c (What.Take q n t) m h = by_test (is_number a (atomic_of k q.0)) refl h
  where
    by_test : (b : Bool) → is_number a (atomic_of k q.0) ≡ b → (if b then true else has_open_take k past a c) ≡ true → OpenAfter k past a c c (What.Take q n t)
    by_test true is h = OpensNow q.0 refl (is_number-some a _ is) m.ready
    by_test false is h = OpenBefore h
own-open k l past a c (What.Untake q n) m h = absurd cc
own-open k l past a c (What.EndAtomic rest cells) m h = absurd cc
own-open k l past a c (What.End lost cells) m h = by_test (is_empty (taken k past c)) h
  where
    by_test : (b : Bool) → (if b then false else has_open_take k past a c) ≡ true → OpenAfter k past a c c (What.End lost cells)
    by_test true h = absurd cc
    by_test false h = OpenBefore h
own-open k l past a c w m h = OpenBefore h

open-after : (k : Declarations) (l : Limits) (past : Past) (a c d : ℕ) (w : What) → Moment k l past d w
    → has_open_take k (entry_by d w ∷ past) a c ≡ true → OpenAfter k past a c d w
open-after k l past a c d w m h = by_test (compared d c)
  where
    by_test : Compared d c → OpenAfter k past a c d w
    by_test (Same t e) =
        subst (λ n. OpenAfter k past a c n w) (sym e) (own-open k l past a c w (subst (λ n. Moment k l past n w) e m) (rw t at h))
    by_test (Other f e) = OpenBefore (rw f at h)

-- a free atomic context has no open take
pub free-none : (k : Declarations) (past : Past) (a c q : ℕ) → Held k past → atomic_of k q ≡ Some a → is_unheld k past q ≡ true → has_open_take k past a c ≡ true → ⊥
free-none k past a c q held is free opened =
    let unheld : is_none (holder k past a) ≡ true = rw is at free in
    let none : holder k past a ≡ None = is_none-none _ unheld in
    let closed : has_open_take k past a c ≡ false = find-none (has_open_take k past a) c k.cores none (held.bounded a c opened) in
    absurd (cc (closed, opened))

next-only : (k : Declarations) (past : Past) (a c d e : ℕ) (w : What) → Held k past → OpenAfter k past a c e w → OpenAfter k past a d e w → d ≡ c
next-only k past a c d e w held (OpenBefore h) (OpenBefore i) = held.only a c d h i
next-only k past a c d e w held (OpenBefore h) (OpensNow q same is ready) = absurd (free-none k past a c q held is ready.unheld h)
next-only k past a c d e w held (OpensNow q same is ready) (OpenBefore i) = absurd (free-none k past a d q held is ready.unheld i)
next-only k past a c d e w held (OpensNow q same is ready) (OpensNow r other at prepared) = sym other ∙ same

next-bounded : (k : Declarations) (past : Past) (a c d : ℕ) (w : What) → Held k past → d < k.cores → OpenAfter k past a c d w → c < k.cores
next-bounded k past a c d w held lt (OpenBefore h) = held.bounded a c h
next-bounded k past a c d w held lt (OpensNow q same is ready) = subst (λ n. n < k.cores) same lt

-- outside contexts

after-outside : (k : Declarations) (w : What) (was : Option What) (inside : Option ℕ) → (was ≡ None → inside ≡ None) → context_after w was ≡ None → within_after k w inside ≡ None
after-outside k (What.Enter b) was inside h e = absurd cc
after-outside k (What.Start q ev s) was inside h e = absurd cc
after-outside k (What.End lost cells) was inside h e = refl
after-outside k (What.EndAtomic rest cells) was inside h e = refl
after-outside k w was inside h e = h e

next-outside : (k : Declarations) (past : Past) (d : ℕ) (w : What) → Held k past → (c : ℕ) → context (entry_by d w ∷ past) c ≡ None → within k (entry_by d w ∷ past) c ≡ None
next-outside k past d w held c h = by_test (compared d c)
  where
    by_test : Compared d c → within k (entry_by d w ∷ past) c ≡ None
    by_test (Same t e) = rw t (after-outside k w (context past c) (within k past c) (held.outside c) (rw t at h))
    by_test (Other f e) = rw f (held.outside c (rw f at h))

-- inside

own-inside : (k : Declarations) (l : Limits) (past : Past) (a c : ℕ) (w : What) → Moment k l past c w → Held k past
    → within_after k w (within k past c) ≡ Some a → has_open_after k a (taken k past c) w (has_open_take k past a c) ≡ true
own-inside k l past a c (What.Enter b) m held h = absurd (none-some a h)
own-inside k l past a c (What.End lost cells) m held h = absurd (none-some a h)
own-inside k l past a c (What.EndAtomic rest cells) m held h = absurd (none-some a h)
own-inside k l past a c (What.Untake q n) m held h = absurd (none-some a (sym (held.outside c m.closed) ∙ h))
own-inside k l past a c (What.Start q e s) m held h = held.queued a c q.0 (cons-some m.item _ m.rest m.taken, m.queue) h
own-inside k l past a c (What.Take q n t) m held h = by_test (is_number a (atomic_of k q.0))
  where
    by_test : (b : Bool) → (if b then true else has_open_take k past a c) ≡ true
    by_test true = refl
    by_test false = held.inside a c h
own-inside k l past a c w m held h = held.inside a c h

next-inside : (k : Declarations) (l : Limits) (past : Past) (d : ℕ) (w : What) → Moment k l past d w → Held k past
    → (a c : ℕ) → within k (entry_by d w ∷ past) c ≡ Some a → has_open_take k (entry_by d w ∷ past) a c ≡ true
next-inside k l past d w m held a c h = by_test (compared d c)
  where
    by_test : Compared d c → has_open_take k (entry_by d w ∷ past) a c ≡ true
    by_test (Same t e) = rw t (own-inside k l past a c w (subst (λ n. Moment k l past n w) e m) held (rw t at h))
    by_test (Other f e) = rw f (held.inside a c (rw f at h))

-- queued

abbrev HasTakenAfter : Declarations → Past → ℕ → ℕ → What → Type 0
HasTakenAfter k past c q w = (taken_after k past c w (taken k past c) ≢ []) × (take_queue_after w (take_queue past c) ≡ Some q)

own-queued : (k : Declarations) (l : Limits) (past : Past) (a c q : ℕ) (w : What) → Held k past → HasTakenAfter k past c q w
    → atomic_of k q ≡ Some a → has_open_after k a (taken k past c) w (has_open_take k past a c) ≡ true
own-queued k l past a c q (What.Take r n t) held h is =
    let at : atomic_of k r.0 ≡ Some a = ap (λ (i : ℕ). atomic_of k i) (some-inj _ _ h.1) ∙ is in rw (at, eq-eqb a a refl) refl
own-queued k l past a c q (What.Start r e s) held h is = held.queued a c q (drop-some _ h.0, h.1) is
own-queued k l past a c q (What.Untake r n) held h is = absurd (h.0 refl)
own-queued k l past a c q (What.EndAtomic rest cells) held h is = absurd (h.0 refl)
own-queued k l past a c q (What.End lost cells) held h is = by_taken (taken k past c) h.0
  where
    by_taken : (xs : List Item) → xs ≢ [] → (if is_empty xs then false else has_open_take k past a c) ≡ true
    by_taken [] some = absurd (some refl)
    by_taken (x ∷ xs) some = held.queued a c q h is
own-queued k l past a c q w held h is = held.queued a c q h is

next-queued : (k : Declarations) (l : Limits) (past : Past) (d : ℕ) (w : What) → Held k past
    → (a c q : ℕ) → HasTaken k (entry_by d w ∷ past) c q → atomic_of k q ≡ Some a → has_open_take k (entry_by d w ∷ past) a c ≡ true
next-queued k l past d w held a c q h is = by_test (compared d c)
  where
    by_test : Compared d c → has_open_take k (entry_by d w ∷ past) a c ≡ true
    by_test (Same t e) = rw t (own-queued k l past a c q w held (rw t at h.0, rw t at h.1) is)
    by_test (Other f e) = rw f (held.queued a c q (rw f at h.0, rw f at h.1) is)

-- the law

only-holder : (k : Declarations) (past : Past) → Held k past → OnlyHolder k past
only-holder k past held a c h =
    let opened = held.inside a c h in
    record {
      holder = find-below (has_open_take k past a) c k.cores opened (λ d i. held.only a c d opened i) (held.bounded a c opened);
      alone = λ d i. held.only a c d opened i;
    }

next-held : (k : Declarations) (l : Limits) (past : Past) (d : ℕ) (w : What) → d < k.cores → Moment k l past d w → Held k past → Held k (entry_by d w ∷ past)
next-held k l past d w lt m held = record {
  inside = next-inside k l past d w m held;
  queued = next-queued k l past d w held;
  only = λ a c e h i. next-only k past a c e d w held (open-after k l past a c d w m h) (open-after k l past a e d w m i);
  bounded = λ a c h. next-bounded k past a c d w held lt (open-after k l past a c d w m h);
  outside = next-outside k past d w held;
}

pub held-after : (k : Declarations) (l : Limits) (past : Past) → AllAllowed k l past → Held k past
held-after k l [] all = record {
  inside = λ a c h. absurd (none-some a h);
  queued = λ a c q h is. absurd (h.0 refl);
  only = λ a c d h i. absurd (cc h);
  bounded = λ a c h. absurd (cc h);
  outside = λ c h. refl;
}
held-after k l (e ∷ past) all =
    next-held k l past e.core.0 e.what all.0.core (allowed-moment k l past e all.1 all.0) (held-after k l past all.1)

-- after each entry at most one core is in an atomic context, and it alone holds it
pub exclusive : (k : Declarations) (l : Limits) (past : Past) → AllAllowed k l past → Exclusive k past
exclusive k l [] all = only-holder k [] (held-after k l [] all)
exclusive k l (e ∷ past) all = (only-holder k (e ∷ past) (held-after k l (e ∷ past) all), exclusive k l past all.1)
