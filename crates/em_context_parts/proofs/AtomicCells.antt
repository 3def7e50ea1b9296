-- By the steps of a history the cells of a free atomic context are those of the history, and an open context holds what
-- its core holds.
use Rattle.std.proofs.Common.{◌≡◌, ◌≤◌, ℕ, Bool, true, false, List, [], ◌∷◌, Option, Some, None, if◌then◌else◌, is_some, refl, ap, sym, ◌∙◌, subst, ⊎_elim}
use Rattle.std.specs.Option.{option_and_then}
use Rattle.std.proofs.lemmas.Bool.{eq-eqb, false_from_ne_true}
use Rattle.em_log.specs.declared.declarations.Declarations.{Declarations}
use Rattle.em_log.specs.declared.entry.What.{What}
use Rattle.em_log.specs.declared.ids.Cells.{Cells}
use Rattle.em_log.specs.declared.ids.Limits.{Limits}
use Rattle.em_log.specs.History.{Past, entry_by}
use Rattle.em_log.specs.Declarations.{atomic_of, is_number, below}
use Rattle.em_log.specs.Contexts.{context}
use Rattle.em_log.specs.Places.{taken}
use Rattle.em_log.specs.Atomic.{is_empty, has_open_take, if_holder, received_atomic, holds}
use Rattle.em_log.specs.Atomic as log
use Rattle.em_log.specs.Lawful.{AllAllowed}
use Rattle.em_moments.proofs.Asked.{and-true, is_some-some}
use Rattle.em_moments.proofs.Steps.{is_number-some}
use Rattle.em_moments.proofs.Moments.{Moment, allowed-moment}
use Rattle.em_laws.proofs.Cores.{Compared, Same, Other, compared, none-some, some-inj, find-none}
use Rattle.em_laws.proofs.Holders.{Held, held-after}
use Rattle.em_laws.proofs.Served.{cons-some}
use Rattle.em_atomic.specs.Steps.{AtomicStep, Given}
use Rattle.em_atomic.specs.Holding.{held, cells}
use Rattle.em_context_parts.specs.AtomicSteps.{grabbed_steps, untaken_steps, ended_steps, atomic_after, atomic_steps}
use Rattle.em_context_parts.specs.AtomicAlike.{AtomicsAlike}
use Rattle.em_context_parts.proofs.HeldAtomics.{NoneUnless, EndsFitting, IsFitting, AreFitting, same-held}
use Rattle.em_context_parts.proofs.AtomicTakes.{Serves, all-fitting, open-serves, holds-within}
use Rattle.em_context_parts.proofs.AtomicHolders.{Agree, agree, find-true, held-open, open-held, same-holder}

-- no core has an open take of context a
abbrev Free : Declarations → Past → ℕ → Type 0
Free k past a = (c : ℕ) → has_open_take k past a c ≡ false

both_false : (b : Bool) → b ≡ true → b ≡ false → ⊥
both_false b t f = absurd (cc (sym t ∙ f))

-- a core that holds a context receives from a queue of it, and is its holder
holds-parts : (k : Declarations) (past : Past) (c a : ℕ) → holds k past c ≡ Some a → (received_atomic k past c ≡ Some a) × (log.holder k past a ≡ Some c)
holds-parts k past c a h = by_received (received_atomic k past c) refl h
  where
    by_received : (o : Option ℕ) → received_atomic k past c ≡ o → option_and_then (if_holder k past c) o ≡ Some a
        → (received_atomic k past c ≡ Some a) × (log.holder k past a ≡ Some c)
    by_received None is h = absurd (none-some a h)
    by_received (Some r) is h = by_test (is_number c (log.holder k past r)) refl h
      where
        by_test : (b : Bool) → is_number c (log.holder k past r) ≡ b → (if b then Some r else None) ≡ Some a
            → (received_atomic k past c ≡ Some a) × (log.holder k past a ≡ Some c)
        by_test false t h = absurd (none-some a h)
        by_test true t h =
            let same : r ≡ a = some-inj _ _ h in
            (is ∙ h, subst (λ j. log.holder k past j ≡ Some c) same (is_number-some c (log.holder k past r) t))

module _ (k : Declarations) (l : Limits) (past : Past) (laws : Held k past) (fit : AreFitting k past) (agrees : Agree (atomic_steps k past))
    (a : ℕ) (was : Free k past a → cells (atomic_steps k past) a ≡ log.cells k past a) (d : ℕ) where
  abbrev s : List AtomicStep
  s = atomic_steps k past

  abbrev Same_cells : What → Type 0
  Same_cells w = cells (atomic_after k past d w s) a ≡ log.cells_after k past a d w (log.cells k past a)

  -- of what was open before an entry, all but core d's own stays open
  free-others : (w : What) → Free k (entry_by d w ∷ past) a → has_open_take k past a d ≡ false → Free k past a
  free-others w free own c = by_test (compared d c)
    where
      by_test : Compared d c → has_open_take k past a c ≡ false
      by_test (Same t e) = subst (λ j. has_open_take k past a j ≡ false) e own
      by_test (Other f e) = rw f at (free c)

  not_held : is_number a (held s d) ≡ false → has_open_take k past a d ≡ false
  not_held f = same-held k past fit a d ∙ f

  -- what core d holds is given back with these cells
  given : (w : What) (cs new : List ℕ) → Free k (entry_by d w ∷ past) a → (is_number a (held s d) ≡ true → cs ≡ new)
      → (is_number a (held s d) ≡ false → log.cells k past a ≡ new) → cells (Given d cs ∷ s) a ≡ new
  given w cs new free same other = by_test (is_number a (held s d)) refl
    where
      by_test : (b : Bool) → is_number a (held s d) ≡ b → (if b then cs else cells s a) ≡ new
      by_test true is = same is
      by_test false is = was (free-others w free (not_held is)) ∙ other is

  -- the context that core d holds is the one that it receives from
  own-context : (g : ℕ) → holds k past d ≡ Some g → received_atomic k past d ≡ held s d
  own-context g is =
      let parts = holds-parts k past d g is in
      parts.0 ∙ sym (held-open k l past laws fit agrees g d (find-true (has_open_take k past g) (below k.cores) d parts.1))

  ends-with : (w : What) (cs : List ℕ) (g : ℕ) → holds k past d ≡ Some g → Free k (entry_by d w ∷ past) a
      → cells (Given d cs ∷ s) a ≡ (if is_number a (received_atomic k past d) then cs else log.cells k past a)
  ends-with w cs g is free =
      given w cs (if is_number a (received_atomic k past d) then cs else log.cells k past a) free
      (λ t. sym (ap (λ b. if b then cs else log.cells k past a) (ap (is_number a) (own-context g is) ∙ t)))
      (λ f. sym (ap (λ b. if b then cs else log.cells k past a) (ap (is_number a) (own-context g is) ∙ f)))

  still-open : (lost : ℕ) (o : Option Cells) → Free k (entry_by d (What.End lost o) ∷ past) a → is_empty (taken k past d) ≡ false → has_open_take k past a d ≡ false
  still-open lost o free is = rw (eq-eqb d d refl, is) at (free d)

  -- an end with cells is of a receive that holds a context
  cells-hold : (lost : ℕ) (cs : Cells) → Moment k l past d (What.End lost (Some cs)) → (g : ℕ) × (holds k past d ≡ Some g)
  cells-hold lost cs m = is_some-some (holds k past d) (by_test (is_some (holds k past d)) (and-true _ _ m.open_context.may).1)
    where
      by_test : (b : Bool) → (if b then true else false) ≡ true → b ≡ true
      by_test true h = refl
      by_test false h = h

  end-cells : (lost : ℕ) (o : Option Cells) → Moment k l past d (What.End lost o) → (b : Bool) → is_empty (taken k past d) ≡ b → EndsFitting k past d b o
      → Free k (entry_by d (What.End lost o) ∷ past) a → cells (ended_steps b o d s) a ≡ log.cells_after k past a d (What.End lost o) (log.cells k past a)
  end-cells lost (Some cs) m true is fits free = let g = cells-hold lost cs m in ends-with (What.End lost (Some cs)) cs.0 g.0 g.1 free
  end-cells lost None m true is fits free = was (free-others (What.End lost None) free (fits a))
  end-cells lost (Some cs) m false is fits free =
      let g = cells-hold lost cs m in
      kept (is_number a (received_atomic k past d)) refl (λ t. same-held k past fit a d ∙ (ap (is_number a) (sym (own-context g.0 g.1)) ∙ t))
    where
      kept : (b : Bool) → is_number a (received_atomic k past d) ≡ b → (b ≡ true → has_open_take k past a d ≡ true)
          → cells s a ≡ (if b then cs.0 else log.cells k past a)
      kept true t opened = absurd (both_false (has_open_take k past a d) (opened refl) (still-open lost (Some cs) free is))
      kept false t opened = was (free-others (What.End lost (Some cs)) free (still-open lost (Some cs) free is))
  end-cells lost None m false is fits free = was (free-others (What.End lost None) free (still-open lost None free is))

  cells-more : (w : What) → Moment k l past d w → IsFitting k past d w → Free k (entry_by d w ∷ past) a → Same_cells w
  cells-more (What.Take q n t) m none free = by_context (atomic_of k q.0)
    where
      same : cells s a ≡ log.cells k past a
      same = was (free-others (What.Take q n t) free (none a))

      by_context : (o : Option ℕ) → cells (grabbed_steps o d s) a ≡ log.cells k past a
      by_context None = same
      by_context (Some g) = same
  cells-more (What.Untake q n) m fits free = by_context (atomic_of k q.0) refl fits
    where
      by_context : (o : Option ℕ) → atomic_of k q.0 ≡ o → NoneUnless k past d o → cells (untaken_steps k past o d s) a ≡ log.cells k past a
      by_context None is none = was (free-others (What.Untake q n) free (none a))
      by_context (Some g) is none =
          let opened = laws.queued g d q.0 (cons-some m.item _ m.rest m.taken, m.queue) is in
          let own = held-open k l past laws fit agrees g d opened in
          given (What.Untake q n) (log.cells k past g) (log.cells k past a) free
          (λ t. ap (log.cells k past) (some-inj _ _ (sym own ∙ is_number-some a (held s d) t))) (λ f. refl)
  cells-more (What.EndAtomic rest cs) m fits free = ends-with (What.EndAtomic rest cs) cs.0 m.atomic m.holds free
  cells-more (What.End lost o) m fits free = end-cells lost o m (is_empty (taken k past d)) refl fits free
  cells-more w m fits free = was (free-others w free (rw (eq-eqb d d refl) at (free d)))

same-cells : (k : Declarations) (l : Limits) (past : Past) → AllAllowed k l past → AreFitting k past → (a : ℕ) → Free k past a
    → cells (atomic_steps k past) a ≡ log.cells k past a
same-cells k l [] all fit a free = refl
same-cells k l (e ∷ past) all fit a free =
    cells-more k l past (held-after k l past all.1) fit.1 (agree k l past all.1 fit.1) a (same-cells k l past all.1 fit.1 a) e.core.0 e.what
    (allowed-moment k l past e all.1 all.0) fit.0 free

-- in an open context a core holds what the context holds
module _ (k : Declarations) (l : Limits) (past : Past) (laws : Held k past) (fit : AreFitting k past) (agrees : Agree (atomic_steps k past))
    (serves : (a d : ℕ) → has_open_take k past a d ≡ true → Serves k past a d) (c : ℕ) where
  held-within : (began : What) → context past c ≡ Some began → (o : Option ℕ) → held (atomic_steps k past) c ≡ o → o ≡ holds k past c
  held-within began open_context (Some a) is =
      let s = serves a c (open-held k l past laws fit agrees a c is) in
      ⊎_elim (λ some. absurd (none-some began (sym some.1 ∙ open_context))) (λ inside. sym (holds-within k past c a laws inside)) s.busy
  held-within began open_context None is = by_holds (holds k past c) refl
    where
      by_holds : (h : Option ℕ) → holds k past c ≡ h → None ≡ h
      by_holds None at = refl
      by_holds (Some a) at =
          let opened = find-true (has_open_take k past a) (below k.cores) c (holds-parts k past c a at).1 in
          absurd (none-some a (sym is ∙ held-open k l past laws fit agrees a c opened))

  held-idle : context past c ≡ None → taken k past c ≡ [] → (o : Option ℕ) → held (atomic_steps k past) c ≡ o → o ≡ None
  held-idle closed untaken None is = refl
  held-idle closed untaken (Some a) is =
      let s = serves a c (open-held k l past laws fit agrees a c is) in
      absurd (⊎_elim (λ some. some.0 untaken) (λ inside. none-some a (sym (laws.outside c closed) ∙ inside)) s.busy)

pub atomics-alike : (k : Declarations) (l : Limits) (past : Past) → 1 ≤ l.burst → AllAllowed k l past → AtomicsAlike k past
atomics-alike k l past burst all =
    let fit = all-fitting k l burst past all in
    let laws = held-after k l past all in
    let agrees = agree k l past all fit in
    let serves = open-serves k l burst past all in
    record {
      open_take = same-held k past fit;
      held = λ c began is. held-within k l past laws fit agrees serves c began is (held (atomic_steps k past) c) refl;
      idle = λ c closed untaken. held-idle k l past laws fit agrees serves c closed untaken (held (atomic_steps k past) c) refl;
      holder = same-holder k l past laws fit agrees;
      cells = λ a none.
          same-cells k l past all fit a (λ c.
          false_from_ne_true (has_open_take k past a c) (λ opened.
          both_false (has_open_take k past a c) opened (find-none (has_open_take k past a) c k.cores none (laws.bounded a c opened))));
    }
