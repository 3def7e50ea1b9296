-- By the steps of a history the holder of an atomic context is the core that holds it, and the one that the history finds.
use Rattle.std.proofs.Common.{◌≡◌, ◌==◌, ℕ, Bool, true, false, List, [], ◌∷◌, Option, Some, None, if◌then◌else◌, refl, ap, sym, ◌∙◌}
use Rattle.std.specs.List.{find}
use Rattle.std.proofs.lemmas.Bool.{eq-eqb}
use Rattle.em_log.specs.declared.declarations.Declarations.{Declarations}
use Rattle.em_log.specs.declared.entry.What.{What}
use Rattle.em_log.specs.declared.ids.Cells.{Cells}
use Rattle.em_log.specs.declared.ids.Limits.{Limits}
use Rattle.em_log.specs.History.{Past}
use Rattle.em_log.specs.Declarations.{atomic_of, is_number, below}
use Rattle.em_log.specs.Places.{taken}
use Rattle.em_log.specs.Atomic.{is_empty, has_open_take}
use Rattle.em_log.specs.Atomic as log
use Rattle.em_log.specs.Eligible.{is_unheld}
use Rattle.em_log.specs.Lawful.{AllAllowed}
use Rattle.em_moments.proofs.Steps.{is_number-some}
use Rattle.em_moments.proofs.Moments.{Moment, allowed-moment}
use Rattle.em_laws.proofs.Cores.{Compared, Same, Other, compared, none-some, some-inj, find-below}
use Rattle.em_laws.proofs.Holders.{Held, held-after, free-none}
use Rattle.em_atomic.specs.Steps.{AtomicStep, Grabbed, Given}
use Rattle.em_atomic.specs.Holding.{held, holder}
use Rattle.em_context_parts.specs.AtomicSteps.{grabbed_steps, untaken_steps, ended_steps, atomic_after, atomic_steps}
use Rattle.em_context_parts.proofs.HeldAtomics.{IsFitting, AreFitting, same-held}

pub record Agree (s : List AtomicStep) : Type 0 where
  pub held_by_holder : (a c : ℕ) → holder s a ≡ Some c → held s c ≡ Some a
  pub holder_of_held : (a c : ℕ) → held s c ≡ Some a → holder s a ≡ Some c

is_number-none : (a : ℕ) (o : Option ℕ) → is_number a o ≡ false → o ≡ Some a → ⊥
is_number-none a o f e = absurd (cc (sym f ∙ (ap (is_number a) e ∙ eq-eqb a a refl)))

agree-given : (s : List AtomicStep) (d : ℕ) (cs : List ℕ) → Agree s → Agree (Given d cs ∷ s)
agree-given s d cs was = record {
  held_by_holder = λ a c h. by_number a c (is_number a (held s d)) refl h;
  holder_of_held = λ a c h. by_core a c (compared d c) h;
}
  where
    by_number : (a c : ℕ) (b : Bool) → is_number a (held s d) ≡ b → (if b then None else holder s a) ≡ Some c → (if d == c then None else held s c) ≡ Some a
    by_number a c true is h = absurd (none-some c h)
    by_number a c false is h =
        let at = was.held_by_holder a c h in
        apart a c (compared d c) (λ e. is_number-none a (held s d) is (ap (held s) e ∙ at)) at
      where
        apart : (a c : ℕ) → Compared d c → (d ≡ c → ⊥) → held s c ≡ Some a → (if d == c then None else held s c) ≡ Some a
        apart a c (Same t e) ne at = absurd (ne e)
        apart a c (Other f e) ne at = rw f at

    by_core : (a c : ℕ) → Compared d c → (if d == c then None else held s c) ≡ Some a → (if is_number a (held s d) then None else holder s a) ≡ Some c
    by_core a c (Same t e) h = absurd (none-some a (rw t at h))
    by_core a c (Other f e) h =
        let at : held s c ≡ Some a = rw f at h in
        let has = was.holder_of_held a c at in
        keep (is_number a (held s d)) (λ is. let other = was.holder_of_held a d (is_number-some a (held s d) is) in
        eq-false (d == c) f (eq-eqb d c (some-inj _ _ (sym other ∙ has)))) has
      where
        eq-false : (b : Bool) → b ≡ false → b ≡ true → ⊥
        eq-false b f t = absurd (cc (sym f ∙ t))

        keep : (b : Bool) → (b ≡ true → ⊥) → holder s a ≡ Some c → (if b then None else holder s a) ≡ Some c
        keep true off at = absurd (off refl)
        keep false off at = at

agree-grabbed : (s : List AtomicStep) (g d : ℕ) → holder s g ≡ None → held s d ≡ None → Agree s → Agree (Grabbed g d ∷ s)
agree-grabbed s g d free idle was = record {
  held_by_holder = λ a c h. to_held a c (compared g a) (compared d c) h;
  holder_of_held = λ a c h. to_holder a c (compared g a) (compared d c) h;
}
  where
    to_held : (a c : ℕ) → Compared g a → Compared d c → (if g == a then Some d else holder s a) ≡ Some c → (if d == c then Some g else held s c) ≡ Some a
    to_held a c (Same t e) (Same u f) h = rw u (ap Some e)
    to_held a c (Same t e) (Other u f) h = let same : d ≡ c = some-inj _ _ (rw t at h) in absurd (cc (sym u ∙ eq-eqb d c same))
    to_held a c (Other t e) (Same u f) h =
        let at : holder s a ≡ Some c = rw t at h in
        absurd (none-some a (sym idle ∙ (ap (held s) f ∙ was.held_by_holder a c at)))
    to_held a c (Other t e) (Other u f) h = rw u (was.held_by_holder a c (rw t at h))

    to_holder : (a c : ℕ) → Compared g a → Compared d c → (if d == c then Some g else held s c) ≡ Some a → (if g == a then Some d else holder s a) ≡ Some c
    to_holder a c (Same t e) (Same u f) h = rw t (ap Some f)
    to_holder a c (Same t e) (Other u f) h =
        let at : held s c ≡ Some a = rw u at h in
        absurd (none-some c (sym free ∙ (ap (holder s) e ∙ was.holder_of_held a c at)))
    to_holder a c (Other t e) (Same u f) h = let same : g ≡ a = some-inj _ _ (rw u at h) in absurd (cc (sym t ∙ eq-eqb g a same))
    to_holder a c (Other t e) (Other u f) h = rw t (was.holder_of_held a c (rw u at h))

pub find-true : (p : ℕ → Bool) (xs : List ℕ) (d : ℕ) → find p xs ≡ Some d → p d ≡ true
find-true p [] d h = absurd (none-some d h)
find-true p (x ∷ xs) d h = by_test (p x) refl (find-true p xs d) h
  where
    by_test : (b : Bool) → p x ≡ b → (find p xs ≡ Some d → p d ≡ true) → (if b then Some x else find p xs) ≡ Some d → p d ≡ true
    by_test true is rest h = ap p (sym (some-inj _ _ h)) ∙ is
    by_test false is rest h = rest h

module _ (k : Declarations) (l : Limits) (past : Past) (laws : Held k past) (fit : AreFitting k past) (was : Agree (atomic_steps k past)) where
  abbrev s : List AtomicStep
  s = atomic_steps k past

  pub open-held : (a c : ℕ) → held s c ≡ Some a → has_open_take k past a c ≡ true
  open-held a c h = same-held k past fit a c ∙ (ap (is_number a) h ∙ eq-eqb a a refl)

  pub held-open : (a c : ℕ) → has_open_take k past a c ≡ true → held s c ≡ Some a
  held-open a c h = is_number-some a (held s c) (sym (same-held k past fit a c) ∙ h)

  idle-of : (d : ℕ) → ((a : ℕ) → has_open_take k past a d ≡ false) → (o : Option ℕ) → held s d ≡ o → held s d ≡ None
  idle-of d none None is = is
  idle-of d none (Some a) is = absurd (cc (sym (none a) ∙ open-held a d is))

  free-of : (q g : ℕ) → atomic_of k q ≡ Some g → is_unheld k past q ≡ true → (o : Option ℕ) → holder s g ≡ o → holder s g ≡ None
  free-of q g is free None at = at
  free-of q g is free (Some c) at = absurd (free-none k past g c q laws is free (open-held g c (was.held_by_holder g c at)))

  pub agree-more : (d : ℕ) (w : What) → Moment k l past d w → IsFitting k past d w → Agree (atomic_after k past d w s)
  agree-more d (What.Take q n t) m none = by_context (atomic_of k q.0) refl
    where
      by_context : (o : Option ℕ) → atomic_of k q.0 ≡ o → Agree (grabbed_steps o d s)
      by_context None is = was
      by_context (Some g) is = agree-grabbed s g d (free-of q.0 g is m.ready.unheld (holder s g) refl) (idle-of d none (held s d) refl) was
  agree-more d (What.Untake q n) m fits = by_context (atomic_of k q.0)
    where
      by_context : (o : Option ℕ) → Agree (untaken_steps k past o d s)
      by_context None = was
      by_context (Some g) = agree-given s d (log.cells k past g) was
  agree-more d (What.EndAtomic rest cs) m fits = agree-given s d cs.0 was
  agree-more d (What.End lost cs) m fits = by_end (is_empty (taken k past d)) cs
    where
      by_end : (b : Bool) (o : Option Cells) → Agree (ended_steps b o d s)
      by_end true (Some c) = agree-given s d c.0 was
      by_end true None = was
      by_end false o = was
  agree-more d w m fits = was

  -- the holder by the steps is the one that the history finds

  pub same-holder : (a : ℕ) → holder s a ≡ log.holder k past a
  same-holder a = by_holder (holder s a) refl
    where
      by_found : (o : Option ℕ) → log.holder k past a ≡ o → holder s a ≡ None → None ≡ o
      by_found None is none = refl
      by_found (Some d) is none =
          let opened = find-true (has_open_take k past a) (below k.cores) d is in
          absurd (none-some d (sym none ∙ was.holder_of_held a d (held-open a d opened)))

      by_holder : (o : Option ℕ) → holder s a ≡ o → holder s a ≡ log.holder k past a
      by_holder None is = is ∙ (by_found (log.holder k past a) refl is)
      by_holder (Some c) is =
          let opened = open-held a c (was.held_by_holder a c is) in
          is ∙ sym (find-below (has_open_take k past a) c k.cores opened (λ e i. laws.only a c e opened i) (laws.bounded a c opened))

pub agree : (k : Declarations) (l : Limits) (past : Past) → AllAllowed k l past → AreFitting k past → Agree (atomic_steps k past)
agree k l [] all fit = record { held_by_holder = λ a c h. absurd (none-some c h); holder_of_held = λ a c h. absurd (none-some a h) }
agree k l (e ∷ past) all fit =
    agree-more k l past (held-after k l past all.1) fit.1 (agree k l past all.1 fit.1) e.core.0 e.what (allowed-moment k l past e all.1 all.0) fit.0
