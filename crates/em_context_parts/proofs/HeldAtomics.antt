-- What a core holds by the steps of a history is its take that is not closed, where the entries fit.
use Rattle.std.proofs.Common.{◌≡◌, ℕ, ◌==◌, Bool, true, false, List, [], ◌∷◌, Option, Some, None, if◌then◌else◌, refl, ap, sym, ◌∙◌}
use Rattle.std.proofs.lemmas.Bool.{eqb-true}
use Rattle.em_log.specs.declared.declarations.Declarations.{Declarations}
use Rattle.em_log.specs.declared.entry.What.{What}
use Rattle.em_log.specs.declared.ids.Cells.{Cells}
use Rattle.em_log.specs.History.{Past}
use Rattle.em_log.specs.Declarations.{atomic_of, is_number}
use Rattle.em_log.specs.Places.{taken}
use Rattle.em_log.specs.Atomic.{is_empty, has_open_after, has_open_take}
use Rattle.em_log.specs.Laws.{Each}
use Rattle.em_atomic.specs.Steps.{AtomicStep}
use Rattle.em_atomic.specs.Holding.{held}
use Rattle.em_laws.proofs.Cores.{if-same}
use Rattle.em_context_parts.specs.AtomicSteps.{grabbed_steps, untaken_steps, ended_steps, atomic_after, atomic_steps}

-- core c has no open take of an atomic context
abbrev pub HoldsNone : Declarations → Past → ℕ → Type 0
HoldsNone k past c = (a : ℕ) → has_open_take k past a c ≡ false

abbrev pub NoneUnless : Declarations → Past → ℕ → Option ℕ → Type 0
NoneUnless k past c None = HoldsNone k past c
NoneUnless k past c (Some a) = Unit {0}

abbrev pub EndsFitting : Declarations → Past → ℕ → Bool → Option Cells → Type 0
EndsFitting k past c true None = HoldsNone k past c
EndsFitting k past c _ _ = Unit {0}

-- a core that takes holds no context; nor does one that gives back events of another queue, or that has nothing taken
-- and ends a receive without cells
abbrev pub IsFitting : Declarations → Past → ℕ → What → Type 0
IsFitting k past c (What.Take q n t) = HoldsNone k past c
IsFitting k past c (What.Untake q n) = NoneUnless k past c (atomic_of k q.0)
IsFitting k past c (What.End lost cs) = EndsFitting k past c (is_empty (taken k past c)) cs
IsFitting k past c w = Unit {0}

abbrev pub AreFitting : Declarations → Past → Type 0
AreFitting k past = Each (IsFitting k) past

module _ (k : Declarations) (past : Past) (a : ℕ) where
  abbrev steps : List AtomicStep
  steps = atomic_steps k past

  -- an entry of core d, at core c: here tells whether they are the same
  module _ (d c : ℕ) (same : has_open_take k past a c ≡ is_number a (held steps c)) where
    grabbed-own : (o : Option ℕ) → HoldsNone k past d → (b : Bool) → (d == c) ≡ b
        → (if b then (if is_number a o then true else has_open_take k past a c) else has_open_take k past a c)
        ≡ is_number a (held (grabbed_steps o d steps) c)
    grabbed-own None none true e = same
    grabbed-own None none false e = same
    grabbed-own (Some g) none true e =
        let closed : has_open_take k past a c ≡ false = ap (has_open_take k past a) (sym (eqb-true d c e)) ∙ none a in
        ap (λ t. if a == g then true else t) closed ∙ (of_test (a == g) ∙ ap (λ t. is_number a (if t then Some g else held steps c)) (sym e))
      where
        of_test : (b : Bool) → (if b then true else false) ≡ b
        of_test true = refl
        of_test false = refl
    grabbed-own (Some g) none false e = same ∙ ap (λ t. is_number a (if t then Some g else held steps c)) (sym e)

    given-own : (b : Bool) → (d == c) ≡ b → (if b then false else has_open_take k past a c) ≡ is_number a (if d == c then None else held steps c)
    given-own true e = ap (λ t. is_number a (if t then None else held steps c)) (sym e)
    given-own false e = same ∙ ap (λ t. is_number a (if t then None else held steps c)) (sym e)

    idle-own : HoldsNone k past d → (b : Bool) → (d == c) ≡ b → (if b then false else has_open_take k past a c) ≡ is_number a (held steps c)
    idle-own none true e = sym (none a) ∙ (ap (has_open_take k past a) (eqb-true d c e) ∙ same)
    idle-own none false e = same

    untaken-own : (o : Option ℕ) → NoneUnless k past d o
        → (if d == c then false else has_open_take k past a c) ≡ is_number a (held (untaken_steps k past o d steps) c)
    untaken-own None none = idle-own none (d == c) refl
    untaken-own (Some g) fits = given-own (d == c) refl

    ended-own : (empty : Bool) (cs : Option Cells) → EndsFitting k past d empty cs
        → (if d == c then (if empty then false else has_open_take k past a c) else has_open_take k past a c)
        ≡ is_number a (held (ended_steps empty cs d steps) c)
    ended-own true (Some cs) fits = given-own (d == c) refl
    ended-own true None none = idle-own none (d == c) refl
    ended-own false cs fits = if-same (d == c) (has_open_take k past a c) ∙ same

    -- what core d has taken is what core c has, where they are the same
    taken-own : (xs : Bool) (b : Bool) → (d == c) ≡ b → is_empty (taken k past d) ≡ xs
        → (if b then (if is_empty (taken k past c) then false else has_open_take k past a c) else has_open_take k past a c)
        ≡ (if b then (if xs then false else has_open_take k past a c) else has_open_take k past a c)
    taken-own xs true e is =
        ap (λ t. if t then false else has_open_take k past a c) (ap (λ j. is_empty (taken k past j)) (sym (eqb-true d c e)) ∙ is)
    taken-own xs false e is = refl

    held-more : (w : What) → IsFitting k past d w
        → (if d == c then has_open_after k a (taken k past c) w (has_open_take k past a c) else has_open_take k past a c)
        ≡ is_number a (held (atomic_after k past d w steps) c)
    held-more (What.Take q n t) none = grabbed-own (atomic_of k q.0) none (d == c) refl
    held-more (What.Untake q n) fits = untaken-own (atomic_of k q.0) fits
    held-more (What.EndAtomic rest cs) fits = given-own (d == c) refl
    held-more (What.End lost cs) fits =
        taken-own (is_empty (taken k past d)) (d == c) refl refl ∙ ended-own (is_empty (taken k past d)) cs fits
    held-more w fits = if-same (d == c) (has_open_take k past a c) ∙ same

pub same-held : (k : Declarations) (past : Past) → AreFitting k past → (a c : ℕ) → has_open_take k past a c ≡ is_number a (held (atomic_steps k past) c)
same-held k [] fit a c = refl
same-held k (e ∷ past) fit a c = held-more k past a e.core.0 c (same-held k past fit.1 a c) e.what fit.0
