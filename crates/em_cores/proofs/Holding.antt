-- The atomic context that a core holds is told by its own entries.
use Rattle.std.proofs.Common.{◌≡◌, ℕ, Bool, true, false, List, [], ◌∷◌, Option, Some, None, refl, sym, ap, ◌∙◌, is_some, eq-eqb, if◌then◌else◌}
use Rattle.std.specs.List.{find}
use Rattle.std.specs.Option.{option_and_then, option_map_or}
use Rattle.em_log.specs.declared.declarations.Declarations.{Declarations}
use Rattle.em_log.specs.declared.entry.Entry.{Entry}
use Rattle.em_log.specs.declared.entry.What.{What}
use Rattle.em_log.specs.declared.ids.Limits.{Limits}
use Rattle.em_log.specs.Atomic.{has_open_take, holder, holds, if_holder, received_atomic}
use Rattle.em_log.specs.Contexts.{context, received_queue}
use Rattle.em_log.specs.Declarations.{atomic_of, below, is_number}
use Rattle.em_log.specs.History.{Past, onto}
use Rattle.em_log.specs.Lawful.{AllAllowed}
use Rattle.em_laws.proofs.Cores.{Compared, Same, Other, compared, find-below}
use Rattle.em_laws.proofs.Holders.{Held, held-after}
use Rattle.em_cores.specs.Others.{AreOfOthers}
use Rattle.em_cores.proofs.Onto.{allowed-before, same-after}

find-is : (p : ℕ → Bool) (ns : List ℕ) (d : ℕ) → find p ns ≡ Some d → p d ≡ true
find-is p [] d e = absurd cc
find-is p (n ∷ ns) d e = by_test (p n) refl e (find-is p ns d)
  where
    by_test : (b : Bool) → p n ≡ b → (if b then Some n else find p ns) ≡ Some d → (find p ns ≡ Some d → p d ≡ true) → p d ≡ true
    by_test true is e later = let same : n ≡ d = cc in ap p (sym same) ∙ is
    by_test false is e later = later e

-- a core is the holder exactly where its own last take is not closed
pub holder-open : (k : Declarations) (past : Past) (a c : ℕ) → Held k past → is_number c (holder k past a) ≡ has_open_take k past a c
holder-open k past a c held = by_test (has_open_take k past a c) refl
  where
    by_found : (o : Option ℕ) → holder k past a ≡ o → has_open_take k past a c ≡ false → is_number c o ≡ false
    by_found None is shut = refl
    by_found (Some d) is shut = by_core (compared c d)
      where
        by_core : Compared c d → is_number c (Some d) ≡ false
        by_core (Same t e) = let at : has_open_take k past a c ≡ true = ap (has_open_take k past a) e ∙ find-is (has_open_take k past a) (below k.cores) d is in absurd (cc (at, shut))
        by_core (Other f e) = f

    by_test : (b : Bool) → has_open_take k past a c ≡ b → is_number c (holder k past a) ≡ b
    by_test true opened = ap (is_number c) (find-below (has_open_take k past a) c k.cores opened (λ d i. held.only a c d opened i) (held.bounded a c opened)) ∙ eq-eqb c c refl
    by_test false shut = by_found (holder k past a) refl shut

-- whether core c holds an atomic context, by its own entries alone
abbrev pub has_hold : Declarations → Past → ℕ → Bool
has_hold k past c = option_map_or (λ a. has_open_take k past a c) (received_atomic k past c) false

pub holds-own : (k : Declarations) (l : Limits) (past : Past) (c : ℕ) → AllAllowed k l past → is_some (holds k past c) ≡ has_hold k past c
holds-own k l past c all = by_atomic (received_atomic k past c)
  where
    some-if : (b : Bool) (a : ℕ) → is_some (if b then Some a else None) ≡ b
    some-if true a = refl
    some-if false a = refl

    by_atomic : (o : Option ℕ) → is_some (option_and_then (if_holder k past c) o) ≡ option_map_or (λ a. has_open_take k past a c) o false
    by_atomic None = refl
    by_atomic (Some a) = some-if (is_number c (holder k past a)) a ∙ holder-open k past a c (held-after k l past all)

module _ (k : Declarations) (l : Limits) (c : ℕ) (es : List Entry) (past : Past) (all : AllAllowed k l (onto es past)) (others : AreOfOthers c es) where
  pub context-others : context (onto es past) c ≡ context past c
  context-others = same-after (λ (h : Past). context h c) c (λ e h f. rw f refl) es past others

  open-others : (a : ℕ) → has_open_take k (onto es past) a c ≡ has_open_take k past a c
  open-others a = same-after (λ (h : Past). has_open_take k h a c) c (λ e h f. rw f refl) es past others

  received-others : received_atomic k (onto es past) c ≡ received_atomic k past c
  received-others = ap (λ (o : Option What). option_and_then (atomic_of k) (received_queue o)) context-others

  same-holder : (o : Option ℕ) → option_and_then (if_holder k (onto es past) c) o ≡ option_and_then (if_holder k past c) o
  same-holder None = refl
  same-holder (Some a) =
      ap (λ (b : Bool). if b then Some a else None)
      (holder-open k (onto es past) a c (held-after k l (onto es past) all) ∙ open-others a
      ∙ sym (holder-open k past a c (held-after k l past (allowed-before k l es past all))))

  pub holds-others : holds k (onto es past) c ≡ holds k past c
  holds-others = ap (option_and_then (if_holder k (onto es past) c)) received-others ∙ same-holder (received_atomic k past c)
