-- The first free event of a pool.
use Rattle.std.proofs.Common.{◌≡◌, ℕ, zero, suc, ◌+◌, ◌<◌, ◌≤◌, Bool, true, false, List, [], ◌∷◌, length, map, get_or, take, Some, None, find, if◌then◌else◌, arith, refl, ap, sym, ◌∙◌, subst, ⊎_elim}
use Rattle.std.proofs.lemmas.Bool.{cases_eq}
use Rattle.em_log.specs.declared.declarations.PoolShape.{PoolShape}
use Rattle.em_log.specs.Declarations.{numbers_from, event_total}
use Rattle.em_pool.specs.declared.slot.Slot.{Slot}
use Rattle.em_pool.specs.Indices.{IsFirst}
use Rattle.em_pool.specs.Places.{is_free, events_of}
use Rattle.em_pool.specs.State.{fresh}
use Rattle.em_pool.specs.Whole.{IsWhole, is_free_slot}

pub found-from : (test : ℕ → Bool) (n a i : ℕ) → a ≤ i → i < a + n → test i ≡ true → ((k : ℕ) → a ≤ k → k < i → test k ≡ false)
    → find test (numbers_from a n) ≡ Some i
found-from test zero a i le lt here before = absurd (omega arith)
found-from test (suc n) a i le lt here before =
    ⊎_elim
    (λ e. ap (λ b. if b then Some a else find test (numbers_from (suc a) n)) (ap test e ∙ here) ∙ ap Some e)
    (λ ne. ap (λ b. if b then Some a else find test (numbers_from (suc a) n)) (before a (omega arith) (omega arith))
    ∙ found-from test n (suc a) i (omega arith) (omega arith) here (λ k ge. before k (omega arith)))
    (cases_eq a i)

pub none-from : (test : ℕ → Bool) (n a : ℕ) → ((k : ℕ) → a ≤ k → k < a + n → test k ≡ false) → find test (numbers_from a n) ≡ None
none-from test zero a all = refl
none-from test (suc n) a all =
    ap (λ b. if b then Some a else find test (numbers_from (suc a) n)) (all a (omega arith) (omega arith))
    ∙ none-from test n (suc a) (λ k ge lt. all k (omega arith) (omega arith))

map-below : (xs : List Slot) (k : ℕ) → k < length xs → get_or (map is_free_slot xs) k false ≡ is_free_slot (get_or xs k fresh)
map-below [] k lt = absurd (omega arith)
map-below (x ∷ xs) zero lt = refl
map-below (x ∷ xs) (suc k) lt = map-below xs k (omega arith)

abbrev pub is_free_at : List Slot → ℕ → Bool
is_free_at slots i = is_free (get_or slots i fresh).place

module _ {pools : List PoolShape} {slots : List Slot} {free : List Bool} {held : List (List Bool)} {m spare room : ℕ} (whole : IsWhole pools slots free held m spare room) where
  free-at : (k : ℕ) → k < length slots → get_or free k false ≡ is_free_at slots k
  free-at k lt = ap (λ f. get_or f k false) whole.free_is ∙ map-below slots k lt

  pub first-found : (a n i : ℕ) → a + n ≤ length slots → IsFirst (λ k. get_or free k false) a (Some i) → i < a + n
      → find (is_free_at slots) (numbers_from a n) ≡ Some i
  first-found a n i within first lt =
      found-from (is_free_at slots) n a i first.0 lt (sym (free-at i (omega arith)) ∙ first.1)
      (λ k ge below. sym (free-at k (omega arith)) ∙ first.2 k ge below)

  pub first-past : (a n i : ℕ) → a + n ≤ length slots → IsFirst (λ k. get_or free k false) a (Some i) → a + n ≤ i
      → find (is_free_at slots) (numbers_from a n) ≡ None
  first-past a n i within first past =
      none-from (is_free_at slots) n a (λ k ge below. sym (free-at k (omega arith)) ∙ first.2 k ge (omega arith))

  pub first-none : (a n : ℕ) → a + n ≤ length slots → IsFirst (λ k. get_or free k false) a None
      → find (is_free_at slots) (numbers_from a n) ≡ None
  first-none a n within first = none-from (is_free_at slots) n a (λ k ge below. sym (free-at k (omega arith)) ∙ first k ge)

-- pools

pub total-take : (ps : List PoolShape) (n : ℕ) → event_total (take n ps) ≤ event_total ps
total-take [] zero = omega arith
total-take [] (suc n) = omega arith
total-take (p ∷ ps) zero = omega arith
total-take (p ∷ ps) (suc n) = let rest = total-take ps n in omega arith

pub pool-within : (ps : List PoolShape) (n : ℕ) → event_total (take n ps) + events_of ps n ≤ event_total ps
pool-within [] zero = omega arith
pool-within [] (suc n) = omega arith
pool-within (p ∷ ps) zero = omega arith
pool-within (p ∷ ps) (suc n) = let rest = pool-within ps n in omega arith

pub events-read : (ps : List PoolShape) (n : ℕ) (d : PoolShape) → n < length ps → events_of ps n ≡ (get_or ps n d).events
events-read [] n d lt = absurd (omega arith)
events-read (p ∷ ps) zero d lt = refl
events-read (p ∷ ps) (suc n) d lt = events-read ps n d (omega arith)

-- the bounds of a pool's indices
pub record AreBounds (pools : List PoolShape) (p first end : ℕ) : Type 0 where
  pub first_is : first ≡ event_total (take p pools)
  pub end_is : end ≡ event_total (take p pools) + events_of pools p
  pub within : end ≤ event_total pools

pub bounds-from : (seen pools : List PoolShape) (p first end : ℕ) → seen ≡ pools → first ≡ event_total (take p seen)
    → end ≡ event_total (take p seen) + events_of seen p → end ≤ event_total seen → AreBounds pools p first end
bounds-from seen pools p first end e a b w =
    subst (λ ps. AreBounds ps p first end) e (record { first_is = a; end_is = b; within = w })

module _ {pools : List PoolShape} {slots : List Slot} {free : List Bool} {held : List (List Bool)} {m spare room : ℕ} (whole : IsWhole pools slots free held m spare room)
    (p first end : ℕ) (bounds : AreBounds pools p first end) where
  enough : event_total (take p pools) + events_of pools p ≤ length slots
  enough = let e = bounds.end_is in let w = bounds.within in let n = whole.events in omega arith

  pub pool-none : IsFirst (λ k. get_or free k false) first None
      → find (is_free_at slots) (numbers_from (event_total (take p pools)) (events_of pools p)) ≡ None
  pool-none is =
      first-none whole (event_total (take p pools)) (events_of pools p) enough (subst (λ n. IsFirst (λ k. get_or free k false) n None) bounds.first_is is)

  pub pool-found : (i : ℕ) → IsFirst (λ k. get_or free k false) first (Some i) → i < end
      → find (is_free_at slots) (numbers_from (event_total (take p pools)) (events_of pools p)) ≡ Some i
  pool-found i is lt =
      first-found whole (event_total (take p pools)) (events_of pools p) i enough
      (subst (λ n. IsFirst (λ k. get_or free k false) n (Some i)) bounds.first_is is) (let e = bounds.end_is in omega arith)

  pub pool-past : (i : ℕ) → IsFirst (λ k. get_or free k false) first (Some i) → end ≤ i
      → find (is_free_at slots) (numbers_from (event_total (take p pools)) (events_of pools p)) ≡ None
  pool-past i is ge =
      first-past whole (event_total (take p pools)) (events_of pools p) i enough
      (subst (λ n. IsFirst (λ k. get_or free k false) n (Some i)) bounds.first_is is) (let e = bounds.end_is in omega arith)
