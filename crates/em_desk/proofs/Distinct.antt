-- Lists of indices without doubles.
use Rattle.std.proofs.Common.{◌≡◌, ◌≢◌, ◌⊎◌, inl, inr, ℕ, ◌<◌, ◌≤◌, ◌==◌, Bool, true, false, ◌||◌, [], ◌∷◌, ◌++◌, List, length, map, refl, sym, ap, ◌∙◌, arith, eqb, slice_set, slice_index_or}
use Rattle.std.specs.List.{list_any, AllByRecursion, IsDistinct}
use Rattle.std.proofs.lemmas.Bool.{eq-eqb}
use Rattle.std.proofs.lemmas.Bool.Decides.{eqb_tells}
use Rattle.std.proofs.lemmas.List.{get_or-set_same, get_or-set_other}
use Rattle.std.proofs.lemmas.Map.Steps.{length-le_from_distinct_below}
use Rattle.em_log.specs.History.{has, index_of}
use Rattle.em_laws.proofs.Cores.{Compared, Same, Other, compared, eqb-eq}
use Rattle.std.proofs.lemmas.Bool.{or_right}
use Rattle.em_desk.specs.Lines.{LinesState, list_at}
use Rattle.em_desk.specs.Standing.{NoneTwice}

-- a list that was set

pub list-same : (l now : LinesState) (i : ℕ) (xs : List ℕ) → i < length l.lists → now.lists ≡ slice_set l.lists i xs → list_at now i ≡ xs
list-same l now i xs lt is = ap (λ ls. slice_index_or ls i []) is ∙ get_or-set_same l.lists i xs [] lt

pub list-other : (l now : LinesState) (i j : ℕ) (xs : List ℕ) → j ≢ i → now.lists ≡ slice_set l.lists i xs → list_at now j ≡ list_at l j
list-other l now i j xs other is = ap (λ ls. slice_index_or ls j []) is ∙ get_or-set_other l.lists i j xs [] other

-- a handle of this index
pub record HandleAt (hs : List ℕ) (i : ℕ) : Type 0 where
  pub handle : ℕ
  pub there : has hs handle ≡ true
  pub index : index_of handle ≡ i

pub handle-at : (hs : List ℕ) (i : ℕ) → has (map index_of hs) i ≡ true → HandleAt hs i
handle-at [] i h = absurd (cc h)
handle-at (x ∷ xs) i h = by_test (index_of x == i) refl h (handle-at xs i)
  where
    own : (x == x) ≡ true
    own = eq-eqb x x refl

    by_test : (b : Bool) → (index_of x == i) ≡ b → (b || has (map index_of xs) i) ≡ true → (has (map index_of xs) i ≡ true → HandleAt xs i) → HandleAt (x ∷ xs) i
    by_test true t h rest = record { handle = x; there = rw own refl; index = eqb-eq (index_of x) i t }
    by_test false t h rest = let r = rest h in record { handle = r.handle; there = or_right (x == r.handle) (has xs r.handle) r.there; index = r.index }

-- one more

or-false : (a b : Bool) → (a || b) ≡ false → (a ≡ false) × (b ≡ false)
or-false true b h = absurd cc
or-false false b h = (refl, h)

pub has-not-more : (is : List ℕ) (i j : ℕ) → has is j ≡ false → i ≢ j → has (is ++ i ∷ []) j ≡ false
has-not-more [] i j absent other = by_test (compared i j)
  where
    by_test : Compared i j → has (i ∷ []) j ≡ false
    by_test (Same t e) = absurd (other e)
    by_test (Other f ne) = rw f refl
has-not-more (x ∷ is) i j absent other =
    let parts = or-false (x == j) (has is j) absent in
    let rest = has-not-more is i j parts.1 other in
    let t = parts.0 in rw (t, rest) refl

differs : (a b : ℕ) → (a == b) ≡ false → a ≢ b
differs a b f e = absurd (cc (f, eq-eqb a b e))

pub once-more : (is : List ℕ) (i : ℕ) → NoneTwice is → has is i ≡ false → NoneTwice (is ++ i ∷ [])
once-more [] i once absent = (refl, tt)
once-more (j ∷ is) i once absent =
    let parts = or-false (j == i) (has is i) absent in
    (has-not-more is i j once.0 (λ (e : i ≡ j). differs j i parts.0 (sym e)), once-more is i once.1 parts.1)

pub below-more : (is : List ℕ) (i n : ℕ) → AllByRecursion (λ j. j < n) is → i < n → AllByRecursion (λ j. j < n) (is ++ i ∷ [])
below-more [] i n all lt = (lt, tt)
below-more (j ∷ is) i n all lt = (all.0, below-more is i n all.1 lt)

-- how many there are

other-test : (a b : ℕ) → a ≢ b → (a == b) ≡ false
other-test a b ne = by_test (compared a b)
  where
    by_test : Compared a b → (a == b) ≡ false
    by_test (Same t e) = absurd (ne e)
    by_test (Other f e) = f

each-other : (is : List ℕ) (i : ℕ) → has is i ≡ false → AllByRecursion (λ j. eqb i j ≡ false) is
each-other [] i absent = tt
each-other (j ∷ is) i absent =
    let parts = or-false (j == i) (has is i) absent in
    (other-test i j (λ (e : i ≡ j). differs j i parts.0 (sym e)), each-other is i parts.1)

distinct-of : (is : List ℕ) → NoneTwice is → IsDistinct eqb is
unfolding IsDistinct
distinct-of [] once = tt
distinct-of (i ∷ is) once = (each-other is i once.0, distinct-of is once.1)

in-below : (is : List ℕ) (n : ℕ) → AllByRecursion (λ j. j < n) is → (q : ℕ) → list_any (eqb q) is ≡ true → q < n
in-below [] n below q h = absurd cc
in-below (j ∷ is) n below q h = by_test (eqb_tells q j) h (in-below is n below.1 q)
  where
    by_test : (((q == j) ≡ true) × (q ≡ j)) ⊎ (((q == j) ≡ false) × (q ≢ j)) → list_any (eqb q) (j ∷ is) ≡ true
        → (list_any (eqb q) is ≡ true → q < n) → q < n
    by_test (inl t) h rest = let lt = below.0 in let e = t.1 in omega arith
    by_test (inr t) h rest = rest (rw t.0 at h)

pub few : (is : List ℕ) (n : ℕ) → AllByRecursion (λ j. j < n) is → NoneTwice is → length is ≤ n
few is n below once = length-le_from_distinct_below is n (distinct-of is once) (in-below is n below)
