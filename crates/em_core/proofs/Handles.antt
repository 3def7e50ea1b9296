-- Lists of handles from which some are spent.
use Rattle.std.proofs.Common.{◌≡◌, ◌≢◌, ◌⊎◌, inl, inr, ℕ, suc, ◌+◌, ◌<◌, ◌≤◌, ◌^◌, ◌==◌, Bool, true, false, ◌||◌, List, [], ◌∷◌, ◌++◌, length, refl, sym, ap, ◌∙◌, arith, if◌then◌else◌}
use Rattle.std.proofs.lemmas.Bool.Decides.{eqb_tells}
use Rattle.std.proofs.lemmas.Map.Steps.{length-le_from_distinct_below}
use Rattle.std.specs.List.{list_any, IsDistinct, AllByRecursion}
use Rattle.std.proofs.Math.Dec.{eqb}
use Rattle.em_log.specs.History.{has, without, without_all}
use Rattle.em_core.specs.Spent.{Distinct, AreAmong, AreWords}

-- tests

or-right : (d : Bool) (x : Bool) → x ≡ true → (d || x) ≡ true
or-right true x is = refl
or-right false x is = is

or-more : (d x y : Bool) → (x ≡ true → y ≡ true) → (d || x) ≡ true → (d || y) ≡ true
or-more true x y more is = refl
or-more false x y more is = more is

pub same_number : (n : ℕ) → (n == n) ≡ true
same_number n = elim (eqb_tells n n) [ inl t ↦ t.0 | inr t ↦ absurd (t.1 refl) ]

pub differ : (n m : ℕ) → n ≢ m → (n == m) ≡ false
differ n m other = elim (eqb_tells n m) [ inl t ↦ absurd (other t.1) | inr t ↦ t.0 ]

-- without one handle

pub has-from_without : (n h : ℕ) (ms : List ℕ) → has (without n ms) h ≡ true → has ms h ≡ true
has-from_without n h [] is = is
has-from_without n h (m ∷ ms) is = by_test (has-from_without n h ms) (m == n) is
  where
    by_test : (has (without n ms) h ≡ true → has ms h ≡ true) → (b : Bool)
        → has (if b then without n ms else m ∷ without n ms) h ≡ true → ((m == h) || has ms h) ≡ true
    by_test rest true is = or-right (m == h) (has ms h) (rest is)
    by_test rest false is = or-more (m == h) (has (without n ms) h) (has ms h) rest is

pub has-in_without : (n h : ℕ) (ms : List ℕ) → (n == h) ≡ false → has ms h ≡ true → has (without n ms) h ≡ true
has-in_without n h [] other is = is
has-in_without n h (m ∷ ms) other is = by_test (has-in_without n h ms other) (eqb_tells m n) is
  where
    by_test : (has ms h ≡ true → has (without n ms) h ≡ true) → (((m == n) ≡ true) × (m ≡ n)) ⊎ (((m == n) ≡ false) × (m ≢ n))
        → ((m == h) || has ms h) ≡ true → has (if m == n then without n ms else m ∷ without n ms) h ≡ true
    by_test rest (inl t) is =
        let same = t.0 in
        let differs : (m == h) ≡ false = ap (λ (x : ℕ). x == h) t.1 ∙ other in
        rw same (rest (rw differs at is))
    by_test rest (inr t) is =
        let differs = t.0 in
        rw differs (or-more (m == h) (has ms h) (has (without n ms) h) rest is)

pub without-absent : (n : ℕ) (ms : List ℕ) → has ms n ≡ false → without n ms ≡ ms
without-absent n [] none = refl
without-absent n (m ∷ ms) none = by_test (without-absent n ms) (m == n) none
  where
    by_test : (has ms n ≡ false → without n ms ≡ ms) → (b : Bool) → (b || has ms n) ≡ false
        → (if b then without n ms else m ∷ without n ms) ≡ m ∷ ms
    by_test rest true none = absurd cc
    by_test rest false none = ap (λ xs. m ∷ xs) (rest none)

absent-without : (n h : ℕ) (ms : List ℕ) → has ms h ≡ false → has (without n ms) h ≡ false
absent-without n h ms none = by_test (has (without n ms) h) (has-from_without n h ms)
  where
    by_test : (b : Bool) → (b ≡ true → has ms h ≡ true) → b ≡ false
    by_test true more = absurd (cc (more refl))
    by_test false more = refl

pub distinct-without : (n : ℕ) (ms : List ℕ) → Distinct ms → Distinct (without n ms)
distinct-without n [] d = tt
distinct-without n (m ∷ ms) d = by_test (distinct-without n ms d.1) (m == n)
  where
    by_test : Distinct (without n ms) → (b : Bool) → Distinct (if b then without n ms else m ∷ without n ms)
    by_test rest true = rest
    by_test rest false = (absent-without n m ms d.0, rest)

pub length-without : (n : ℕ) (ms : List ℕ) → Distinct ms → has ms n ≡ true → suc (length (without n ms)) ≡ length ms
length-without n [] d is = absurd cc
length-without n (m ∷ ms) d is = by_test (length-without n ms d.1) (eqb_tells m n) is
  where
    by_test : (has ms n ≡ true → suc (length (without n ms)) ≡ length ms)
        → (((m == n) ≡ true) × (m ≡ n)) ⊎ (((m == n) ≡ false) × (m ≢ n)) → ((m == n) || has ms n) ≡ true
        → suc (length (if m == n then without n ms else m ∷ without n ms)) ≡ suc (length ms)
    by_test rest (inl t) is =
        let same = t.0 in
        let none : has ms n ≡ false = ap (has ms) (sym t.1) ∙ d.0 in
        rw same (ap (λ xs. suc (length xs)) (without-absent n ms none))
    by_test rest (inr t) is =
        let differs = t.0 in
        rw differs (ap suc (rest (rw differs at is)))

-- without several

among-without : (n : ℕ) (ns ms : List ℕ) → has ns n ≡ false → AreAmong ns ms → AreAmong ns (without n ms)
among-without n [] ms none all = tt
among-without n (x ∷ ns) ms none all = by_test (among-without n ns ms) (eqb_tells x n) none
  where
    by_test : (has ns n ≡ false → AreAmong ns ms → AreAmong ns (without n ms))
        → (((x == n) ≡ true) × (x ≡ n)) ⊎ (((x == n) ≡ false) × (x ≢ n)) → ((x == n) || has ns n) ≡ false
        → AreAmong (x ∷ ns) (without n ms)
    by_test rest (inl t) none =
        let same = t.0 in
        absurd (cc (rw same at none))
    by_test rest (inr t) none =
        let differs = t.0 in
        (has-in_without n x ms (differ n x (λ e. t.1 (sym e))) all.0, rest (rw differs at none) all.1)

pub distinct-without_all : (ns ms : List ℕ) → Distinct ms → Distinct (without_all ns ms)
distinct-without_all [] ms d = d
distinct-without_all (n ∷ ns) ms d = distinct-without_all ns (without n ms) (distinct-without n ms d)

pub has-from_without_all : (ns ms : List ℕ) (h : ℕ) → has (without_all ns ms) h ≡ true → has ms h ≡ true
has-from_without_all [] ms h is = is
has-from_without_all (n ∷ ns) ms h is = has-from_without n h ms (has-from_without_all ns (without n ms) h is)

pub length-without_all : (ns ms : List ℕ) → Distinct ms → Distinct ns → AreAmong ns ms
    → length (without_all ns ms) + length ns ≡ length ms
length-without_all [] ms d e all = omega arith
length-without_all (n ∷ ns) ms d e all =
    let rest = length-without_all ns (without n ms) (distinct-without n ms d) e.1 (among-without n ns ms e.0 all.1) in
    let one = length-without n ms d all.0 in
    omega (arith, rest, one)

-- with one more

has-append : (ms : List ℕ) (n h : ℕ) → has (ms ++ n ∷ []) h ≡ true → (has ms h ≡ true) ⊎ (n ≡ h)
has-append [] n h is = by_test (eqb_tells n h)
  where
    by_test : (((n == h) ≡ true) × (n ≡ h)) ⊎ (((n == h) ≡ false) × (n ≢ h)) → (has [] h ≡ true) ⊎ (n ≡ h)
    by_test (inl t) = inr t.1
    by_test (inr t) = let differs = t.0 in absurd (cc (rw differs at is))
has-append (m ∷ ms) n h is = by_test (has-append ms n h) (m == h) is
  where
    by_test : (has (ms ++ n ∷ []) h ≡ true → (has ms h ≡ true) ⊎ (n ≡ h)) → (b : Bool)
        → (b || has (ms ++ n ∷ []) h) ≡ true → ((b || has ms h) ≡ true) ⊎ (n ≡ h)
    by_test rest true is = inl refl
    by_test rest false is = rest is

absent-append : (ms : List ℕ) (n h : ℕ) → has ms h ≡ false → n ≢ h → has (ms ++ n ∷ []) h ≡ false
absent-append ms n h none other = by_test (has (ms ++ n ∷ []) h) (has-append ms n h)
  where
    by_test : (b : Bool) → (b ≡ true → (has ms h ≡ true) ⊎ (n ≡ h)) → b ≡ false
    by_test true more = elim (more refl) [ inl is ↦ absurd cc | inr same ↦ absurd (other same) ]
    by_test false more = refl

absent-head : (m n : ℕ) (ms : List ℕ) → has (m ∷ ms) n ≡ false → (n ≢ m) × (has ms n ≡ false)
absent-head m n ms none = by_test (eqb_tells m n) none
  where
    by_test : (((m == n) ≡ true) × (m ≡ n)) ⊎ (((m == n) ≡ false) × (m ≢ n)) → ((m == n) || has ms n) ≡ false
        → (n ≢ m) × (has ms n ≡ false)
    by_test (inl t) none = let same = t.0 in absurd (cc (rw same at none))
    by_test (inr t) none = let differs = t.0 in ((λ e. t.1 (sym e)), rw differs at none)

pub distinct-append : (ms : List ℕ) (n : ℕ) → Distinct ms → has ms n ≡ false → Distinct (ms ++ n ∷ [])
distinct-append [] n d none = (refl, tt)
distinct-append (m ∷ ms) n d none =
    let apart = absent-head m n ms none in
    (absent-append ms n m d.0 apart.0, distinct-append ms n d.1 apart.1)

pub words-append : (ms : List ℕ) (n : ℕ) → AreWords ms → n < 2 ^ 64 → AreWords (ms ++ n ∷ [])
words-append ms n all less h is = elim (has-append ms n h is) [ inl among ↦ all h among | inr same ↦ omega arith ]

-- there are no more than words

apart-one : (x : ℕ) (xs : List ℕ) → has xs x ≡ false → AllByRecursion (λ y. eqb x y ≡ false) xs
apart-one x [] none = tt
apart-one x (y ∷ ys) none =
    let apart = absent-head y x ys none in
    (differ x y apart.0, apart-one x ys apart.1)

apart : (ms : List ℕ) → Distinct ms → IsDistinct eqb ms
unfolding IsDistinct
apart [] d = tt
apart (m ∷ ms) d = (apart-one m ms d.0, apart ms d.1)

flipped : (q : ℕ) (ms : List ℕ) → list_any (eqb q) ms ≡ true → has ms q ≡ true
flipped q [] is = is
flipped q (m ∷ ms) is = by_test (flipped q ms) (eqb_tells q m) is
  where
    by_test : (list_any (eqb q) ms ≡ true → has ms q ≡ true) → (((q == m) ≡ true) × (q ≡ m)) ⊎ (((q == m) ≡ false) × (q ≢ m))
        → ((q == m) || list_any (eqb q) ms) ≡ true → ((m == q) || has ms q) ≡ true
    by_test rest (inl t) is =
        let same : (m == q) ≡ true = ap (λ (x : ℕ). x == q) (sym t.1) ∙ same_number q in
        rw same refl
    by_test rest (inr t) is =
        let differs = t.0 in
        or-right (m == q) (has ms q) (rest (rw differs at is))

pub distinct-few : (ms : List ℕ) → Distinct ms → AreWords ms → length ms ≤ 2 ^ 64
distinct-few ms d all = length-le_from_distinct_below ms (2 ^ 64) (apart ms d) (λ q is. all q (flipped q ms is))
