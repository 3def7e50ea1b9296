-- The order in which cores take turns, and what it is on the way: with the missing numbers below k alone.
use Rattle.std.proofs.Common.{◌≡◌, ◌⊎◌, inl, inr, ℕ, zero, suc, ◌+◌, ◌<◌, ◌≤◌, ◌==◌, Bool, true, false, not, nat_lt, eqb, ◌&&◌, ◌||◌, List, [], ◌∷◌, ◌++◌, length, take, cond, append-nil, append_assoc, length-append, refl, ap, sym, ◌∙◌, subst, arith}
use Rattle.std.specs.List.{filter, list_any, AllByRecursion, IsDistinct}
use Rattle.std.proofs.lemmas.Bool.{eqb-true, eq-eqb, ltb-true, lt-ltb, ne_eqb, and_right, or_right, or_parts}
use Rattle.std.proofs.lemmas.Bool.Decides.{nat_tests}
use Rattle.std.proofs.lemmas.List.Elements.{filter-append}
use Rattle.std.proofs.lemmas.List.Folds.{list_any-append}
use Rattle.std.proofs.lemmas.Map.Steps.{length-le_from_distinct_below}
use Rattle.std.proofs.lemmas.Map.Views.{any-filter_same}
use Rattle.em_log.specs.Declarations.{below, numbers_from}
use Rattle.em_log.specs.History.{has}
use Rattle.em_log.specs.Laws.{AreDifferent}
use Rattle.em_desk.proofs.Numbers.{none-below, some-below}
use Rattle.em_drive.specs.Orders.{order_used, IsOrderOf}

abbrev pub kept : List ℕ → ℕ → List ℕ
kept list n = filter (λ c. nat_lt c n) list

abbrev pub missing : List ℕ → ℕ → List ℕ
missing list k = filter (λ c. not (has list c)) (below k)

-- ---- what is in a list

has-filter : (p : ℕ → Bool) (xs : List ℕ) (c : ℕ) → has (filter p xs) c ≡ (p c && has xs c)
has-filter p xs c = any-filter_same (λ m. m == c) p (p c) (λ m is. ap p (eqb-true m c is)) xs

each-below : (k c : ℕ) → c < k → has (below k) c ≡ true
each-below k c lt = some-below (λ m. m == c) k c lt (eq-eqb c c refl)

within-below : (k c : ℕ) → has (below k) c ≡ true → c < k
within-below k c is = by_test (nat_lt c k) refl
  where
    by_test : (b : Bool) → nat_lt c k ≡ b → c < k
    by_test true e = ltb-true c k e
    by_test false e =
        let none = none-below (λ m. m == c) k (λ j lt. ne_eqb j c (λ same. absurd (cc (e, lt-ltb c k (subst (λ m. m < k) same lt))))) in
        absurd (cc (is, none))

has-used : (list : List ℕ) (n k c : ℕ)
    → has (kept list n ++ missing list k) c ≡ ((nat_lt c n && has list c) || (not (has list c) && has (below k) c))
has-used list n k c =
    list_any-append (λ m. m == c) (kept list n) (missing list k)
    ∙ rw (has-filter (λ m. nat_lt m n) list c, has-filter (λ m. not (has list m)) (below k) c) refl

one-of-both : (a b d : Bool) → ((a && b) || (not b && d)) ≡ true → (a ≡ true) ⊎ (d ≡ true)
one-of-both true b d h = inl refl
one-of-both false b true h = inr refl
one-of-both false true false h = absurd cc
one-of-both false false false h = absurd cc

both-on : (a b d : Bool) → a ≡ true → d ≡ true → ((a && b) || (not b && d)) ≡ true
both-on a true d p q = rw p refl
both-on a false d p q = or_right (a && false) d q

used-within : (list : List ℕ) (n k : ℕ) → k ≤ n → (c : ℕ) → has (kept list n ++ missing list k) c ≡ true → c < n
used-within list n k le c is =
    by_part (one-of-both (nat_lt c n) (has list c) (has (below k) c) (sym (has-used list n k c) ∙ is))
  where
    by_part : (nat_lt c n ≡ true) ⊎ (has (below k) c ≡ true) → c < n
    by_part (inl h) = ltb-true c n h
    by_part (inr h) = let lt = within-below k c h in omega arith

used-each : (list : List ℕ) (n c : ℕ) → c < n → has (order_used list n) c ≡ true
used-each list n c lt = has-used list n n c ∙ both-on (nat_lt c n) (has list c) (has (below n) c) (lt-ltb c n lt) (each-below n c lt)

-- ---- no number twice

not-above : (n a c : ℕ) → c < a → has (numbers_from a n) c ≡ false
not-above zero a c lt = refl
not-above (suc n) a c lt =
    let here = ne_eqb a c (λ same. absurd (omega arith)) in
    let rest = not-above n (suc a) c (omega arith) in
    rw (here, rest) refl

different-numbers : (n a : ℕ) → AreDifferent (numbers_from a n)
different-numbers zero a = tt
different-numbers (suc n) a = (not-above n (suc a) a (omega arith), different-numbers n (suc a))

different-filter : (p : ℕ → Bool) (xs : List ℕ) → AreDifferent xs → AreDifferent (filter p xs)
different-filter p [] d = tt
different-filter p (x ∷ xs) d = by_test (p x) refl (different-filter p xs d.1)
  where
    by_test : (b : Bool) → p x ≡ b → AreDifferent (filter p xs) → AreDifferent (filter p (x ∷ xs))
    by_test true e rest = rw e (has-filter p xs x ∙ and_right (p x) (has xs x) d.0, rest)
    by_test false e rest = rw e rest

different-append : (xs ys : List ℕ) → AreDifferent xs → AreDifferent ys → ((c : ℕ) → has xs c ≡ true → has ys c ≡ false)
    → AreDifferent (xs ++ ys)
different-append [] ys d e apart = e
different-append (x ∷ xs) ys d e apart =
    let own : has (x ∷ xs) x ≡ true = rw (eq-eqb x x refl) refl in
    let there = apart x own in
    let here = d.0 in (
      list_any-append (λ m. m == x) xs ys ∙ rw (here, there) refl,
      different-append xs ys d.1 e (λ c is. apart c (or_right (x == c) (has xs c) is)),
    )

used-once : (list : List ℕ) (n k : ℕ) → AreDifferent list → AreDifferent (kept list n ++ missing list k)
used-once list n k d =
    different-append (kept list n) (missing list k) (different-filter (λ c. nat_lt c n) list d)
    (different-filter (λ c. not (has list c)) (below k) (different-numbers k 0))
    (λ c is. has-filter (λ m. not (has list m)) (below k) c ∙ not-both (nat_lt c n) (has list c) (has (below k) c) (sym (has-filter (λ m. nat_lt m n) list c) ∙ is))
  where
    not-both : (a b e : Bool) → (a && b) ≡ true → (not b && e) ≡ false
    not-both true true e h = refl
    not-both true false e h = absurd cc
    not-both false b e h = absurd cc

pub used-order : (list : List ℕ) (n : ℕ) → AreDifferent list → IsOrderOf n (order_used list n)
used-order list n d =
    record {
      below = used-within list n n (omega arith);
      each = used-each list n;
      once = used-once list n n d;
    }

-- ---- how many there are

flipped : (m n : ℕ) → (m == n) ≡ eqb n m
flipped m n = grind (arith, nat_tests)

each-other : (x : ℕ) (xs : List ℕ) → has xs x ≡ false → AllByRecursion (λ y. eqb x y ≡ false) xs
each-other x [] none = tt
each-other x (y ∷ ys) none =
    let parts = or_parts (y == x) (has ys x) none in
    (sym (flipped y x) ∙ parts.0, each-other x ys parts.1)

distinct-of : (xs : List ℕ) → AreDifferent xs → IsDistinct eqb xs
unfolding IsDistinct
distinct-of [] d = tt
distinct-of (x ∷ xs) d = (each-other x xs d.0, distinct-of xs d.1)

as-has : (q : ℕ) (xs : List ℕ) → has xs q ≡ list_any (eqb q) xs
as-has q [] = refl
as-has q (x ∷ xs) = rw (flipped x q, as-has q xs) refl

used-few : (list : List ℕ) (n k : ℕ) → AreDifferent list → k ≤ n → length (kept list n ++ missing list k) ≤ n
used-few list n k d le =
    length-le_from_distinct_below (kept list n ++ missing list k) n (distinct-of (kept list n ++ missing list k) (used-once list n k d))
    (λ q is. used-within list n k le q (as-has q (kept list n ++ missing list k) ∙ is))

-- ---- on the way

pub kept-few : (p : ℕ → Bool) (xs : List ℕ) (i : ℕ) → length (filter p (take i xs)) ≤ i
kept-few p xs zero = omega arith
kept-few p [] (suc i) = omega arith
kept-few p (x ∷ xs) (suc i) = by_test (p x) (kept-few p xs i)
  where
    by_test : (b : Bool) → length (filter p (take i xs)) ≤ i → length (cond b (x ∷ filter p (take i xs)) (filter p (take i xs))) ≤ suc i
    by_test true le = omega arith
    by_test false le = omega arith

numbers-more : (n a : ℕ) → numbers_from a (suc n) ≡ numbers_from a n ++ (a + n) ∷ []
numbers-more zero a = let e : a ≡ a + 0 = omega arith in ap (λ m. m ∷ []) e
numbers-more (suc n) a =
    let e : suc a + n ≡ a + suc n = omega arith in
    ap (λ ms. a ∷ ms) (numbers-more n (suc a) ∙ ap (λ m. numbers_from (suc a) n ++ m ∷ []) e)

pub missing-more : (list : List ℕ) (k : ℕ) → missing list (k + 1) ≡ missing list k ++ cond (not (has list k)) (k ∷ []) []
missing-more list k =
    let e : k + 1 ≡ suc k = omega arith in
    let z : 0 + k ≡ k = omega arith in
    let p : ℕ → Bool = λ c. not (has list c) in
    ap (missing list) e ∙ (ap (filter p) (numbers-more k 0 ∙ ap (λ m. below k ++ m ∷ []) z) ∙ filter-append p (below k) (k ∷ []))

-- one that is missing is put at the end, and one that is there is not

pub used-more : (list : List ℕ) (n k : ℕ) → has list k ≡ false
    → (kept list n ++ missing list k) ++ k ∷ [] ≡ kept list n ++ missing list (k + 1)
used-more list n k none =
    append_assoc (kept list n) (missing list k) (k ∷ [])
    ∙ ap (λ ms. kept list n ++ ms) (sym (missing-more list k ∙ rw none refl))

pub used-same : (list : List ℕ) (n k : ℕ) → has list k ≡ true → kept list n ++ missing list k ≡ kept list n ++ missing list (k + 1)
used-same list n k there =
    ap (λ ms. kept list n ++ ms) (sym (missing-more list k ∙ rw there (append-nil (missing list k))))

pub used-room : (list : List ℕ) (n k : ℕ) → AreDifferent list → k < n → n ≤ 64 → has list k ≡ false
    → length (kept list n ++ missing list k) < 64
used-room list n k d lt few none =
    let all = used-few list n (k + 1) d (omega arith) in
    let more = ap length (used-more list n k none) in
    let one = length-append (kept list n ++ missing list k) (k ∷ []) in
    omega arith
