-- The names of the graph: each is a name, and no two are the same.
use Rattle.std.proofs.Common.{◌≡◌, ℕ, zero, suc, ◌+◌, ◌<◌, ◌≤◌, ◌⊎◌, inl, inr, true, ◌&&◌, List, [], ◌∷◌, ◌++◌, map, get_or, drop, append-nil, refl, ap, sym, ◌∙◌, subst, arith, IsTrue, ltb, ltb-true, ltb-false}
use Rattle.std.specs.Prelude.{codes, decimal}
use Rattle.std.specs.List.{list_all, range_with_len}
use Rattle.std.proofs.lemmas.Bool.{cases_Bool, eqb-false}
use Rattle.std.proofs.lemmas.Fmt.{decimal_digit, decimal_injective}
use Rattle.std.proofs.lemmas.List.Folds.{list_all-append, list_all-map}
use Rattle.itoa.proofs.Decimal.{decimal_two, pair}
use Rattle.em_log.specs.Names.{is_name, are_different}
use Rattle.em_log.specs.WellFormed.{names_of}
use Rattle.em_script.proofs.Distinct.{IsAmong}
use Rattle.em_script.proofs.Forms.{and-both}
use Rattle.em_script.proofs.NamesApart.{Differ, differ-different}
use Rattle.em_generated.specs.Graph.{named, object_of, queue_of, output, generated_graph}
use Rattle.em_generated.proofs.Numbers.{all-numbers, each-number}

-- ---- no two are the same

same-number : (letter i j : ℕ) → i < 40 → j < 40 → letter ∷ decimal i ≡ letter ∷ decimal j → i ≡ j
same-number letter i j p q e = decimal_injective i j (omega arith) (omega arith) (ap (drop 1) e)

-- a text among numbered names and others is one of these or of those
among-numbers : (f : ℕ → List ℕ) (t : List ℕ) (ys : List (List ℕ)) (w a : ℕ) → IsAmong t (map f (range_with_len a w) ++ ys)
    → ((j : ℕ) × (a ≤ j) × (j < a + w) × (t ≡ f j)) ⊎ IsAmong t ys
among-numbers f t ys zero a h = inr h
among-numbers f t ys (suc w) a (inl e) = inl (a, omega arith, omega arith, e)
among-numbers f t ys (suc w) a (inr h) = elim (among-numbers f t ys w (a + 1) h) [
  | inl k ↦ (let from = k.1 in let to = k.2 in inl (k.0, omega arith, omega arith, k.3))
  | inr o ↦ inr o
]

differ-numbers : (f : ℕ → List ℕ) (ys : List (List ℕ)) (limit : ℕ) → ((i j : ℕ) → i < limit → j < limit → f i ≡ f j → i ≡ j)
    → ((i : ℕ) → IsAmong (f i) ys → ⊥) → Differ ys → (w a : ℕ) → a + w ≤ limit → Differ (map f (range_with_len a w) ++ ys)
differ-numbers f ys limit once apart differ zero a fits = differ
differ-numbers f ys limit once apart differ (suc w) a fits = (
  λ h. elim (among-numbers f (f a) ys w (a + 1) h) [
    | inl k ↦ (let from = k.1 in let to = k.2 in let same = once a k.0 (omega arith) (omega arith) k.3 in absurd (omega arith))
    | inr o ↦ apart a o
  ],
  differ-numbers f ys limit once apart differ w (a + 1) (omega arith),
)

first-letter : (t u : List ℕ) → t ≡ u → get_or t 0 0 ≡ get_or u 0 0
first-letter t u e = ap (λ s. get_or s 0 0) e

objects-apart : (w i : ℕ) → IsAmong (named (codes "x") i) (map (named (codes "q")) (range_with_len 0 w) ++ codes "o" ∷ []) → ⊥
objects-apart w i h = elim (among-numbers (named (codes "q")) (named (codes "x") i) (codes "o" ∷ []) w 0 h) [
  | inl k ↦ absurd (eqb-false 120 113 refl (first-letter (named (codes "x") i) (named (codes "q") k.0) k.3))
  | inr (inl o) ↦ absurd (eqb-false 120 111 refl (first-letter (named (codes "x") i) (codes "o") o))
  | inr (inr n) ↦ n
]

queues-apart : (i : ℕ) → IsAmong (named (codes "q") i) (codes "o" ∷ []) → ⊥
queues-apart i (inl o) = absurd (eqb-false 113 111 refl (first-letter (named (codes "q") i) (codes "o") o))
queues-apart i (inr n) = n

pool-apart : (n : ℕ) → IsAmong (codes "p") (map (named (codes "x")) (range_with_len 0 n) ++ (map (named (codes "q")) (range_with_len 0 n) ++ codes "o" ∷ [])) → ⊥
pool-apart n h = elim (among-numbers (named (codes "x")) (codes "p") (map (named (codes "q")) (range_with_len 0 n) ++ codes "o" ∷ []) n 0 h) [
  | inl k ↦ absurd (eqb-false 112 120 refl (first-letter (codes "p") (named (codes "x") k.0) k.3))
  | inr more ↦ elim (among-numbers (named (codes "q")) (codes "p") (codes "o" ∷ []) n 0 more) [
    | inl k ↦ absurd (eqb-false 112 113 refl (first-letter (codes "p") (named (codes "q") k.0) k.3))
    | inr (inl o) ↦ absurd (eqb-false 112 111 refl (first-letter (codes "p") (codes "o") o))
    | inr (inr n) ↦ n
  ]
]

-- the names as they stand: the pool's, the objects', the queues'
abbrev texts : ℕ → List (List ℕ)
texts n =
    codes "p" ∷ (map (named (codes "x")) (range_with_len 0 n) ++ (map (named (codes "q")) (range_with_len 0 n) ++ codes "o" ∷ []))

differ : (n : ℕ) → n ≤ 40 → Differ (texts n)
differ n few = (
  pool-apart n,
  differ-numbers (named (codes "x")) (map (named (codes "q")) (range_with_len 0 n) ++ codes "o" ∷ []) 40 (same-number 120) (objects-apart n)
      (differ-numbers (named (codes "q")) (codes "o" ∷ []) 40 (same-number 113) queues-apart ((λ n. n), tt) n 0 (omega arith))
      n 0 (omega arith),
)

-- ---- each is a name

-- one digit behind these letters, and two
abbrev OneDigit : List ℕ → Type 0
OneDigit letters = list_all (λ i. is_name (letters ++ (48 + i) ∷ [])) (range_with_len 0 10) ≡ true

abbrev TwoDigits : List ℕ → Type 0
TwoDigits letters = list_all (λ i. is_name (letters ++ pair i)) (range_with_len 10 30) ≡ true

is-named : (letters : List ℕ) → OneDigit letters → TwoDigits letters → (i : ℕ) → i < 40 → is_name (named letters i) ≡ true
is-named letters one two i few = elim (cases_Bool (ltb i 10)) [
  | inl y ↦
      (let below : i < 10 = ltb-true i 10 y in
      ap (λ t. is_name (letters ++ t)) (decimal_digit i below)
      ∙ each-number (λ i. is_name (letters ++ (48 + i) ∷ [])) 10 0 i one (omega arith) (omega arith))
  | inr n ↦
      (let above : 10 ≤ i = ltb-false i 10 n in
      ap (λ t. is_name (letters ++ t)) (decimal_two i above (omega arith))
      ∙ each-number (λ i. is_name (letters ++ pair i)) 30 10 i two above (omega arith))
]

all-of-them : (letters : List ℕ) (n : ℕ) → n ≤ 40 → OneDigit letters → TwoDigits letters → list_all is_name (map (named letters) (range_with_len 0 n)) ≡ true
all-of-them letters n few one two =
    list_all-map is_name (named letters) (range_with_len 0 n)
    ∙ all-numbers (λ i. is_name (named letters i)) n 0 (λ i from to. is-named letters one two i (omega arith))

objects-named : (n : ℕ) → n ≤ 40 → list_all is_name (map (named (codes "x")) (range_with_len 0 n)) ≡ true
objects-named n few = all-of-them (codes "x") n few refl refl

queues-named : (n : ℕ) → n ≤ 40 → list_all is_name (map (named (codes "q")) (range_with_len 0 n)) ≡ true
queues-named n few = all-of-them (codes "q") n few refl refl

all-named : (n : ℕ) → n ≤ 40 → list_all is_name (texts n) ≡ true
all-named n few =
    let last : list_all is_name (map (named (codes "q")) (range_with_len 0 n) ++ codes "o" ∷ []) ≡ true =
    list_all-append is_name (map (named (codes "q")) (range_with_len 0 n)) (codes "o" ∷ [])
    ∙ and-both (list_all is_name (map (named (codes "q")) (range_with_len 0 n))) true (queues-named n few) refl in
    list_all-append is_name (map (named (codes "x")) (range_with_len 0 n)) (map (named (codes "q")) (range_with_len 0 n) ++ codes "o" ∷ [])
    ∙ and-both (list_all is_name (map (named (codes "x")) (range_with_len 0 n))) (list_all is_name (map (named (codes "q")) (range_with_len 0 n) ++ codes "o" ∷ []))
    (objects-named n few) last

-- ---- the names of the graph

object-names : (n : ℕ) (ks : List ℕ) → map (λ d. d.name) (map (object_of n) ks) ≡ map (named (codes "x")) ks
object-names n [] = refl
object-names n (k ∷ ks) = ap (λ ts. named (codes "x") k ∷ ts) (object-names n ks)

queue-names : (ks : List ℕ) → map (λ d. d.name) (map queue_of ks ++ output ∷ []) ≡ map (named (codes "q")) ks ++ codes "o" ∷ []
queue-names [] = refl
queue-names (k ∷ ks) = ap (λ ts. named (codes "q") k ∷ ts) (queue-names ks)

names-are : (n : ℕ) → names_of (generated_graph n) ≡ texts n
unfolding generated_graph
names-are n =
    let objects = object-names n (range_with_len 0 n) in
    let queues = queue-names (range_with_len 0 n) in
    ap (λ ts. codes "p" ∷ ts)
    (append-nil (map (λ d. d.name) (map (object_of n) (range_with_len 0 n)) ++ [] ++ map (λ d. d.name) (map queue_of (range_with_len 0 n) ++ output ∷ []))
    ∙ ap (λ ts. ts ++ map (λ d. d.name) (map queue_of (range_with_len 0 n) ++ output ∷ [])) (append-nil (map (λ d. d.name) (map (object_of n) (range_with_len 0 n))))
    ∙ (λ i. objects i ++ queues i))

pub names : (n : ℕ) → n ≤ 40 → IsTrue (list_all is_name (names_of (generated_graph n)) && are_different (names_of (generated_graph n)))
names n few =
    subst (λ ts. IsTrue (list_all is_name ts && are_different ts)) (sym (names-are n))
    (and-both (list_all is_name (texts n)) (are_different (texts n)) (all-named n few) (differ-different (texts n) (differ n few)))
