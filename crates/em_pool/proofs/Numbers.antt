-- Handles as numbers, and options.
use Rattle.std.proofs.Common.{◌≡◌, ◌≢◌, ℕ, suc, ◌+◌, ◌<◌, Bool, true, false, ◌==◌, ◌&&◌, ◌||◌, nat_le, Option, Some, None, is_some, List, [], ◌∷◌, ◌++◌, length, get_or, set, map, cond, if◌then◌else◌, arith, refl, ap, sym, ◌∙◌, ◌⊎◌, inl, inr, ⊎_elim, count_by}
use Rattle.std.specs.Option.{option_or}
use Rattle.std.proofs.lemmas.Bool.{eq-eqb, eqb-true, leb-true}
use Rattle.std.proofs.lemmas.List.Sums.{sum_by-cons, sum_by_push, sum_by-set}
use Rattle.std.proofs.lemmas.Nat.{div-mul-add, mod-mul-add, div-add-mod'}
use Rattle.em_log.specs.History.{handle_of, index_of, has, without}
use Rattle.em_pool.specs.State.{generation_of}

-- handles

pub index-handle : (g i : ℕ) → i < 65536 → index_of (handle_of g i) ≡ i
index-handle g i lt = mod-mul-add g 65536 i lt

pub generation-handle : (g i : ℕ) → i < 65536 → generation_of (handle_of g i) ≡ g
generation-handle g i lt = div-mul-add g 65536 i lt

pub handle-parts : (h : ℕ) → handle_of (generation_of h) (index_of h) ≡ h
handle-parts h = div-add-mod' h 65536

-- two handles of one generation and one index are one
pub same_handle : (h k : ℕ) → generation_of h ≡ generation_of k → index_of h ≡ index_of k → h ≡ k
same_handle h k g i = sym (handle-parts h) ∙ ((λ t. handle_of (g t) (i t)) ∙ handle-parts k)

-- tests

pub eq_test : (a b : ℕ) → a ≡ b → (a == b) ≡ true
eq_test a b e = eq-eqb a b e

pub ne_test : (a b : ℕ) → a ≢ b → (a == b) ≡ false
ne_test a b ne = by_test (a == b) refl
  where
    by_test : (t : Bool) → (a == b) ≡ t → (a == b) ≡ false
    by_test true e = absurd (ne (eqb-true a b e))
    by_test false e = e

pub from_test : (a b : ℕ) → (a == b) ≡ true → a ≡ b
from_test a b e = eqb-true a b e

pub bool_cases : (b : Bool) → (b ≡ true) ⊎ (b ≡ false)
bool_cases true = inl refl
bool_cases false = inr refl

pub lt-leb_not : (a b : ℕ) → b < a → nat_le a b ≡ false
lt-leb_not a b lt = ⊎_elim (λ t. absurd (let le = leb-true a b t in omega arith)) (λ f. f) (bool_cases (nat_le a b))

-- options

pub or-none : {A : Type 0} (o : Option A) → option_or o None ≡ o
or-none None = refl
or-none (Some x) = refl

pub some_or : {A : Type 0} (o p : Option A) → is_some o ≡ true → is_some (option_or o p) ≡ true
some_or None p e = absurd (cc e)
some_or (Some x) p e = refl

-- lists of handles

-- how often a handle stands in a list
abbrev pub times : ℕ → List ℕ → ℕ
times h xs = count_by (λ m. m == h) xs

pub times-cons : (h x : ℕ) (xs : List ℕ) → times h (x ∷ xs) ≡ (if x == h then 1 else 0) + times h xs
times-cons h x xs = sum_by-cons (λ m. cond (m == h) 1 0) x xs

pub times-push : (h n : ℕ) (xs : List ℕ) → times h (xs ++ n ∷ []) ≡ times h xs + (if n == h then 1 else 0)
times-push h n xs = sum_by_push (λ m. cond (m == h) 1 0) xs n

pub times-without_same : (h : ℕ) (xs : List ℕ) → times h (without h xs) ≡ 0
times-without_same h [] = refl
times-without_same h (x ∷ xs) = by_test (x == h) refl (times-without_same h xs)
  where
    by_test : (b : Bool) → (x == h) ≡ b → times h (without h xs) ≡ 0 → times h (if b then without h xs else x ∷ without h xs) ≡ 0
    by_test true t rest = rest
    by_test false t rest =
        let step = times-cons h x (without h xs) in let none : ◌≡◌ {A = ℕ} (if x == h then 1 else 0) 0 = ap (λ b. if b then 1 else 0) t in omega arith

pub times-without_other : (h n : ℕ) (xs : List ℕ) → n ≢ h → times h (without n xs) ≡ times h xs
times-without_other h n [] ne = refl
times-without_other h n (x ∷ xs) ne = by_test (x == n) refl (times-without_other h n xs ne)
  where
    by_test : (b : Bool) → (x == n) ≡ b → times h (without n xs) ≡ times h xs
        → times h (if b then without n xs else x ∷ without n xs) ≡ times h (x ∷ xs)
    by_test true t rest =
        let apart : x ≢ h = (λ e. ne (sym (from_test x n t) ∙ e)) in
        let step = times-cons h x xs in
        let none : ◌≡◌ {A = ℕ} (if x == h then 1 else 0) 0 = ap (λ b. if b then 1 else 0) (ne_test x h apart) in omega arith
    by_test false t rest = let left = times-cons h x (without n xs) in let right = times-cons h x xs in omega arith

pub length-without : (n : ℕ) (xs : List ℕ) → length (without n xs) + times n xs ≡ length xs
length-without n [] = refl
length-without n (x ∷ xs) = by_test (x == n) refl (length-without n xs)
  where
    by_test : (b : Bool) → (x == n) ≡ b → length (without n xs) + times n xs ≡ length xs
        → length (if b then without n xs else x ∷ without n xs) + times n (x ∷ xs) ≡ suc (length xs)
    by_test true t rest =
        let step = times-cons n x xs in let some : ◌≡◌ {A = ℕ} (if x == n then 1 else 0) 1 = ap (λ b. if b then 1 else 0) t in omega arith
    by_test false t rest =
        let step = times-cons n x xs in let none : ◌≡◌ {A = ℕ} (if x == n then 1 else 0) 0 = ap (λ b. if b then 1 else 0) t in omega arith

some-times : (h : ℕ) (xs : List ℕ) → has xs h ≡ true → 0 < times h xs
some-times h [] e = absurd (cc e)
some-times h (x ∷ xs) e = by_test (x == h) refl e (some-times h xs)
  where
    by_test : (b : Bool) → (x == h) ≡ b → (b || has xs h) ≡ true → (has xs h ≡ true → 0 < times h xs) → 0 < times h (x ∷ xs)
    by_test true t e rest =
        let step = times-cons h x xs in let some : ◌≡◌ {A = ℕ} (if x == h then 1 else 0) 1 = ap (λ b. if b then 1 else 0) t in omega arith
    by_test false t e rest = let step = times-cons h x xs in let more = rest e in omega arith

no-times : (h : ℕ) (xs : List ℕ) → has xs h ≡ false → times h xs ≡ 0
no-times h [] e = refl
no-times h (x ∷ xs) e = by_test (x == h) refl e (no-times h xs)
  where
    by_test : (b : Bool) → (x == h) ≡ b → (b || has xs h) ≡ false → (has xs h ≡ false → times h xs ≡ 0) → times h (x ∷ xs) ≡ 0
    by_test true t e rest = absurd (cc e)
    by_test false t e rest =
        let step = times-cons h x xs in let more = rest e in
        let none : ◌≡◌ {A = ℕ} (if x == h then 1 else 0) 0 = ap (λ b. if b then 1 else 0) t in omega arith

-- a handle that stands once or not at all
pub has-times : (h : ℕ) (xs : List ℕ) (b : Bool) → times h xs ≡ (if b then 1 else 0) → has xs h ≡ b
has-times h xs true e = ⊎_elim (λ t. t) (λ f. absurd (let z = no-times h xs f in omega arith)) (bool_cases (has xs h))
has-times h xs false e = ⊎_elim (λ t. absurd (let z = some-times h xs t in omega arith)) (λ f. f) (bool_cases (has xs h))

-- counts over a list

pub count_by-set : {X : Type 0} (p : X → Bool) (xs : List X) (i : ℕ) (x d : X) → i < length xs
    → count_by p (set xs i x) + (if p (get_or xs i d) then 1 else 0) ≡ count_by p xs + (if p x then 1 else 0)
count_by-set p xs i x d lt = sum_by-set (λ y. cond (p y) 1 0) xs i x d lt

pub count_by-map : {X : Type 0} (p : X → Bool) (f : X → X) (xs : List X) → ((x : X) → p (f x) ≡ p x) → count_by p (map f xs) ≡ count_by p xs
count_by-map p f [] same = refl
count_by-map p f (x ∷ xs) same =
    sum_by-cons (λ y. cond (p y) 1 0) (f x) (map f xs)
    ∙ ((λ i. cond (same x i) 1 0 + count_by-map p f xs same i) ∙ sym (sum_by-cons (λ y. cond (p y) 1 0) x xs))

pub count_by-none : {X : Type 0} (p : X → Bool) (f : X → X) (xs : List X) → ((x : X) → p (f x) ≡ false) → count_by p (map f xs) ≡ 0
count_by-none p f [] none = refl
count_by-none p f (x ∷ xs) none =
    let step = sum_by-cons (λ y. cond (p y) 1 0) (f x) (map f xs) in
    let rest = count_by-none p f xs none in
    let zero : ◌≡◌ {A = ℕ} (cond (p (f x)) 1 0) 0 = ap (λ b. cond b 1 0) (none x) in omega arith

-- two truths

pub both : (a b : Bool) → (a && b) ≡ true → (a ≡ true) × (b ≡ true)
both true true e = (refl, refl)
both true false e = absurd (cc e)
both false b e = absurd (cc e)

pub and-left : (a b : Bool) → a ≡ false → (a && b) ≡ false
and-left true b e = absurd (cc e)
and-left false b e = refl

pub and-right : (a b : Bool) → b ≡ false → (a && b) ≡ false
and-right true true e = absurd (cc e)
and-right true false e = refl
and-right false b e = refl
