-- The queues that a core may take from, queue by queue.
use Rattle.std.proofs.Common.{◌≡◌, ◌≢◌, ℕ, zero, suc, ◌+◌, ◌<◌, ◌≤◌, ◌==◌, nat_lt, Bool, true, false, ◌&&◌, List, [], ◌∷◌, length, get_or, Option, Some, None, unwrap_or, refl, ap, sym, ◌∙◌, subst, arith, if◌then◌else◌, slice_get}
use Rattle.std.specs.Option.{option_map, option_map_or, option_and_then}
use Rattle.std.proofs.lemmas.Bool.{lt-ltb, le-ltb, ltb-true}
use Rattle.em_log.specs.declared.declarations.Declarations.{Declarations}
use Rattle.em_log.specs.declared.declarations.QueueShape.{QueueShape}
use Rattle.em_log.specs.declared.ids.EoId.{EoId}
use Rattle.em_log.specs.declared.ids.EoState.{EoState}
use Rattle.em_log.specs.Declarations.{group_in}
use Rattle.em_log.specs.States.{first_state, is_running, effective}
use Rattle.em_log.specs.Eligible.{has_core}
use Rattle.em_laws.proofs.Cores.{Compared, Same, Other, compared}
use Rattle.em_desk.specs.Choices.{is_allowed, runs_in, has_core_in, is_shape_allowed}

-- by its shape

state-running : (o : Option Bool) → is_running (option_map_or first_state o EoState.Created) ≡ unwrap_or o false
state-running None = refl
state-running (Some true) = refl
state-running (Some false) = refl

pub by-shape : (k : Declarations) (c q : ℕ) → is_allowed k c q ≡ option_map_or (is_shape_allowed k c) (slice_get k.queues q) false
by-shape k c q = by_shape (slice_get k.queues q)
  where
    by_object : (d : QueueShape) (o : Option EoId)
        → (option_map_or (λ x. is_running (option_map_or first_state (slice_get k.running x) EoState.Created)) (option_map (λ x. x.0) o) false
        && option_map_or (λ g. has_core (effective k [] g) c) (group_in k d) true)
        ≡ (option_map_or (λ x. unwrap_or (slice_get k.running x.0) false) o false && has_core_in k c d)
    by_object d None = refl
    by_object d (Some x) = let same = state-running (slice_get k.running x.0) in rw same refl

    by_shape : (o : Option QueueShape)
        → (option_map_or (λ x. is_running (option_map_or first_state (slice_get k.running x) EoState.Created)) (option_and_then (λ d. option_map (λ x. x.0) d.eo) o) false
        && option_map_or (λ g. has_core (effective k [] g) c) (option_and_then (group_in k) o) true)
        ≡ option_map_or (is_shape_allowed k c) o false
    by_shape None = refl
    by_shape (Some d) = by_object d d.eo

get-shape : {X : Type 0} (xs : List X) (i : ℕ) (d : X) → i < length xs → slice_get xs i ≡ Some (get_or xs i d)
get-shape [] i d lt = absurd (omega (arith, lt))
get-shape (x ∷ xs) zero d lt = refl
get-shape (x ∷ xs) (suc i) d lt = get-shape xs i d (omega (arith, lt))

pub allowed-at : (k : Declarations) (c n : ℕ) (d : QueueShape) (r h : Bool) → n < length k.queues → r ≡ runs_in k (get_or k.queues n d) → h ≡ has_core_in k c (get_or k.queues n d)
    → is_allowed k c n ≡ (r && h)
allowed-at k c n d r h lt runs core =
    by-shape k c n ∙ (ap (λ (o : Option QueueShape). option_map_or (is_shape_allowed k c) o false) (get-shape k.queues n d lt) ∙ (λ i. sym runs i && sym core i))

-- the same of the element that a loop over the queues looks at
pub allowed-in : (k : Declarations) (c n i : ℕ) (xs : List QueueShape) (d : QueueShape) (r h : Bool) → xs ≡ k.queues → n ≡ i → i < length xs
    → r ≡ runs_in k (get_or xs i d) → h ≡ has_core_in k c (get_or xs i d) → is_allowed k c n ≡ (r && h)
allowed-in k c n i xs d r h same at lt runs core =
    let there : i < length k.queues = subst (λ (ys : List QueueShape). i < length ys) same lt in
    ap (is_allowed k c) at
    ∙ allowed-at k c i d r h there (subst (λ (ys : List QueueShape). r ≡ runs_in k (get_or ys i d)) same runs) (subst (λ (ys : List QueueShape). h ≡ has_core_in k c (get_or ys i d)) same core)

-- where the object does not run, whatever the group
pub stopped-in : (k : Declarations) (c n i : ℕ) (xs : List QueueShape) (d : QueueShape) (r : Bool) → xs ≡ k.queues → n ≡ i → i < length xs
    → r ≡ runs_in k (get_or xs i d) → r ≡ false → is_allowed k c n ≡ false
stopped-in k c n i xs d r same at lt runs off =
    allowed-in k c n i xs d r (has_core_in k c (get_or xs i d)) same at lt runs refl ∙ ap (λ (b : Bool). b && has_core_in k c (get_or xs i d)) off

none-past : {X : Type 0} (xs : List X) (i : ℕ) → length xs ≤ i → slice_get xs i ≡ None
none-past [] i le = refl
none-past (x ∷ xs) zero le = absurd (omega (arith, le))
none-past (x ∷ xs) (suc i) le = none-past xs i (omega (arith, le))

pub not-allowed : (k : Declarations) (c q : ℕ) → length k.queues ≤ q → is_allowed k c q ≡ false
not-allowed k c q le = by-shape k c q ∙ ap (λ (o : Option QueueShape). option_map_or (is_shape_allowed k c) o false) (none-past k.queues q le)

-- queue after queue

none-below : (q : ℕ) → nat_lt q 0 ≡ false
none-below q = le-ltb q 0 (omega arith)

pub first-set : (k : Declarations) (c q : ℕ) (v : Bool) → v ≡ false → v ≡ (nat_lt q 0 && is_allowed k c q)
first-set k c q v is = let none = none-below q in is ∙ sym (ap (λ (b : Bool). b && is_allowed k c q) none)

other-below : (q n : ℕ) → q ≢ n → nat_lt q (n + 1) ≡ nat_lt q n
other-below q n ne = by_test (nat_lt q n) refl
  where
    by_test : (b : Bool) → nat_lt q n ≡ b → nat_lt q (n + 1) ≡ nat_lt q n
    by_test true t = let lt = ltb-true q n t in lt-ltb q (n + 1) (omega (arith, lt)) ∙ sym t
    by_test false f =
        let no : q < n → ⊥ = λ lt. absurd (let on = lt-ltb q n lt in cc (on, f)) in
        le-ltb q (n + 1) (omega (arith, no, ne)) ∙ sym f

own-below : (n : ℕ) → nat_lt n (n + 1) ≡ true
own-below n = lt-ltb n (n + 1) (omega arith)

-- the queue of number n is put in
pub put-in : (k : Declarations) (c n q : ℕ) (was : Bool) → is_allowed k c n ≡ true → was ≡ (nat_lt q n && is_allowed k c q)
    → (if q == n then true else was) ≡ (nat_lt q (n + 1) && is_allowed k c q)
put-in k c n q was on before = by_test (compared q n)
  where
    by_test : Compared q n → (if q == n then true else was) ≡ (nat_lt q (n + 1) && is_allowed k c q)
    by_test (Same t e) =
        let mine : nat_lt q (n + 1) ≡ true = subst (λ (m : ℕ). nat_lt m (n + 1) ≡ true) (sym e) (own-below n) in
        let allowed : is_allowed k c q ≡ true = subst (λ (m : ℕ). is_allowed k c m ≡ true) (sym e) on in
        rw t (sym (λ i. mine i && allowed i))
    by_test (Other f ne) = rw f (before ∙ ap (λ (b : Bool). b && is_allowed k c q) (sym (other-below q n ne)))

-- or left out
pub left-out : (k : Declarations) (c n q : ℕ) (was : Bool) → is_allowed k c n ≡ false → was ≡ (nat_lt q n && is_allowed k c q) → was ≡ (nat_lt q (n + 1) && is_allowed k c q)
left-out k c n q was off before = by_test (compared q n)
  where
    none : (a b : Bool) → b ≡ false → (a && b) ≡ false
    none true b h = h
    none false b h = refl

    by_test : Compared q n → was ≡ (nat_lt q (n + 1) && is_allowed k c q)
    by_test (Same t e) =
        let out : is_allowed k c q ≡ false = subst (λ (m : ℕ). is_allowed k c m ≡ false) (sym e) off in
        before ∙ (none (nat_lt q n) (is_allowed k c q) out ∙ sym (none (nat_lt q (n + 1)) (is_allowed k c q) out))
    by_test (Other f ne) = before ∙ ap (λ (b : Bool). b && is_allowed k c q) (sym (other-below q n ne))

pub all-sets : (k : Declarations) (c n q : ℕ) (v : Bool) → length k.queues ≤ n → v ≡ (nat_lt q n && is_allowed k c q) → v ≡ is_allowed k c q
all-sets k c n q v le is = by_test (nat_lt q n) refl
  where
    by_test : (b : Bool) → nat_lt q n ≡ b → v ≡ is_allowed k c q
    by_test true t = is ∙ ap (λ (b : Bool). b && is_allowed k c q) t
    by_test false f =
        let no : q < n → ⊥ = λ lt. absurd (let on = lt-ltb q n lt in cc (on, f)) in
        is ∙ (ap (λ (b : Bool). b && is_allowed k c q) f ∙ sym (not-allowed k c q (omega (arith, no, le))))
