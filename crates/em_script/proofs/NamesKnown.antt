-- What the names stand for after so many declarations: all that was declared, and nothing else.
use Rattle.std.proofs.Common.{◌≡◌, ℕ, suc, ◌<◌, ◌≤◌, Bool, true, false, cond, ltb, List, [], ◌∷◌, length, Option, Some, None, refl, sym, ap, subst, ◌∙◌, arith, inl, inr, ◌⊎◌, eqb-true}
use Rattle.std.specs.FinMap as map
use Rattle.std.specs.FinMap.{get-empty, get-insert}
use Rattle.std.specs.Ordering.{is_eq, nat_cmp}
use Rattle.std.specs.Cmp.{eq_by_cmp_equiv}
use Rattle.std.specs.Cmp.Lexicographic.{slice_cmp}
use Rattle.std.specs.Prelude.{◌==◌, codes, slice_get}
use Rattle.std.proofs.lemmas.Bool.{cases_Bool, ltb-true, ltb-false}
use Rattle.std.proofs.lemmas.Cmp.{nat_list_cmp_total}
use Rattle.std.proofs.lemmas.Map.Lookups.{exact_bytes}
use Rattle.em_log.specs.WellFormed.{Counts, counted, is_declared_next, is_order_from, no_counts, uses_agroup, uses_queue}
use Rattle.em_log.specs.declared.graph.Config.{Config}
use Rattle.em_log.specs.declared.graph.Decl.{Decl}
use Rattle.em_script.specs.declared.named.Named.{Named}
use Rattle.em_script.specs.declared.named.Named.TheVariants as named
use Rattle.em_script.specs.Names.{Table, first_table, name_in}
use Rattle.em_script.proofs.Ascii.{both}
use Rattle.em_script.proofs.DeclarationsRead.{AreAll, AreWithin, all-of, all_named, named_too, some_at, within-of, within-one}
use Rattle.em_script.proofs.NamesRead.{AreNamed, equal-of, named_too-named}

-- it is among so many of each kind
abbrev pub IsBefore : Counts → Named → Type 0
IsBefore n (named.Pool id) = id.0 < n.pools
IsBefore n (named.Group id) = id.0 ≤ n.groups
IsBefore n (named.Eo id) = id.0 < n.eos
IsBefore n (named.Agroup k) = k < n.agroups
IsBefore n (named.Queue id) = id.0 < n.queues
IsBefore n (named.Egroup id) = id.0 < n.egroups

-- what a declaration names
abbrev pub meaning : Decl → Named
meaning (Decl.Pool n) = named.Pool (record { 0 = n })
meaning (Decl.Group n) = named.Group (record { 0 = suc n })
meaning (Decl.Eo n) = named.Eo (record { 0 = n })
meaning (Decl.Agroup n) = named.Agroup n
meaning (Decl.Queue n) = named.Queue (record { 0 = n })
meaning (Decl.Egroup n) = named.Egroup (record { 0 = n })

abbrev pub AreKnown : Config → Counts → Table → Type 0
AreKnown g n t = (x : Named) → IsBefore n x → map.get t (name_in g x) ≡ Some x

abbrev pub AreBefore : Counts → Table → Type 0
AreBefore n t = (token : List ℕ) (x : Named) → map.get t token ≡ Some x → IsBefore n x

-- ---- one name more

less_or : (a n : ℕ) → a < suc n → (a < n) ⊎ (a ≡ n)
less_or a n lt =
    elim (cases_Bool (ltb a n)) [
      | inl e ↦ inl (ltb-true a n e)
      | inr e ↦ inr (let ge = ltb-false a n e in omega arith)
    ]

no_more_or : (a n : ℕ) → a ≤ suc n → (a ≤ n) ⊎ (a ≡ suc n)
no_more_or a n le =
    elim (cases_Bool (ltb n a)) [
      | inl e ↦ inr (let lt = ltb-true n a e in omega arith)
      | inr e ↦ inl (ltb-false n a e)
    ]

also : {A B C : Type 0} → (B → C) → A ⊎ B → A ⊎ C
also f (inl x) = inl x
also f (inr y) = inr (f y)

cond-known : (b : Bool) (v x : Named) (old : Option Named) → old ≡ Some x → (b ≡ true → v ≡ x) → cond b (Some v) old ≡ Some x
cond-known true v x old e same = ap (λ (y : Named). Some y) (same refl)
cond-known false v x old e same = e

get-same : (t : Table) (k : List ℕ) (v : Named) (b : Bool) → is_eq (slice_cmp nat_cmp k k) ≡ b → b ≡ true → map.get (map.insert t k v) k ≡ Some v
get-same t k v b e y = get-insert nat_list_cmp_total t k v k ∙ rw (e, y) refl

cond-before : (b : Bool) (n : Counts) (v x : Named) (old : Option Named) → cond b (Some v) old ≡ Some x → IsBefore n v → (old ≡ Some x → IsBefore n x) → IsBefore n x
cond-before true n v x old e here before = subst (IsBefore n) (let same : v ≡ x = cc in same) here
cond-before false n v x old e here before = before e

insert-before : (n m : Counts) (t : Table) (k : List ℕ) (v : Named) → AreBefore n t → ((x : Named) → IsBefore n x → IsBefore m x) → IsBefore m v → AreBefore m (map.insert t k v)
insert-before n m t k v before grows here token x e =
    cond-before (is_eq (slice_cmp nat_cmp token k)) m v x (map.get t token) (sym (get-insert nat_list_cmp_total t k v token) ∙ e) here (λ old. grows x (before token x old))

insert-known : (g : Config) (n : Counts) (t : Table) (v x : Named) → AreKnown g n t → map.get t (name_in g v) ≡ None → IsBefore n x → map.get (map.insert t (name_in g v) v) (name_in g x) ≡ Some x
insert-known g n t v x known fresh before =
    let k = name_in g v in
    let q = name_in g x in
    get-insert nat_list_cmp_total t k v q
    ∙ cond-known (is_eq (slice_cmp nat_cmp q k)) v x (map.get t q) (known x before)
    (λ y. absurd (let same : name_in g x ≡ name_in g v = exact_bytes q k (equal-of (slice_cmp nat_cmp q k) y) in let found : None ≡ Some x = sym fresh ∙ ap (map.get t) (sym same) ∙ known x before in cc))

-- ---- one declaration more

pub grows : (d : Decl) (n : Counts) (x : Named) → IsBefore n x → IsBefore (counted d n) x
grows (Decl.Pool k) n (named.Pool y) h = omega arith
grows (Decl.Pool k) n (named.Group y) h = h
grows (Decl.Pool k) n (named.Eo y) h = h
grows (Decl.Pool k) n (named.Agroup y) h = h
grows (Decl.Pool k) n (named.Queue y) h = h
grows (Decl.Pool k) n (named.Egroup y) h = h
grows (Decl.Group k) n (named.Pool y) h = h
grows (Decl.Group k) n (named.Group y) h = omega arith
grows (Decl.Group k) n (named.Eo y) h = h
grows (Decl.Group k) n (named.Agroup y) h = h
grows (Decl.Group k) n (named.Queue y) h = h
grows (Decl.Group k) n (named.Egroup y) h = h
grows (Decl.Eo k) n (named.Pool y) h = h
grows (Decl.Eo k) n (named.Group y) h = h
grows (Decl.Eo k) n (named.Eo y) h = omega arith
grows (Decl.Eo k) n (named.Agroup y) h = h
grows (Decl.Eo k) n (named.Queue y) h = h
grows (Decl.Eo k) n (named.Egroup y) h = h
grows (Decl.Agroup k) n (named.Pool y) h = h
grows (Decl.Agroup k) n (named.Group y) h = h
grows (Decl.Agroup k) n (named.Eo y) h = h
grows (Decl.Agroup k) n (named.Agroup y) h = omega arith
grows (Decl.Agroup k) n (named.Queue y) h = h
grows (Decl.Agroup k) n (named.Egroup y) h = h
grows (Decl.Queue k) n (named.Pool y) h = h
grows (Decl.Queue k) n (named.Group y) h = h
grows (Decl.Queue k) n (named.Eo y) h = h
grows (Decl.Queue k) n (named.Agroup y) h = h
grows (Decl.Queue k) n (named.Queue y) h = omega arith
grows (Decl.Queue k) n (named.Egroup y) h = h
grows (Decl.Egroup k) n (named.Pool y) h = h
grows (Decl.Egroup k) n (named.Group y) h = h
grows (Decl.Egroup k) n (named.Eo y) h = h
grows (Decl.Egroup k) n (named.Agroup y) h = h
grows (Decl.Egroup k) n (named.Queue y) h = h
grows (Decl.Egroup k) n (named.Egroup y) h = omega arith

-- what the next declaration of this kind names
abbrev pub next_of : Decl → Counts → Named
next_of (Decl.Pool k) n = named.Pool (record { 0 = n.pools })
next_of (Decl.Group k) n = named.Group (record { 0 = suc n.groups })
next_of (Decl.Eo k) n = named.Eo (record { 0 = n.eos })
next_of (Decl.Agroup k) n = named.Agroup n.agroups
next_of (Decl.Queue k) n = named.Queue (record { 0 = n.queues })
next_of (Decl.Egroup k) n = named.Egroup (record { 0 = n.egroups })

pub before_or_now : (d : Decl) (n : Counts) (x : Named) → IsBefore (counted d n) x → IsBefore n x ⊎ (x ≡ next_of d n)
before_or_now (Decl.Pool k) n (named.Pool y) h = also (λ e. ap (λ m. named.Pool (record { 0 = m })) e) (less_or y.0 n.pools h)
before_or_now (Decl.Pool k) n (named.Group y) h = inl h
before_or_now (Decl.Pool k) n (named.Eo y) h = inl h
before_or_now (Decl.Pool k) n (named.Agroup y) h = inl h
before_or_now (Decl.Pool k) n (named.Queue y) h = inl h
before_or_now (Decl.Pool k) n (named.Egroup y) h = inl h
before_or_now (Decl.Group k) n (named.Pool y) h = inl h
before_or_now (Decl.Group k) n (named.Group y) h = also (λ e. ap (λ m. named.Group (record { 0 = m })) e) (no_more_or y.0 n.groups h)
before_or_now (Decl.Group k) n (named.Eo y) h = inl h
before_or_now (Decl.Group k) n (named.Agroup y) h = inl h
before_or_now (Decl.Group k) n (named.Queue y) h = inl h
before_or_now (Decl.Group k) n (named.Egroup y) h = inl h
before_or_now (Decl.Eo k) n (named.Pool y) h = inl h
before_or_now (Decl.Eo k) n (named.Group y) h = inl h
before_or_now (Decl.Eo k) n (named.Eo y) h = also (λ e. ap (λ m. named.Eo (record { 0 = m })) e) (less_or y.0 n.eos h)
before_or_now (Decl.Eo k) n (named.Agroup y) h = inl h
before_or_now (Decl.Eo k) n (named.Queue y) h = inl h
before_or_now (Decl.Eo k) n (named.Egroup y) h = inl h
before_or_now (Decl.Agroup k) n (named.Pool y) h = inl h
before_or_now (Decl.Agroup k) n (named.Group y) h = inl h
before_or_now (Decl.Agroup k) n (named.Eo y) h = inl h
before_or_now (Decl.Agroup k) n (named.Agroup y) h = also (λ e. ap (λ m. named.Agroup m) e) (less_or y n.agroups h)
before_or_now (Decl.Agroup k) n (named.Queue y) h = inl h
before_or_now (Decl.Agroup k) n (named.Egroup y) h = inl h
before_or_now (Decl.Queue k) n (named.Pool y) h = inl h
before_or_now (Decl.Queue k) n (named.Group y) h = inl h
before_or_now (Decl.Queue k) n (named.Eo y) h = inl h
before_or_now (Decl.Queue k) n (named.Agroup y) h = inl h
before_or_now (Decl.Queue k) n (named.Queue y) h = also (λ e. ap (λ m. named.Queue (record { 0 = m })) e) (less_or y.0 n.queues h)
before_or_now (Decl.Queue k) n (named.Egroup y) h = inl h
before_or_now (Decl.Egroup k) n (named.Pool y) h = inl h
before_or_now (Decl.Egroup k) n (named.Group y) h = inl h
before_or_now (Decl.Egroup k) n (named.Eo y) h = inl h
before_or_now (Decl.Egroup k) n (named.Agroup y) h = inl h
before_or_now (Decl.Egroup k) n (named.Queue y) h = inl h
before_or_now (Decl.Egroup k) n (named.Egroup y) h = also (λ e. ap (λ m. named.Egroup (record { 0 = m })) e) (less_or y.0 n.egroups h)

-- with a name that stood for nothing, all that was declared is known
pub known-more : (g : Config) (d : Decl) (n : Counts) (t : Table) → AreKnown g n t → map.get t (name_in g (next_of d n)) ≡ None → is_eq (slice_cmp nat_cmp (name_in g (next_of d n)) (name_in g (next_of d n))) ≡ true → AreKnown g (counted d n) (map.insert t (name_in g (next_of d n)) (next_of d n))
known-more g d n t known fresh self x before =
    let v = next_of d n in
    elim (before_or_now d n x before) [
      | inl old ↦ insert-known g n t v x known fresh old
      | inr now ↦ subst (λ (y : Named). map.get (map.insert t (name_in g (next_of d n)) (next_of d n)) (name_in g y) ≡ Some y) (sym now) (get-same t (name_in g v) v true self refl)
    ]

pub before-more : (d : Decl) (n : Counts) (t : Table) (k : List ℕ) → AreBefore n t → IsBefore (counted d n) (next_of d n) → AreBefore (counted d n) (map.insert t k (next_of d n))
before-more d n t k before here = insert-before n (counted d n) t k (next_of d n) before (grows d n) here

-- ---- all of them

abbrev pub counts_of : Config → Counts
counts_of g = record { pools = length g.pools; groups = length g.groups; eos = length g.eos; agroups = length g.agroups; queues = length g.queues; egroups = length g.egroups }

-- two parts of a graph have two names
abbrev pub AreDistinct : Config → Type 0
AreDistinct g = (x y : Named) → IsBefore (counts_of g) x → IsBefore (counts_of g) y → name_in g x ≡ name_in g y → x ≡ y

-- each name that is declared stands for nothing before
abbrev pub AreFresh : Config → List Decl → Table → Type 0
AreFresh g [] t = Unit {0}
AreFresh g (d ∷ ds) t = (map.get t (name_in g (meaning d)) ≡ None) × AreFresh g ds (named_too g d t)

pub next-before : (d : Decl) (n : Counts) → IsBefore (counted d n) (next_of d n)
next-before (Decl.Pool k) n = omega arith
next-before (Decl.Group k) n = omega arith
next-before (Decl.Eo k) n = omega arith
next-before (Decl.Agroup k) n = omega arith
next-before (Decl.Queue k) n = omega arith
next-before (Decl.Egroup k) n = omega arith

next-not : (d : Decl) (n : Counts) → IsBefore n (next_of d n) → ⊥
next-not (Decl.Pool k) n h = omega arith
next-not (Decl.Group k) n h = omega arith
next-not (Decl.Eo k) n h = omega arith
next-not (Decl.Agroup k) n h = omega arith
next-not (Decl.Queue k) n h = omega arith
next-not (Decl.Egroup k) n h = omega arith

pub within-declared : (g : Config) (n : Counts) (x : Named) → AreWithin g n → IsBefore n x → IsBefore (counts_of g) x
within-declared g n (named.Pool y) w h = omega (arith, w.pools)
within-declared g n (named.Group y) w h = omega (arith, w.groups)
within-declared g n (named.Eo y) w h = omega (arith, w.eos)
within-declared g n (named.Agroup y) w h = omega (arith, w.agroups)
within-declared g n (named.Queue y) w h = omega (arith, w.queues)
within-declared g n (named.Egroup y) w h = omega (arith, w.egroups)

pub next-is : (g : Config) (d : Decl) (n : Counts) → is_declared_next g d n ≡ true → meaning d ≡ next_of d n
next-is g (Decl.Pool k) n e = ap (λ m. named.Pool (record { 0 = m })) (eqb-true k n.pools e)
next-is g (Decl.Group k) n e = ap (λ m. named.Group (record { 0 = suc m })) (eqb-true k n.groups e)
next-is g (Decl.Eo k) n e = ap (λ m. named.Eo (record { 0 = m })) (eqb-true k n.eos e)
next-is g (Decl.Agroup k) n e = ap (λ m. named.Agroup m) (eqb-true k n.agroups (both (k == n.agroups) (uses_agroup g k n) e).0)
next-is g (Decl.Queue k) n e = ap (λ m. named.Queue (record { 0 = m })) (eqb-true k n.queues (both (k == n.queues) (uses_queue g k n) e).0)
next-is g (Decl.Egroup k) n e = ap (λ m. named.Egroup (record { 0 = m })) (eqb-true k n.egroups e)

pub next-inserted : (g : Config) (d : Decl) (n : Counts) (t : Table) → is_declared_next g d n ≡ true → AreWithin g (counted d n) → named_too g d t ≡ map.insert t (name_in g (next_of d n)) (next_of d n)
next-inserted g (Decl.Pool k) n t e w =
    let same : k ≡ n.pools = eqb-true k n.pools e in
    let some = some_at g.pools n.pools (omega (arith, w.pools)) in
    let got : slice_get g.pools n.pools ≡ Some some.0 = some.1 in
    rw (same, got) refl
next-inserted g (Decl.Group k) n t e w =
    let same : k ≡ n.groups = eqb-true k n.groups e in
    let some = some_at g.groups n.groups (omega (arith, w.groups)) in
    let got : slice_get g.groups n.groups ≡ Some some.0 = some.1 in
    rw (same, got) refl
next-inserted g (Decl.Eo k) n t e w =
    let same : k ≡ n.eos = eqb-true k n.eos e in
    let some = some_at g.eos n.eos (omega (arith, w.eos)) in
    let got : slice_get g.eos n.eos ≡ Some some.0 = some.1 in
    rw (same, got) refl
next-inserted g (Decl.Agroup k) n t e w =
    let same : k ≡ n.agroups = eqb-true k n.agroups (both (k == n.agroups) (uses_agroup g k n) e).0 in
    let some = some_at g.agroups n.agroups (omega (arith, w.agroups)) in
    let got : slice_get g.agroups n.agroups ≡ Some some.0 = some.1 in
    rw (same, got) refl
next-inserted g (Decl.Queue k) n t e w =
    let same : k ≡ n.queues = eqb-true k n.queues (both (k == n.queues) (uses_queue g k n) e).0 in
    let some = some_at g.queues n.queues (omega (arith, w.queues)) in
    let got : slice_get g.queues n.queues ≡ Some some.0 = some.1 in
    rw (same, got) refl
next-inserted g (Decl.Egroup k) n t e w =
    let same : k ≡ n.egroups = eqb-true k n.egroups e in
    let some = some_at g.egroups n.egroups (omega (arith, w.egroups)) in
    let got : slice_get g.egroups n.egroups ≡ Some some.0 = some.1 in
    rw (same, got) refl

unfound : (o : Option Named) → ((x : Named) → o ≡ Some x → ⊥) → o ≡ None
unfound None h = refl
unfound (Some x) h = absurd (h x refl)

pub next-fresh : (g : Config) → AreDistinct g → (d : Decl) (n : Counts) (t : Table) → AreWithin g (counted d n) → AreBefore n t → AreNamed g t → map.get t (name_in g (next_of d n)) ≡ None
next-fresh g distinct d n t w before named =
    unfound (map.get t (name_in g (next_of d n)))
    (λ x e. let old = before (name_in g (next_of d n)) x e in next-not d n (subst (IsBefore n) (distinct x (next_of d n) (within-declared g n x (within-one g d n w) old) (within-declared g (counted d n) (next_of d n) w (next-before d n)) (named (name_in g (next_of d n)) x e)) old))

self-equal : (k : List ℕ) → is_eq (slice_cmp nat_cmp k k) ≡ true
self-equal k = (eq_by_cmp_equiv nat_list_cmp_total).refl k

pub order-fresh : (g : Config) → AreDistinct g → (ds : List Decl) (n : Counts) (t : Table) → is_order_from g ds n ≡ true → AreBefore n t → AreNamed g t → AreFresh g ds t
order-fresh g distinct [] n t e before named = tt
order-fresh g distinct (d ∷ ds) n t e before named =
    let c = both (is_declared_next g d n) (is_order_from g ds (counted d n)) e in
    let w = within-of g ds (counted d n) c.1 in
    let fresh = next-fresh g distinct d n t w before named in
    let later = subst (AreBefore (counted d n)) (sym (next-inserted g d n t c.0 w)) (before-more d n t (name_in g (next_of d n)) before (next-before d n)) in
    (ap (λ x. map.get t (name_in g x)) (next-is g d n c.0) ∙ fresh, order-fresh g distinct ds (counted d n) (named_too g d t) c.1 later (named_too-named g d t named))

-- one declaration more is known, and so are those before it
pub next-known : (g : Config) → AreDistinct g → (d : Decl) (n : Counts) (t : Table) → is_declared_next g d n ≡ true → AreWithin g (counted d n) → AreBefore n t → AreNamed g t → AreKnown g n t → AreKnown g (counted d n) (named_too g d t)
next-known g distinct d n t e w before named known =
    subst (AreKnown g (counted d n)) (sym (next-inserted g d n t e w)) (known-more g d n t known (next-fresh g distinct d n t w before named) (self-equal (name_in g (next_of d n))))

pub all-before : (g : Config) (n : Counts) (x : Named) → AreAll g n → IsBefore (counts_of g) x → IsBefore n x
all-before g n (named.Pool y) a h = omega (arith, a.pools)
all-before g n (named.Group y) a h = omega (arith, a.groups)
all-before g n (named.Eo y) a h = omega (arith, a.eos)
all-before g n (named.Agroup y) a h = omega (arith, a.agroups)
all-before g n (named.Queue y) a h = omega (arith, a.queues)
all-before g n (named.Egroup y) a h = omega (arith, a.egroups)

-- after all declarations each part of the graph is known
pub order-known : (g : Config) → AreDistinct g → (ds : List Decl) (n : Counts) (t : Table) → is_order_from g ds n ≡ true → AreBefore n t → AreNamed g t → AreKnown g n t → AreKnown g (counts_of g) (all_named g ds t)
order-known g distinct [] n t e before named known = λ x h. known x (all-before g n x (all-of g n e) h)
order-known g distinct (d ∷ ds) n t e before named known =
    let c = both (is_declared_next g d n) (is_order_from g ds (counted d n)) e in
    let w = within-of g ds (counted d n) c.1 in
    let later = subst (AreBefore (counted d n)) (sym (next-inserted g d n t c.0 w)) (before-more d n t (name_in g (next_of d n)) before (next-before d n)) in
    order-known g distinct ds (counted d n) (named_too g d t) c.1 later (named_too-named g d t named) (next-known g distinct d n t c.0 w before named known)

-- at first there is the queue group of every core

pub first-before : AreBefore no_counts first_table
first-before =
    let none : AreBefore no_counts map.empty = λ token x e. absurd (let n : None ≡ Some x = sym (get-empty (slice_cmp nat_cmp) token) ∙ e in cc) in
    insert-before no_counts no_counts map.empty (codes "all") (named.Group (record { 0 = 0 })) none (λ x h. h) (omega arith)

pub first-known : (g : Config) → AreKnown g no_counts first_table
first-known g (named.Pool y) h = absurd (omega arith)
first-known g (named.Group y) h =
    let zero-is : y.0 ≡ 0 = omega arith in
    subst (λ k. map.get first_table (name_in g (named.Group (record { 0 = k }))) ≡ Some (named.Group (record { 0 = k }))) (sym zero-is) (get-same map.empty (codes "all") (named.Group (record { 0 = 0 })) true (self-equal (codes "all")) refl)
first-known g (named.Eo y) h = absurd (omega arith)
first-known g (named.Agroup y) h = absurd (omega arith)
first-known g (named.Queue y) h = absurd (omega arith)
first-known g (named.Egroup y) h = absurd (omega arith)
