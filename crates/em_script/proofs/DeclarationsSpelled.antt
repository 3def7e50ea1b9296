-- The lines of the declarations of a graph are spelled so that each is read as it is.
use Rattle.std.proofs.Common.{◌≡◌, ℕ, zero, suc, ◌-◌, ◌^◌, ◌<◌, ◌≤◌, Bool, true, false, not, ◌&&◌, leb-true, ltb-true, eqb-true, List, [], ◌∷◌, ◌++◌, Option, Some, refl, sym, ap, subst, ◌∙◌, arith}
use Rattle.std.specs.List.{flat_map, list_all}
use Rattle.std.specs.Option.{option_map_or}
use Rattle.std.specs.Prelude.{◌==◌, nat_le, nat_lt, slice_get}
use Rattle.em_log.specs.WellFormed.{Counts, IsWellFormed, counted, is_declared_next, is_group, is_order_from, is_pool, is_queue_decl, no_counts, uses_agroup, uses_of_queue, uses_queue}
use Rattle.em_log.specs.declared.graph.AgroupDecl.{AgroupDecl}
use Rattle.em_log.specs.declared.graph.Config.{Config}
use Rattle.em_log.specs.declared.graph.Decl.{Decl}
use Rattle.em_log.specs.declared.graph.Decl.TheVariants as decls
use Rattle.em_log.specs.declared.graph.EoDecl.{EoDecl}
use Rattle.em_log.specs.declared.graph.GroupDecl.{GroupDecl}
use Rattle.em_log.specs.declared.graph.PoolDecl.{PoolDecl}
use Rattle.em_log.specs.declared.graph.QueueDecl.{QueueDecl}
use Rattle.em_script.specs.declared.line.Line.TheVariants as lines
use Rattle.em_script.specs.declared.named.Named.TheVariants as named
use Rattle.em_script.specs.Names.{Table, first_table}
use Rattle.em_script.specs.Spelling.{declared_lines}
use Rattle.em_script.specs.State.{first_state}
use Rattle.em_script.proofs.Ascii.{both}
use Rattle.em_script.proofs.Declaring.{Knows, knows-next, naming-of, next-free}
use Rattle.em_script.proofs.DeclarationsRead.{AreWithin, all-of, all_named, declaration_read, declaring, front, named_too, some_at, within-of, within-one}
use Rattle.em_script.proofs.LineSpelled.{AreSpelled-append, both_ways, top-spelled}
use Rattle.em_script.proofs.NameForms.{IsKnown}
use Rattle.em_script.proofs.NamesKnown.{all-before, counts_of, first-before, first-known, within-declared}
use Rattle.em_script.proofs.NamesRead.{first-named}
use Rattle.em_script.proofs.QueueFitting.{KnowsUses, queue-fits}
use Rattle.em_script.proofs.Saying.{AreSpelled}
use Rattle.em_script.proofs.SlotForms.{IsFree}
use Rattle.em_script.proofs.Taken.{powers}

all-at : {A : Type 0} (p : A → Bool) (xs : List A) (k : ℕ) (x : A) → list_all p xs ≡ true → slice_get xs k ≡ Some x → p x ≡ true
all-at p [] k x all got = absurd cc
all-at p (y ∷ ys) zero x all got = let same : y ≡ x = cc in ap p (sym same) ∙ (both (p y) (list_all p ys) all).0
all-at p (y ∷ ys) (suc k) x all got = all-at p ys k x (both (p y) (list_all p ys) all).1 got

some-of : (m : ℕ) → not (m == 0) ≡ true → 1 ≤ m
some-of zero e = absurd cc
some-of (suc m) e = omega arith

map_or-at : {A : Type 0} (p : A → Bool) (o : Option A) (default : Bool) (x : A) → option_map_or p o default ≡ true → o ≡ Some x → p x ≡ true
map_or-at p o default x h e = ap (λ o. option_map_or p o default) (sym e) ∙ h

-- the line of a declaration is spelled so
abbrev IsSpelledOut : Config → Counts → List Decl → Table → Decl → Type 0
IsSpelledOut g n ds t d = AreSpelled g (declared_lines g d) (declaring (front g n ds) t)

few-of : (g : Config) → IsWellFormed g → 2 ^ g.cores - 1 < 2 ^ 64
few-of g well = powers g.cores well.few.cores.1

pools_spelled : (g : Config) → IsWellFormed g → (n : Counts) (ds : List Decl) (t : Table) (x : PoolDecl) → AreWithin g (counted (decls.Pool n.pools) n) → Knows g n t → slice_get g.pools n.pools ≡ Some x → IsSpelledOut g n ds t (decls.Pool n.pools)
pools_spelled g well n ds t x w k got =
    let is = naming-of g well n t (within-one g (decls.Pool n.pools) n w) k in
    let free : IsFree (both_ways g t) x.name = subst (IsFree (both_ways g t)) (ap (λ (o : Option PoolDecl). option_map_or (λ d. d.name) o []) got) (next-free g well (decls.Pool n.pools) n t w k) in
    let good = all-at is_pool g.pools n.pools x well.pools got in
    let a = both (nat_le 1 x.events && nat_le x.events 4096) (nat_le x.words 16) good in
    let b = both (nat_le 1 x.events) (nat_le x.events 4096) a.0 in
    rw got (top-spelled g (declaring (front g n ds) t) (lines.Pool x) is (few-of g well) (λ r. refl) refl (free, ((leb-true 1 x.events b.0, leb-true x.events 4096 b.1), ((omega arith, leb-true x.words 16 a.1), tt))), tt)

groups_spelled : (g : Config) → IsWellFormed g → (n : Counts) (ds : List Decl) (t : Table) (x : GroupDecl) → AreWithin g (counted (decls.Group n.groups) n) → Knows g n t → slice_get g.groups n.groups ≡ Some x → IsSpelledOut g n ds t (decls.Group n.groups)
groups_spelled g well n ds t x w k got =
    let is = naming-of g well n t (within-one g (decls.Group n.groups) n w) k in
    let free : IsFree (both_ways g t) x.name = subst (IsFree (both_ways g t)) (ap (λ (o : Option GroupDecl). option_map_or (λ d. d.name) o []) got) (next-free g well (decls.Group n.groups) n t w k) in
    let good = all-at (is_group g.cores) g.groups n.groups x well.groups got in
    let a = both (not (x.mask.0 == 0)) (nat_lt x.mask.0 (2 ^ g.cores)) good in
    let less = ltb-true x.mask.0 (2 ^ g.cores) a.1 in
    let most : x.mask.0 ≤ 2 ^ g.cores - 1 = omega arith in
    rw got (top-spelled g (declaring (front g n ds) t) (lines.Group x.name x.mask.0) is (few-of g well) (λ r. refl) refl (free, ((some-of x.mask.0 a.0, most), tt)), tt)

eos_spelled : (g : Config) → IsWellFormed g → (n : Counts) (ds : List Decl) (t : Table) (x : EoDecl) → AreWithin g (counted (decls.Eo n.eos) n) → Knows g n t → slice_get g.eos n.eos ≡ Some x → IsSpelledOut g n ds t (decls.Eo n.eos)
eos_spelled g well n ds t x w k got =
    let is = naming-of g well n t (within-one g (decls.Eo n.eos) n w) k in
    let free : IsFree (both_ways g t) x.name = subst (IsFree (both_ways g t)) (ap (λ (o : Option EoDecl). option_map_or (λ d. d.name) o []) got) (next-free g well (decls.Eo n.eos) n t w k) in
    rw got (top-spelled g (declaring (front g n ds) t) (lines.Eo x.name x.running) is (few-of g well) (λ r. refl) refl (free, (tt, tt)), tt)

agroups_spelled : (g : Config) → IsWellFormed g → (n : Counts) (ds : List Decl) (t : Table) (x : AgroupDecl) → AreWithin g (counted (decls.Agroup n.agroups) n) → Knows g n t → uses_agroup g n.agroups n ≡ true → slice_get g.agroups n.agroups ≡ Some x → IsSpelledOut g n ds t (decls.Agroup n.agroups)
agroups_spelled g well n ds t x w k uses got =
    let is = naming-of g well n t (within-one g (decls.Agroup n.agroups) n w) k in
    let free : IsFree (both_ways g t) x.name = subst (IsFree (both_ways g t)) (ap (λ (o : Option AgroupDecl). option_map_or (λ d. d.name) o []) got) (next-free g well (decls.Agroup n.agroups) n t w k) in
    let used = map_or-at (λ (d : AgroupDecl). nat_le d.group.0 n.groups) (slice_get g.agroups n.agroups) false x uses got in
    let known : IsKnown (both_ways g t) (named.Group x.group) = k.known (named.Group x.group) (leb-true x.group.0 n.groups used) in
    rw got (top-spelled g (declaring (front g n ds) t) (lines.Agroup x) is (few-of g well) (λ r. refl) refl (free, (known, tt)), tt)

queue-uses : (g : Config) (n : Counts) (t : Table) (x : QueueDecl) → Knows g n t → uses_of_queue n x ≡ true → KnowsUses (both_ways g t) x
queue-uses g n t x k uses =
    let a = both (option_map_or (λ x. nat_lt x.0 n.eos) x.eo true && option_map_or (λ n'. nat_le n'.0 n.groups) x.group true) (option_map_or (λ a. nat_lt a n.agroups) x.agroup true) uses in
    let b = both (option_map_or (λ x. nat_lt x.0 n.eos) x.eo true) (option_map_or (λ n'. nat_le n'.0 n.groups) x.group true) a.0 in
    record {
      eo = λ y e. k.known (named.Eo y) (ltb-true y.0 n.eos (map_or-at (λ x. nat_lt x.0 n.eos) x.eo true y b.0 e));
      group = λ y e. k.known (named.Group y) (leb-true y.0 n.groups (map_or-at (λ n'. nat_le n'.0 n.groups) x.group true y b.1 e));
      agroup = λ y e. k.known (named.Agroup y) (ltb-true y n.agroups (map_or-at (λ a. nat_lt a n.agroups) x.agroup true y a.1 e));
    }

queues_spelled : (g : Config) → IsWellFormed g → (n : Counts) (ds : List Decl) (t : Table) (x : QueueDecl) → AreWithin g (counted (decls.Queue n.queues) n) → Knows g n t → uses_queue g n.queues n ≡ true → slice_get g.queues n.queues ≡ Some x → IsSpelledOut g n ds t (decls.Queue n.queues)
queues_spelled g well n ds t x w k uses got =
    let is = naming-of g well n t (within-one g (decls.Queue n.queues) n w) k in
    let free : IsFree (both_ways g t) x.name = subst (IsFree (both_ways g t)) (ap (λ (o : Option QueueDecl). option_map_or (λ d. d.name) o []) got) (next-free g well (decls.Queue n.queues) n t w k) in
    let used = map_or-at (uses_of_queue n) (slice_get g.queues n.queues) false x uses got in
    let good = all-at (is_queue_decl g) g.queues n.queues x well.queues got in
    rw got (top-spelled g (declaring (front g n ds) t) (lines.Queue x) is (few-of g well) (λ r. refl) refl (free, queue-fits (both_ways g t) g x (queue-uses g n t x k used) good), tt)

egroups_spelled : (g : Config) → IsWellFormed g → (n : Counts) (ds : List Decl) (t : Table) (x : List ℕ) → AreWithin g (counted (decls.Egroup n.egroups) n) → Knows g n t → slice_get g.egroups n.egroups ≡ Some x → IsSpelledOut g n ds t (decls.Egroup n.egroups)
egroups_spelled g well n ds t x w k got =
    let is = naming-of g well n t (within-one g (decls.Egroup n.egroups) n w) k in
    let free : IsFree (both_ways g t) x = subst (IsFree (both_ways g t)) (ap (λ (o : Option (List ℕ)). option_map_or (λ d. d) o []) got) (next-free g well (decls.Egroup n.egroups) n t w k) in
    rw got (top-spelled g (declaring (front g n ds) t) (lines.Egroup x) is (few-of g well) (λ r. refl) refl (free, tt), tt)

declaration_spelled : (g : Config) → IsWellFormed g → (n : Counts) (ds : List Decl) (t : Table) (d : Decl) → is_declared_next g d n ≡ true → AreWithin g (counted d n) → Knows g n t → IsSpelledOut g n ds t d
declaration_spelled g well n ds t (Decl.Pool k) e w know =
    let same : k ≡ n.pools = eqb-true k n.pools e in
    let some = some_at g.pools n.pools (omega (arith, w.pools)) in
    rw same (pools_spelled g well n ds t some.0 w know some.1)
declaration_spelled g well n ds t (Decl.Group k) e w know =
    let same : k ≡ n.groups = eqb-true k n.groups e in
    let some = some_at g.groups n.groups (omega (arith, w.groups)) in
    rw same (groups_spelled g well n ds t some.0 w know some.1)
declaration_spelled g well n ds t (Decl.Eo k) e w know =
    let same : k ≡ n.eos = eqb-true k n.eos e in
    let some = some_at g.eos n.eos (omega (arith, w.eos)) in
    rw same (eos_spelled g well n ds t some.0 w know some.1)
declaration_spelled g well n ds t (Decl.Agroup k) e w know =
    let c = both (k == n.agroups) (uses_agroup g k n) e in
    let same : k ≡ n.agroups = eqb-true k n.agroups c.0 in
    let uses : uses_agroup g n.agroups n ≡ true = subst (λ m. uses_agroup g m n ≡ true) same c.1 in
    let some = some_at g.agroups n.agroups (omega (arith, w.agroups)) in
    rw same (agroups_spelled g well n ds t some.0 w know uses some.1)
declaration_spelled g well n ds t (Decl.Queue k) e w know =
    let c = both (k == n.queues) (uses_queue g k n) e in
    let same : k ≡ n.queues = eqb-true k n.queues c.0 in
    let uses : uses_queue g n.queues n ≡ true = subst (λ m. uses_queue g m n ≡ true) same c.1 in
    let some = some_at g.queues n.queues (omega (arith, w.queues)) in
    rw same (queues_spelled g well n ds t some.0 w know uses some.1)
declaration_spelled g well n ds t (Decl.Egroup k) e w know =
    let same : k ≡ n.egroups = eqb-true k n.egroups e in
    let some = some_at g.egroups n.egroups (omega (arith, w.egroups)) in
    rw same (egroups_spelled g well n ds t some.0 w know some.1)

-- ---- all of them

pub order_spelled : (g : Config) → IsWellFormed g → (ds so_far : List Decl) (n : Counts) (t : Table) → is_order_from g ds n ≡ true → Knows g n t → AreSpelled g (flat_map (declared_lines g) ds) (declaring (front g n so_far) t)
order_spelled g well [] so_far n t e know = tt
order_spelled g well (d ∷ ds) so_far n t e know =
    let c = both (is_declared_next g d n) (is_order_from g ds (counted d n)) e in
    let w = within-of g ds (counted d n) c.1 in
    let more = flat_map (declared_lines g) ds in
    AreSpelled-append g (declared_lines g d) more (declaring (front g n so_far) t) (declaration_spelled g well n so_far t d c.0 w know)
    (subst (AreSpelled g more) (sym (declaration_read g n so_far t d c.0 w)) (order_spelled g well ds (so_far ++ d ∷ []) (counted d n) (named_too g d t) c.1 (knows-next g well d n t c.0 w know)))

pub order-knows : (g : Config) → IsWellFormed g → (ds : List Decl) (n : Counts) (t : Table) → is_order_from g ds n ≡ true → Knows g n t → Knows g (counts_of g) (all_named g ds t)
order-knows g well [] n t e know =
    let all = all-of g n e in
    record {
      named = know.named;
      before = λ token x got. within-declared g n x (within-of g [] n e) (know.before token x got);
      known = λ x h. know.known x (all-before g n x all h);
    }
order-knows g well (d ∷ ds) n t e know =
    let c = both (is_declared_next g d n) (is_order_from g ds (counted d n)) e in
    order-knows g well ds (counted d n) (named_too g d t) c.1 (knows-next g well d n t c.0 (within-of g ds (counted d n) c.1) know)

pub knows-first : (g : Config) → Knows g no_counts first_table
knows-first g = record { named = first-named g; before = first-before; known = first-known g }

-- the first line
pub cores_spelled : (g : Config) → IsWellFormed g → AreSpelled g (lines.Cores g.cores ∷ []) first_state
cores_spelled g well =
    let w : AreWithin g no_counts = record { pools = omega arith; groups = omega arith; eos = omega arith; agroups = omega arith; queues = omega arith; egroups = omega arith } in
    (top-spelled g first_state (lines.Cores g.cores) (naming-of g well no_counts first_table w (knows-first g)) (omega arith) (λ r. refl) refl (well.few.cores, tt), tt)
