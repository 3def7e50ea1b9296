-- The lines of declarations, read: each adds one declaration.
use Rattle.std.proofs.Common.{◌≡◌, ℕ, suc, ◌+◌, ◌<◌, ◌≤◌, true, false, ◌&&◌, List, [], ◌∷◌, ◌++◌, length, map, take, get_or, Some, None, sym, ap, ◌∙◌, append_assoc, append-nil, arith, eqb-true}
use Rattle.std.specs.FinMap as map
use Rattle.std.specs.List.{flat_map}
use Rattle.std.specs.Option.{option_map_or}
use Rattle.std.specs.Prelude.{◌==◌, slice_get}
use Rattle.std.proofs.lemmas.List.{length-take-le, map-append, take_all, take_more, length-map}
use Rattle.std.proofs.lemmas.Option.{get_or_from_slice_get, slice_get-get_or, slice_get_within}
use Rattle.em_log.specs.WellFormed.{Counts, counted, is_all, is_declared_next, is_order_from, uses_agroup, uses_queue}
use Rattle.em_log.specs.declared.graph.AgroupDecl.{AgroupDecl}
use Rattle.em_log.specs.declared.graph.Config.{Config}
use Rattle.em_log.specs.declared.graph.Decl.{Decl}
use Rattle.em_log.specs.declared.graph.Decl.TheVariants as decls
use Rattle.em_log.specs.declared.graph.EoDecl.{EoDecl}
use Rattle.em_log.specs.declared.graph.GroupDecl.{GroupDecl}
use Rattle.em_log.specs.declared.graph.PoolDecl.{PoolDecl}
use Rattle.em_log.specs.declared.graph.QueueDecl.{QueueDecl}
use Rattle.em_script.specs.declared.named.Named.TheVariants as named
use Rattle.em_script.specs.declared.phase.Phase.TheVariants as phases
use Rattle.em_script.specs.Names.{Table}
use Rattle.em_script.specs.Spelling.{declared_lines}
use Rattle.em_script.specs.State.{State, after_all}
use Rattle.em_script.proofs.Ascii.{both}
use Rattle.em_script.proofs.BlocksRead.{after_all-append}
use Rattle.em_script.proofs.BodiesRead.{bare, unwritten}

-- ---- lists, an item more

pub some_at : {A : Type 0} (xs : List A) (k : ℕ) → k < length xs → (x : A) × (slice_get xs k ≡ Some x)
some_at [] k lt = absurd (omega arith)
some_at (x ∷ xs) k lt = (get_or (x ∷ xs) k x, slice_get-get_or (x ∷ xs) k x lt)

pub more_at : {A : Type 0} (xs : List A) (k : ℕ) (x : A) → slice_get xs k ≡ Some x → take (suc k) xs ≡ take k xs ++ x ∷ []
more_at xs k x e =
    let one : suc k ≡ k + 1 = omega arith in
    ap (λ n. take n xs) one ∙ take_more xs k x (slice_get_within xs k x e) ∙ ap (λ y. take k xs ++ y ∷ []) (get_or_from_slice_get xs k x x e)

pub so_many : {A : Type 0} (xs : List A) (k : ℕ) (x : A) → slice_get xs k ≡ Some x → length (take k xs) ≡ k
so_many xs k x e = let lt = slice_get_within xs k x e in length-take-le k xs (omega arith)

bare_more : (xs : List EoDecl) (k : ℕ) (x : EoDecl) → slice_get xs k ≡ Some x → map bare (take (suc k) xs) ≡ map bare (take k xs) ++ bare x ∷ []
bare_more xs k x e = ap (map bare) (more_at xs k x e) ∙ map-append bare (take k xs) (x ∷ [])

pub bare_so_many : (xs : List EoDecl) (k : ℕ) (x : EoDecl) → slice_get xs k ≡ Some x → length (map bare (take k xs)) ≡ k
bare_so_many xs k x e = length-map (take k xs) bare ∙ so_many xs k x e

-- ---- a graph of which so many of each kind have been declared

abbrev pub front : Config → Counts → List Decl → Config
front g n ds =
    record {
      cores = g.cores;
      order = ds;
      pools = take n.pools g.pools;
      groups = take n.groups g.groups;
      eos = map bare (take n.eos g.eos);
      agroups = take n.agroups g.agroups;
      queues = take n.queues g.queues;
      egroups = take n.egroups g.egroups;
      boot = [];
      error = None;
    }

-- before the bodies
abbrev pub declaring : Config → Table → State
declaring g table = record { graph = g; table = table; has_boot = false; phase = phases.Declarations; block = []; nest = [] }

-- the names with that of one declaration more
abbrev pub named_too : Config → Decl → Table → Table
named_too g (Decl.Pool n) t = option_map_or (λ d. map.insert t d.name (named.Pool (record { 0 = n }))) (slice_get g.pools n) t
named_too g (Decl.Group n) t = option_map_or (λ d. map.insert t d.name (named.Group (record { 0 = suc n }))) (slice_get g.groups n) t
named_too g (Decl.Eo n) t = option_map_or (λ d. map.insert t d.name (named.Eo (record { 0 = n }))) (slice_get g.eos n) t
named_too g (Decl.Agroup n) t = option_map_or (λ d. map.insert t d.name (named.Agroup n)) (slice_get g.agroups n) t
named_too g (Decl.Queue n) t = option_map_or (λ d. map.insert t d.name (named.Queue (record { 0 = n }))) (slice_get g.queues n) t
named_too g (Decl.Egroup n) t = option_map_or (λ d. map.insert t d (named.Egroup (record { 0 = n }))) (slice_get g.egroups n) t

-- ---- one declaration

abbrev IsReadAs : Config → Counts → List Decl → Table → Decl → Type 0
IsReadAs g n ds t d = after_all (declared_lines g d) (declaring (front g n ds) t) ≡ declaring (front g (counted d n) (ds ++ d ∷ [])) (named_too g d t)

pools_read : (g : Config) (n : Counts) (ds : List Decl) (t : Table) (x : PoolDecl) → slice_get g.pools n.pools ≡ Some x → IsReadAs g n ds t (decls.Pool n.pools)
pools_read g n ds t x got =
    let many = so_many g.pools n.pools x got in
    let more = more_at g.pools n.pools x got in
    rw got (λ i. declaring (record (front g n ds) { order = ds ++ decls.Pool (many i) ∷ []; pools = sym more i }) (map.insert t x.name (named.Pool (record { 0 = many i }))))

groups_read : (g : Config) (n : Counts) (ds : List Decl) (t : Table) (x : GroupDecl) → slice_get g.groups n.groups ≡ Some x → IsReadAs g n ds t (decls.Group n.groups)
groups_read g n ds t x got =
    let many = so_many g.groups n.groups x got in
    let more = more_at g.groups n.groups x got in
    rw got (λ i. declaring (record (front g n ds) { order = ds ++ decls.Group (many i) ∷ []; groups = sym more i }) (map.insert t x.name (named.Group (record { 0 = suc (many i) }))))

eos_read : (g : Config) (n : Counts) (ds : List Decl) (t : Table) (x : EoDecl) → slice_get g.eos n.eos ≡ Some x → IsReadAs g n ds t (decls.Eo n.eos)
eos_read g n ds t x got =
    let many = bare_so_many g.eos n.eos x got in
    let more = bare_more g.eos n.eos x got in
    rw got (λ i. declaring (record (front g n ds) { order = ds ++ decls.Eo (many i) ∷ []; eos = sym more i }) (map.insert t x.name (named.Eo (record { 0 = many i }))))

agroups_read : (g : Config) (n : Counts) (ds : List Decl) (t : Table) (x : AgroupDecl) → slice_get g.agroups n.agroups ≡ Some x → IsReadAs g n ds t (decls.Agroup n.agroups)
agroups_read g n ds t x got =
    let many = so_many g.agroups n.agroups x got in
    let more = more_at g.agroups n.agroups x got in
    rw got (λ i. declaring (record (front g n ds) { order = ds ++ decls.Agroup (many i) ∷ []; agroups = sym more i }) (map.insert t x.name (named.Agroup (many i))))

queues_read : (g : Config) (n : Counts) (ds : List Decl) (t : Table) (x : QueueDecl) → slice_get g.queues n.queues ≡ Some x → IsReadAs g n ds t (decls.Queue n.queues)
queues_read g n ds t x got =
    let many = so_many g.queues n.queues x got in
    let more = more_at g.queues n.queues x got in
    rw got (λ i. declaring (record (front g n ds) { order = ds ++ decls.Queue (many i) ∷ []; queues = sym more i }) (map.insert t x.name (named.Queue (record { 0 = many i }))))

egroups_read : (g : Config) (n : Counts) (ds : List Decl) (t : Table) (x : List ℕ) → slice_get g.egroups n.egroups ≡ Some x → IsReadAs g n ds t (decls.Egroup n.egroups)
egroups_read g n ds t x got =
    let many = so_many g.egroups n.egroups x got in
    let more = more_at g.egroups n.egroups x got in
    rw got (λ i. declaring (record (front g n ds) { order = ds ++ decls.Egroup (many i) ∷ []; egroups = sym more i }) (map.insert t x (named.Egroup (record { 0 = many i }))))

-- ---- all of them

-- no more of each kind than the graph has
pub record AreWithin (g : Config) (n : Counts) : Type 0 where
  pub pools : n.pools ≤ length g.pools
  pub groups : n.groups ≤ length g.groups
  pub eos : n.eos ≤ length g.eos
  pub agroups : n.agroups ≤ length g.agroups
  pub queues : n.queues ≤ length g.queues
  pub egroups : n.egroups ≤ length g.egroups

pub record AreAll (g : Config) (n : Counts) : Type 0 where
  pub pools : n.pools ≡ length g.pools
  pub groups : n.groups ≡ length g.groups
  pub eos : n.eos ≡ length g.eos
  pub agroups : n.agroups ≡ length g.agroups
  pub queues : n.queues ≡ length g.queues
  pub egroups : n.egroups ≡ length g.egroups

pub all-of : (g : Config) (n : Counts) → is_all g n ≡ true → AreAll g n
all-of g n e =
    let c5 = both ((n.pools == length g.pools) && (n.groups == length g.groups) && (n.eos == length g.eos) && (n.agroups == length g.agroups) && (n.queues == length g.queues)) (n.egroups == length g.egroups) e in
    let c4 = both ((n.pools == length g.pools) && (n.groups == length g.groups) && (n.eos == length g.eos) && (n.agroups == length g.agroups)) (n.queues == length g.queues) c5.0 in
    let c3 = both ((n.pools == length g.pools) && (n.groups == length g.groups) && (n.eos == length g.eos)) (n.agroups == length g.agroups) c4.0 in
    let c2 = both ((n.pools == length g.pools) && (n.groups == length g.groups)) (n.eos == length g.eos) c3.0 in
    let c1 = both ((n.pools == length g.pools)) (n.groups == length g.groups) c2.0 in
    record {
      pools = eqb-true n.pools (length g.pools) c1.0;
      groups = eqb-true n.groups (length g.groups) c1.1;
      eos = eqb-true n.eos (length g.eos) c2.1;
      agroups = eqb-true n.agroups (length g.agroups) c3.1;
      queues = eqb-true n.queues (length g.queues) c4.1;
      egroups = eqb-true n.egroups (length g.egroups) c5.1;
    }

pub within-one : (g : Config) (d : Decl) (n : Counts) → AreWithin g (counted d n) → AreWithin g n
within-one g (Decl.Pool k) n w = record { pools = omega (arith, w.pools); groups = omega (arith, w.groups); eos = omega (arith, w.eos); agroups = omega (arith, w.agroups); queues = omega (arith, w.queues); egroups = omega (arith, w.egroups) }
within-one g (Decl.Group k) n w = record { pools = omega (arith, w.pools); groups = omega (arith, w.groups); eos = omega (arith, w.eos); agroups = omega (arith, w.agroups); queues = omega (arith, w.queues); egroups = omega (arith, w.egroups) }
within-one g (Decl.Eo k) n w = record { pools = omega (arith, w.pools); groups = omega (arith, w.groups); eos = omega (arith, w.eos); agroups = omega (arith, w.agroups); queues = omega (arith, w.queues); egroups = omega (arith, w.egroups) }
within-one g (Decl.Agroup k) n w = record { pools = omega (arith, w.pools); groups = omega (arith, w.groups); eos = omega (arith, w.eos); agroups = omega (arith, w.agroups); queues = omega (arith, w.queues); egroups = omega (arith, w.egroups) }
within-one g (Decl.Queue k) n w = record { pools = omega (arith, w.pools); groups = omega (arith, w.groups); eos = omega (arith, w.eos); agroups = omega (arith, w.agroups); queues = omega (arith, w.queues); egroups = omega (arith, w.egroups) }
within-one g (Decl.Egroup k) n w = record { pools = omega (arith, w.pools); groups = omega (arith, w.groups); eos = omega (arith, w.eos); agroups = omega (arith, w.agroups); queues = omega (arith, w.queues); egroups = omega (arith, w.egroups) }

pub within-of : (g : Config) (ds : List Decl) (n : Counts) → is_order_from g ds n ≡ true → AreWithin g n
within-of g [] n e = let a = all-of g n e in record { pools = omega (arith, a.pools); groups = omega (arith, a.groups); eos = omega (arith, a.eos); agroups = omega (arith, a.agroups); queues = omega (arith, a.queues); egroups = omega (arith, a.egroups) }
within-of g (d ∷ ds) n e =
    let c = both (is_declared_next g d n) (is_order_from g ds (counted d n)) e in
    within-one g d n (within-of g ds (counted d n) c.1)

pub declaration_read : (g : Config) (n : Counts) (ds : List Decl) (t : Table) (d : Decl) → is_declared_next g d n ≡ true → AreWithin g (counted d n) → IsReadAs g n ds t d
declaration_read g n ds t (Decl.Pool k) e w =
    let same : k ≡ n.pools = eqb-true k n.pools e in
    let some = some_at g.pools n.pools (omega (arith, w.pools)) in
    rw same (pools_read g n ds t some.0 some.1)
declaration_read g n ds t (Decl.Group k) e w =
    let same : k ≡ n.groups = eqb-true k n.groups e in
    let some = some_at g.groups n.groups (omega (arith, w.groups)) in
    rw same (groups_read g n ds t some.0 some.1)
declaration_read g n ds t (Decl.Eo k) e w =
    let same : k ≡ n.eos = eqb-true k n.eos e in
    let some = some_at g.eos n.eos (omega (arith, w.eos)) in
    rw same (eos_read g n ds t some.0 some.1)
declaration_read g n ds t (Decl.Agroup k) e w =
    let same : k ≡ n.agroups = eqb-true k n.agroups (both (k == n.agroups) (uses_agroup g k n) e).0 in
    let some = some_at g.agroups n.agroups (omega (arith, w.agroups)) in
    rw same (agroups_read g n ds t some.0 some.1)
declaration_read g n ds t (Decl.Queue k) e w =
    let same : k ≡ n.queues = eqb-true k n.queues (both (k == n.queues) (uses_queue g k n) e).0 in
    let some = some_at g.queues n.queues (omega (arith, w.queues)) in
    rw same (queues_read g n ds t some.0 some.1)
declaration_read g n ds t (Decl.Egroup k) e w =
    let same : k ≡ n.egroups = eqb-true k n.egroups e in
    let some = some_at g.egroups n.egroups (omega (arith, w.egroups)) in
    rw same (egroups_read g n ds t some.0 some.1)

abbrev pub all_named : Config → List Decl → Table → Table
all_named g [] t = t
all_named g (d ∷ ds) t = all_named g ds (named_too g d t)

front-all : (g : Config) (n : Counts) (ds : List Decl) → AreAll g n → front g n ds ≡ record (unwritten g) { order = ds }
front-all g n ds a =
    let pools : take n.pools g.pools ≡ g.pools = take_all n.pools g.pools (omega (arith, a.pools)) in
    let groups : take n.groups g.groups ≡ g.groups = take_all n.groups g.groups (omega (arith, a.groups)) in
    let eos : take n.eos g.eos ≡ g.eos = take_all n.eos g.eos (omega (arith, a.eos)) in
    let agroups : take n.agroups g.agroups ≡ g.agroups = take_all n.agroups g.agroups (omega (arith, a.agroups)) in
    let queues : take n.queues g.queues ≡ g.queues = take_all n.queues g.queues (omega (arith, a.queues)) in
    let egroups : take n.egroups g.egroups ≡ g.egroups = take_all n.egroups g.egroups (omega (arith, a.egroups)) in
    λ i. record { cores = g.cores; order = ds; pools = pools i; groups = groups i; eos = map bare (eos i); agroups = agroups i; queues = queues i; egroups = egroups i; boot = []; error = None }

pub order_read : (g : Config) (ds so_far : List Decl) (n : Counts) (t : Table) → is_order_from g ds n ≡ true → after_all (flat_map (declared_lines g) ds) (declaring (front g n so_far) t) ≡ declaring (record (unwritten g) { order = so_far ++ ds }) (all_named g ds t)
order_read g [] so_far n t e = ap (λ h. declaring h t) (front-all g n so_far (all-of g n e) ∙ ap (λ ds. record (unwritten g) { order = ds }) (sym (append-nil so_far)))
order_read g (d ∷ ds) so_far n t e =
    let c = both (is_declared_next g d n) (is_order_from g ds (counted d n)) e in
    after_all-append (declared_lines g d) (flat_map (declared_lines g) ds) (declaring (front g n so_far) t)
    ∙ ap (after_all (flat_map (declared_lines g) ds)) (declaration_read g n so_far t d c.0 (within-of g ds (counted d n) c.1))
    ∙ order_read g ds (so_far ++ d ∷ []) (counted d n) (named_too g d t) c.1
    ∙ ap (λ os. declaring (record (unwritten g) { order = os }) (all_named g ds (named_too g d t))) (append_assoc so_far (d ∷ []) ds)
