-- The names that stand for something after the lines of declarations: each stands for what the graph declares under it.
use Rattle.std.proofs.Common.{◌≡◌, ℕ, suc, Bool, true, false, cond, List, [], ◌∷◌, Option, Some, None, refl, sym, ap, ◌∙◌, Ordering, Less, Equal, Greater}
use Rattle.std.specs.FinMap as map
use Rattle.std.specs.FinMap.{get-empty, get-insert}
use Rattle.std.specs.Option.{option_map_or}
use Rattle.std.specs.Ordering.{is_eq, nat_cmp}
use Rattle.std.specs.Cmp.Lexicographic.{slice_cmp}
use Rattle.std.specs.Prelude.{codes, slice_get}
use Rattle.std.proofs.lemmas.Cmp.{nat_list_cmp_total}
use Rattle.std.proofs.lemmas.Map.Lookups.{exact_bytes}
use Rattle.em_log.specs.declared.graph.Config.{Config}
use Rattle.em_log.specs.declared.graph.Decl.{Decl}
use Rattle.em_script.specs.declared.named.Named.{Named}
use Rattle.em_script.specs.declared.named.Named.TheVariants as named
use Rattle.em_script.specs.Names.{Table, first_table, name_in}
use Rattle.em_script.proofs.DeclarationsRead.{all_named, named_too}

-- what a name stands for has that name in the graph
abbrev pub AreNamed : Config → Table → Type 0
AreNamed g t = (token : List ℕ) (x : Named) → map.get t token ≡ Some x → name_in g x ≡ token

pub equal-of : (o : Ordering) → is_eq o ≡ true → o ≡ Equal
equal-of Less e = absurd cc
equal-of Equal e = refl
equal-of Greater e = absurd cc

either : (b : Bool) (v x : Named) (old : Option Named) → cond b (Some v) old ≡ Some x → (b ≡ true → v ≡ x) × (b ≡ false → old ≡ Some x)
either true v x old e = (λ t. cc, λ f. absurd cc)
either false v x old e = (λ t. absurd cc, λ f. e)

by_test : (b : Bool) (g : Config) (k token : List ℕ) (v x : Named) (old : Option Named) → cond b (Some v) old ≡ Some x → (b ≡ true → token ≡ k) → name_in g v ≡ k → (old ≡ Some x → name_in g x ≡ token) → name_in g x ≡ token
by_test true g k token v x old e same is before =
    let v-is : v ≡ x = (either true v x old e).0 refl in
    ap (name_in g) (sym v-is) ∙ is ∙ sym (same refl)
by_test false g k token v x old e same is before = before ((either false v x old e).1 refl)

insert-named : (g : Config) (t : Table) (k : List ℕ) (v : Named) → AreNamed g t → name_in g v ≡ k → AreNamed g (map.insert t k v)
insert-named g t k v before is token x e =
    by_test (is_eq (slice_cmp nat_cmp token k)) g k token v x (map.get t token) (sym (get-insert nat_list_cmp_total t k v token) ∙ e)
    (λ same. exact_bytes token k (equal-of (slice_cmp nat_cmp token k) same)) is (before token x)

pub first-named : (g : Config) → AreNamed g first_table
first-named g =
    let none : AreNamed g map.empty = λ token x e. absurd (let n : None ≡ Some x = sym (get-empty (slice_cmp nat_cmp) token) ∙ e in cc) in
    insert-named g map.empty (codes "all") (named.Group (record { 0 = 0 })) none refl

-- the part of this number, if there is one, gives its name to a meaning
part-named : {A : Type 0} (g : Config) (t : Table) (found : Option A) (name : A → List ℕ) (v : Named) → AreNamed g t → name_in g v ≡ option_map_or name found [] → AreNamed g (option_map_or (λ d. map.insert t (name d) v) found t)
part-named g t None name v before is = before
part-named g t (Some d) name v before is = insert-named g t (name d) v before is

pub named_too-named : (g : Config) (d : Decl) (t : Table) → AreNamed g t → AreNamed g (named_too g d t)
named_too-named g (Decl.Pool n) t a = part-named g t (slice_get g.pools n) (λ d. d.name) (named.Pool (record { 0 = n })) a refl
named_too-named g (Decl.Group n) t a = part-named g t (slice_get g.groups n) (λ d. d.name) (named.Group (record { 0 = suc n })) a refl
named_too-named g (Decl.Eo n) t a = part-named g t (slice_get g.eos n) (λ d. d.name) (named.Eo (record { 0 = n })) a refl
named_too-named g (Decl.Agroup n) t a = part-named g t (slice_get g.agroups n) (λ d. d.name) (named.Agroup n) a refl
named_too-named g (Decl.Queue n) t a = part-named g t (slice_get g.queues n) (λ d. d.name) (named.Queue (record { 0 = n })) a refl
named_too-named g (Decl.Egroup n) t a = part-named g t (slice_get g.egroups n) (λ d. d) (named.Egroup (record { 0 = n })) a refl

pub all_named-named : (g : Config) (ds : List Decl) (t : Table) → AreNamed g t → AreNamed g (all_named g ds t)
all_named-named g [] t a = a
all_named-named g (d ∷ ds) t a = all_named-named g ds (named_too g d t) (named_too-named g d t a)
