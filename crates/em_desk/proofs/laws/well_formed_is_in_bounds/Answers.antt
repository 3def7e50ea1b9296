use Rattle.std.proofs.Common.{◌≡◌, ℕ, Bool, true, false, not, ◌&&◌, ◌||◌, nat_lt, List, [], ◌∷◌, map, length, Option, Some, None, is_some, is_none, refl}
use Rattle.std.specs.List.{list_all}
use Rattle.std.specs.Option.{option_map_or}
use Rattle.std.proofs.lemmas.List.{length-map}
use Rattle.em_log.specs.declared.declarations.QueueShape.{QueueShape}
use Rattle.em_log.specs.declared.graph.Config.{Config}
use Rattle.em_log.specs.declared.graph.QueueDecl.{QueueDecl}
use Rattle.em_log.specs.declared.ids.EoId.{EoId}
use Rattle.em_log.specs.declared.ids.Kind.{Kind}
use Rattle.em_log.specs.Declarations.{queue_shape, eo_shape, agroup_shape, is_served}
use Rattle.em_log.specs.WellFormed.{is_queue_decl, is_queue_of, has_eo, has_group}
use Rattle.em_desk.specs.Graphs.{is_owned, is_grouped}
use Rattle.em_desk.proofs.laws.well_formed_is_in_bounds.Goals as goal

first-and : (a b : Bool) → (a && b) ≡ true → a ≡ true
first-and true b h = refl
first-and false b h = h

-- with an object that is declared
with-object : (g : Config) (o : Option EoId) (b : Bool) → option_map_or (λ x. nat_lt x.0 (length g.eos)) o false ≡ true
    → option_map_or (λ x. nat_lt x.0 (length g.eos)) o b ≡ true
with-object g None b h = absurd cc
with-object g (Some x) b h = h

-- with none
without-object : (g : Config) (o : Option EoId) → is_none o ≡ true → option_map_or (λ x. nat_lt x.0 (length g.eos)) o true ≡ true
without-object g None h = refl
without-object g (Some x) h = absurd cc

owned-by : (g : Config) (d : QueueDecl) (kind : Kind) → is_queue_of g d kind ≡ true → option_map_or (λ x. nat_lt x.0 (length g.eos)) d.eo (not (is_served kind)) ≡ true
owned-by g d Kind.Atomic h = with-object g d.eo false (first-and (has_eo g d) (is_some d.priority) (first-and (has_eo g d && is_some d.priority) _ h))
owned-by g d Kind.Parallel h =
    with-object g d.eo false (first-and (has_eo g d) (is_some d.priority) (first-and (has_eo g d && is_some d.priority) (has_group g d) (first-and (has_eo g d && is_some d.priority && has_group g d) _ h)))
owned-by g d Kind.Ordered h =
    with-object g d.eo false (first-and (has_eo g d) (is_some d.priority) (first-and (has_eo g d && is_some d.priority) (has_group g d) (first-and (has_eo g d && is_some d.priority && has_group g d) _ h)))
owned-by g d Kind.Local h =
    with-object g d.eo false (first-and (has_eo g d) (is_some d.priority) (first-and (has_eo g d && is_some d.priority) (is_none d.group) (first-and (has_eo g d && is_some d.priority && is_none d.group) _ h)))
owned-by g d Kind.Unscheduled h =
    without-object g d.eo (first-and (is_none d.eo) (is_none d.priority) (first-and (is_none d.eo && is_none d.priority) (is_none d.group) (first-and (is_none d.eo && is_none d.priority && is_none d.group) _ h)))
owned-by g d Kind.Output h =
    without-object g d.eo (first-and (is_none d.eo) (is_none d.priority) (first-and (is_none d.eo && is_none d.priority) (is_none d.group) (first-and (is_none d.eo && is_none d.priority && is_none d.group) _ h)))

-- the atomic group of a queue is declared

last-and : (a b : Bool) → (a && b) ≡ true → b ≡ true
last-and true b h = h
last-and false b h = absurd cc

second-of : (a b c d : Bool) → b ≡ false → ((a && b) || (c && d)) ≡ true → c ≡ true
second-of a b true d off h = refl
second-of true true false d off h = absurd cc
second-of true false false d off h = absurd cc
second-of false b false d off h = absurd cc

no-group : (g : Config) (o : Option ℕ) → is_none o ≡ true → option_map_or (λ a. nat_lt a (length g.agroups)) o true ≡ true
no-group g None h = refl
no-group g (Some a) h = absurd cc

some-group : (g : Config) (o : Option ℕ) (a b : Bool) → ((a && is_none o) || (option_map_or (λ a. nat_lt a (length g.agroups)) o false && b)) ≡ true
    → option_map_or (λ a. nat_lt a (length g.agroups)) o true ≡ true
some-group g None a b h = refl
some-group g (Some x) a b h = second-of a false (nat_lt x (length g.agroups)) b refl h

grouped-by : (g : Config) (d : QueueDecl) (kind : Kind) → is_queue_of g d kind ≡ true → option_map_or (λ a. nat_lt a (length g.agroups)) d.agroup true ≡ true
grouped-by g d Kind.Atomic h = some-group g d.agroup (has_group g d) (is_none d.group) (last-and (has_eo g d && is_some d.priority) _ h)
grouped-by g d Kind.Parallel h = no-group g d.agroup (last-and (has_eo g d && is_some d.priority && has_group g d) (is_none d.agroup) h)
grouped-by g d Kind.Ordered h = no-group g d.agroup (last-and (has_eo g d && is_some d.priority && has_group g d) (is_none d.agroup) h)
grouped-by g d Kind.Local h = no-group g d.agroup (last-and (has_eo g d && is_some d.priority && is_none d.group) (is_none d.agroup) h)
grouped-by g d Kind.Unscheduled h = no-group g d.agroup (last-and (is_none d.eo && is_none d.priority && is_none d.group) (is_none d.agroup) h)
grouped-by g d Kind.Output h = no-group g d.agroup (last-and (is_none d.eo && is_none d.priority && is_none d.group) (is_none d.agroup) h)

-- what holds of each declared queue holds of each shape
all-shapes : (g : Config) (f : QueueShape → Bool) (ds : List QueueDecl) → ((d : QueueDecl) → is_queue_decl g d ≡ true → f (queue_shape d) ≡ true)
    → list_all (is_queue_decl g) ds ≡ true → list_all f (map queue_shape ds) ≡ true
all-shapes g f [] each h = refl
all-shapes g f (d ∷ ds) each h = by_head (is_queue_decl g d) refl h (all-shapes g f ds each)
  where
    by_head : (b : Bool) → is_queue_decl g d ≡ b → (b && list_all (is_queue_decl g) ds) ≡ true → (list_all (is_queue_decl g) ds ≡ true → list_all f (map queue_shape ds) ≡ true)
        → list_all f (map queue_shape (d ∷ ds)) ≡ true
    by_head false t h later = absurd cc
    by_head true t h later = let here = each d t in let rest = later h in rw (here, rest) refl

pub returns : goal.returns
returns c = λ g w.
    let few = w.few in
    let eos = length-map g.eos eo_shape in
    let queues = length-map g.queues queue_shape in
    let agroups = length-map g.agroups agroup_shape in
    let named = few.agroups in
    let objects = few.eos in
    let lists = few.queues in
    record {
      some_cores = few.cores.0;
      most_cores = few.cores.1;
      events = few.events;
      objects = rw eos objects;
      queues = rw queues lists;
      owned = rw eos (all-shapes g (is_owned (length g.eos)) g.queues (λ d h. owned-by g d d.kind h) w.queues);
      groups = rw agroups named;
      grouped = rw agroups (all-shapes g (is_grouped (length g.agroups)) g.queues (λ d h. grouped-by g d d.kind h) w.queues);
    }
