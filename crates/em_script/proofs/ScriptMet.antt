-- The lines of declarations, and the last line, break no rule that the state decides.
use Rattle.std.proofs.Common.{◌≡◌, ℕ, suc, ◌+◌, ◌≤◌, Bool, true, false, ◌&&◌, List, [], ◌∷◌, ◌++◌, length, map, take, drop, Option, Some, None, refl, sym, ap, subst, ◌∙◌, arith, eqb-true, lt-ltb, le-leb}
use Rattle.std.specs.List.{flat_map, list_all}
use Rattle.std.specs.Option.{option_map_or, option_or}
use Rattle.std.specs.Prelude.{◌==◌, nat_le, nat_lt, slice_get}
use Rattle.std.proofs.lemmas.List.{take-append-drop}
use Rattle.std.proofs.lemmas.Option.{slice_get_within}
use Rattle.em_log.specs.Declarations.{event_total, pool_shape}
use Rattle.em_log.specs.Weights.{weight_of, steps_of}
use Rattle.em_log.specs.WellFormed.{AreFew, Counts, IsWellFormed, Where, Boot, GlobalError, Receive, Start, OtherOfObject, are_bodies, counted, is_body, is_declared_next, is_error_body, is_order_from, is_statement, no_counts, uses_agroup, uses_queue}
use Rattle.em_log.specs.declared.body.Stmt.{Stmt}
use Rattle.em_log.specs.declared.graph.AgroupDecl.{AgroupDecl}
use Rattle.em_log.specs.declared.graph.Config.{Config}
use Rattle.em_log.specs.declared.graph.Decl.{Decl}
use Rattle.em_log.specs.declared.graph.Decl.TheVariants as decls
use Rattle.em_log.specs.declared.graph.EoDecl.{EoDecl}
use Rattle.em_log.specs.declared.graph.GroupDecl.{GroupDecl}
use Rattle.em_log.specs.declared.graph.PoolDecl.{PoolDecl}
use Rattle.em_log.specs.declared.graph.QueueDecl.{QueueDecl}
use Rattle.em_script.specs.declared.line.Line.TheVariants as lines
use Rattle.em_script.specs.Judging.{are_light, is_light, is_light_error, is_light_object}
use Rattle.em_script.specs.Names.{Table, first_table}
use Rattle.em_script.specs.Spelling.{arranged, bodies_of, body_lines, declared_lines}
use Rattle.em_script.specs.State.{after, first_state}
use Rattle.em_script.proofs.Ascii.{both}
use Rattle.em_script.proofs.BodiesMet.{bodies_of_met}
use Rattle.em_script.proofs.BodiesRead.{bare, between, bodies_of_read, bodies_read, boot_read, unwritten}
use Rattle.em_script.proofs.DeclarationsRead.{AreWithin, all_named, bare_so_many, declaration_read, declaring, front, more_at, named_too, order_read, so_many, some_at, within-of}
use Rattle.em_script.proofs.RulesMet.{AreMet, AreMet-append, unless-met}
use Rattle.em_script.proofs.ScriptRead.{all-blocks, bodies-of, objects-given}

and-both : (a b : Bool) → a ≡ true → b ≡ true → (a && b) ≡ true
and-both a b p q = rw (p, q) refl

-- ---- declarations

events-append : (xs ys : List PoolDecl) → event_total (map pool_shape (xs ++ ys)) ≡ event_total (map pool_shape xs) + event_total (map pool_shape ys)
events-append [] ys = omega arith
events-append (x ∷ xs) ys = omega (arith, events-append xs ys)

-- the events of the pools up to one are no more than those of all
events_up_to : (xs : List PoolDecl) (k : ℕ) (x : PoolDecl) → slice_get xs k ≡ Some x → event_total (map pool_shape (take k xs)) + x.events ≤ event_total (map pool_shape xs)
events_up_to xs k x got =
    let whole = ap (λ ys. event_total (map pool_shape ys)) (sym (take-append-drop (suc k) xs)) ∙ events-append (take (suc k) xs) (drop (suc k) xs) in
    let part = ap (λ ys. event_total (map pool_shape ys)) (more_at xs k x got) ∙ events-append (take k xs) (x ∷ []) in
    omega arith

-- the line of a declaration meets its rules
abbrev IsMet : Config → Counts → List Decl → Table → Decl → Type 0
IsMet g n ds t d = AreMet (declared_lines g d) (declaring (front g n ds) t)

pools_met : (g : Config) → AreFew g → (n : Counts) (ds : List Decl) (t : Table) (x : PoolDecl) → slice_get g.pools n.pools ≡ Some x → IsMet g n ds t (decls.Pool n.pools)
pools_met g few n ds t x got =
    let many = so_many g.pools n.pools x got in
    let within = slice_get_within g.pools n.pools x got in
    let lt : nat_lt (length (take n.pools g.pools)) 8 ≡ true = lt-ltb (length (take n.pools g.pools)) 8 (omega (arith, few.pools)) in
    let le : nat_le (event_total (map pool_shape (take n.pools g.pools)) + x.events) 4096 ≡ true = le-leb (event_total (map pool_shape (take n.pools g.pools)) + x.events) 4096 (omega (arith, few.events, events_up_to g.pools n.pools x got)) in
    rw got (unless-met (nat_lt (length (take n.pools g.pools)) 8 && nat_le (event_total (map pool_shape (take n.pools g.pools)) + x.events) 4096) 10 (and-both (nat_lt (length (take n.pools g.pools)) 8) (nat_le (event_total (map pool_shape (take n.pools g.pools)) + x.events) 4096) lt le), tt)

groups_met : (g : Config) → AreFew g → (n : Counts) (ds : List Decl) (t : Table) (x : GroupDecl) → slice_get g.groups n.groups ≡ Some x → IsMet g n ds t (decls.Group n.groups)
groups_met g few n ds t x got =
    let many = so_many g.groups n.groups x got in
    let within = slice_get_within g.groups n.groups x got in
    let lt : nat_lt (length (take n.groups g.groups)) 32 ≡ true = lt-ltb (length (take n.groups g.groups)) 32 (omega (arith, few.groups)) in
    rw got (unless-met (nat_lt (length (take n.groups g.groups)) 32) 10 lt, tt)

eos_met : (g : Config) → AreFew g → (n : Counts) (ds : List Decl) (t : Table) (x : EoDecl) → slice_get g.eos n.eos ≡ Some x → IsMet g n ds t (decls.Eo n.eos)
eos_met g few n ds t x got =
    let many = bare_so_many g.eos n.eos x got in
    let within = slice_get_within g.eos n.eos x got in
    let lt : nat_lt (length (map bare (take n.eos g.eos))) 64 ≡ true = lt-ltb (length (map bare (take n.eos g.eos))) 64 (omega (arith, few.eos)) in
    rw got (unless-met (nat_lt (length (map bare (take n.eos g.eos))) 64) 10 lt, tt)

agroups_met : (g : Config) → AreFew g → (n : Counts) (ds : List Decl) (t : Table) (x : AgroupDecl) → slice_get g.agroups n.agroups ≡ Some x → IsMet g n ds t (decls.Agroup n.agroups)
agroups_met g few n ds t x got =
    let many = so_many g.agroups n.agroups x got in
    let within = slice_get_within g.agroups n.agroups x got in
    let lt : nat_lt (length (take n.agroups g.agroups)) 32 ≡ true = lt-ltb (length (take n.agroups g.agroups)) 32 (omega (arith, few.agroups)) in
    rw got (unless-met (nat_lt (length (take n.agroups g.agroups)) 32) 10 lt, tt)

queues_met : (g : Config) → AreFew g → (n : Counts) (ds : List Decl) (t : Table) (x : QueueDecl) → slice_get g.queues n.queues ≡ Some x → IsMet g n ds t (decls.Queue n.queues)
queues_met g few n ds t x got =
    let many = so_many g.queues n.queues x got in
    let within = slice_get_within g.queues n.queues x got in
    let lt : nat_lt (length (take n.queues g.queues)) 256 ≡ true = lt-ltb (length (take n.queues g.queues)) 256 (omega (arith, few.queues)) in
    rw got (unless-met (nat_lt (length (take n.queues g.queues)) 256) 10 lt, tt)

egroups_met : (g : Config) → AreFew g → (n : Counts) (ds : List Decl) (t : Table) (x : List ℕ) → slice_get g.egroups n.egroups ≡ Some x → IsMet g n ds t (decls.Egroup n.egroups)
egroups_met g few n ds t x got =
    let many = so_many g.egroups n.egroups x got in
    let within = slice_get_within g.egroups n.egroups x got in
    let lt : nat_lt (length (take n.egroups g.egroups)) 64 ≡ true = lt-ltb (length (take n.egroups g.egroups)) 64 (omega (arith, few.egroups)) in
    rw got (unless-met (nat_lt (length (take n.egroups g.egroups)) 64) 10 lt, tt)

declaration_met : (g : Config) → AreFew g → (n : Counts) (ds : List Decl) (t : Table) (d : Decl) → is_declared_next g d n ≡ true → AreWithin g (counted d n) → IsMet g n ds t d
declaration_met g few n ds t (Decl.Pool k) e w =
    let same : k ≡ n.pools = eqb-true k n.pools e in
    let some = some_at g.pools n.pools (omega (arith, w.pools)) in
    rw same (pools_met g few n ds t some.0 some.1)
declaration_met g few n ds t (Decl.Group k) e w =
    let same : k ≡ n.groups = eqb-true k n.groups e in
    let some = some_at g.groups n.groups (omega (arith, w.groups)) in
    rw same (groups_met g few n ds t some.0 some.1)
declaration_met g few n ds t (Decl.Eo k) e w =
    let same : k ≡ n.eos = eqb-true k n.eos e in
    let some = some_at g.eos n.eos (omega (arith, w.eos)) in
    rw same (eos_met g few n ds t some.0 some.1)
declaration_met g few n ds t (Decl.Agroup k) e w =
    let same : k ≡ n.agroups = eqb-true k n.agroups (both (k == n.agroups) (uses_agroup g k n) e).0 in
    let some = some_at g.agroups n.agroups (omega (arith, w.agroups)) in
    rw same (agroups_met g few n ds t some.0 some.1)
declaration_met g few n ds t (Decl.Queue k) e w =
    let same : k ≡ n.queues = eqb-true k n.queues (both (k == n.queues) (uses_queue g k n) e).0 in
    let some = some_at g.queues n.queues (omega (arith, w.queues)) in
    rw same (queues_met g few n ds t some.0 some.1)
declaration_met g few n ds t (Decl.Egroup k) e w =
    let same : k ≡ n.egroups = eqb-true k n.egroups e in
    let some = some_at g.egroups n.egroups (omega (arith, w.egroups)) in
    rw same (egroups_met g few n ds t some.0 some.1)

pub order_met : (g : Config) → AreFew g → (ds so_far : List Decl) (n : Counts) (t : Table) → is_order_from g ds n ≡ true → AreMet (flat_map (declared_lines g) ds) (declaring (front g n so_far) t)
order_met g few [] so_far n t e = tt
order_met g few (d ∷ ds) so_far n t e =
    let c = both (is_declared_next g d n) (is_order_from g ds (counted d n)) e in
    let w = within-of g ds (counted d n) c.1 in
    let more = flat_map (declared_lines g) ds in
    AreMet-append (declared_lines g d) more (declaring (front g n so_far) t) (declaration_met g few n so_far t d c.0 w)
    (subst (AreMet more) (sym (declaration_read g n so_far t d c.0 w)) (order_met g few ds (so_far ++ d ∷ []) (counted d n) (named_too g d t) c.1))

-- ---- the last line

light-of : (g : Config) (w : Where) (error : Option (List Stmt)) (b : List Stmt) → is_body g w error b ≡ true → is_light error b ≡ true
light-of g w error b e =
    let weight = nat_le (weight_of (option_map_or (weight_of 0) error 0) b) 256 in
    let steps = nat_le (steps_of (option_map_or (steps_of 0) error 0) b) 65536 in
    let last = both (list_all (is_statement g w 16) b && nat_le (weight_of (option_map_or (weight_of 0) error 0) b) 256) (nat_le (steps_of (option_map_or (steps_of 0) error 0) b) 65536) e in
    and-both weight steps (both (list_all (is_statement g w 16) b) (nat_le (weight_of (option_map_or (weight_of 0) error 0) b) 256) last.0).1 last.1

light_error-of : (g : Config) (w : Where) (b : Option (List Stmt)) → is_error_body g w b ≡ true → is_light_error b ≡ true
light_error-of g w None e = refl
light_error-of g w (Some b) e = light-of g w None b e

light_object-of : (g : Config) (d : EoDecl) → are_bodies g d ≡ true → is_light_object g.error d ≡ true
light_object-of g d e =
    let a = bodies-of g d e in
    let error = option_or d.error g.error in
    rw (light-of g Receive error d.receive a.receive, light-of g Start error d.start a.start, light-of g OtherOfObject error d.stop a.stop, light-of g OtherOfObject error d.lstart a.lstart, light-of g OtherOfObject error d.lstop a.lstop, light_error-of g OtherOfObject d.error a.error) refl

light_objects-of : (g : Config) (ds : List EoDecl) → list_all (are_bodies g) ds ≡ true → list_all (is_light_object g.error) ds ≡ true
light_objects-of g [] e = refl
light_objects-of g (d ∷ ds) e =
    let each = both (are_bodies g d) (list_all (are_bodies g) ds) e in
    λ i. light_object-of g d each.0 i && light_objects-of g ds each.1 i

pub lights-of : (g : Config) → IsWellFormed g → are_light g ≡ true
lights-of g well = λ i. light-of g Boot g.error g.boot well.boot i && light_error-of g GlobalError g.error well.error i && light_objects-of g g.eos well.eos i

-- ---- the whole

pub arranged_met : (g : Config) → IsWellFormed g → AreMet (arranged g (bodies_of g)) first_state
arranged_met g well =
    let declared = flat_map (declared_lines g) g.order in
    let bodies = flat_map body_lines (bodies_of g) in
    let done = lines.Done ∷ [] in
    let table = all_named g g.order first_table in
    let given = objects-given g g.eos well.eos in
    let blocks = all-blocks g well in
    let whole = bodies_read g (unwritten g) (all_named g g.order first_table) false (bodies_of g) (all-blocks g well) ∙ λ i. between (bodies_of_read g (objects-given g g.eos well.eos) i) (all_named g g.order first_table) (boot_read g i) in
    let last : AreMet done (between g table true) = (unless-met (are_light g) 9 (lights-of g well), tt) in (
      refl,
      AreMet-append declared (bodies ++ done) (after (lines.Cores g.cores) first_state) (order_met g well.few g.order [] no_counts first_table well.order)
          (subst (AreMet (bodies ++ done)) (sym (order_read g g.order [] no_counts first_table well.order))
          (AreMet-append bodies done (declaring (unwritten g) table) (bodies_of_met g table blocks given) (subst (AreMet done) (sym whole) last))),
    )
