-- Declarations are numbered as they come, and what they use has come before.
use Rattle.std.proofs.Common.{◌≡◌, ℕ, suc, Bool, true, false, ◌&&◌, leb, eqb, List, [], ◌∷◌, ◌++◌, length, Some, refl, sym, ap, subst, ◌∙◌, arith, length-append, lt-ltb, eq-eqb}
use Rattle.std.specs.Prelude.{slice_get}
use Rattle.std.specs.Option.{option_map_or}
use Rattle.em_log.specs.WellFormed.{Counts, counted, no_counts, is_declared_next, is_order_from, is_all, uses_agroup, uses_queue, uses_of_queue}
use Rattle.em_log.specs.declared.body.Stmt.{Stmt}
use Rattle.em_log.specs.declared.graph.Config.{Config}
use Rattle.em_log.specs.declared.graph.Decl.{Decl}
use Rattle.em_log.specs.declared.graph.Decl.TheVariants as decls
use Rattle.em_log.specs.declared.graph.Priority.{Priority}
use Rattle.em_log.specs.declared.graph.QueueDecl.{QueueDecl}
use Rattle.em_log.specs.declared.ids.EoId.{EoId}
use Rattle.em_log.specs.declared.ids.Kind.{Kind}
use Rattle.em_log.specs.declared.ids.Kind.TheVariants as kinds
use Rattle.em_script.specs.declared.draft.Frame.{Frame}
use Rattle.em_script.specs.declared.line.Line.{Line}
use Rattle.em_script.specs.declared.line.Line.TheVariants as lines
use Rattle.em_script.specs.declared.line.Membership.{Membership}
use Rattle.em_script.specs.declared.line.Membership.TheVariants as memberships
use Rattle.em_script.specs.declared.line.Place.{Place}
use Rattle.em_script.specs.declared.line.Place.TheVariants as places
use Rattle.em_script.specs.declared.named.Named.TheVariants as named
use Rattle.em_script.specs.declared.phase.Phase.{Phase}
use Rattle.em_script.specs.declared.phase.Phase.TheVariants as phases
use Rattle.em_script.specs.Declarations.{atomic_queue}
use Rattle.em_script.specs.Names.{Naming}
use Rattle.em_script.specs.State.{State, first_state, after, ended, turned, body_ended, with_body, new_eo}
use Rattle.em_script.proofs.Agreeing.{Grown, Parts, parts-same, parts-after, get-last, with_body_at-length, extends-same}
use Rattle.em_script.proofs.Forms.{and-both, and-true}
use Rattle.em_script.proofs.DeclarationForms.{KindFits}
use Rattle.em_script.proofs.Fitting.{KnowsOnly}
use Rattle.em_script.proofs.NameForms.{IsKnown}
use Rattle.em_script.proofs.SlotForms.{MembershipFits}
use Rattle.em_script.proofs.Told.{Told, knows-only, names_at}

-- ---- orders that grow

abbrev pub sizes : Config → Counts
sizes g = record { pools = length g.pools; groups = length g.groups; eos = length g.eos; agroups = length g.agroups; queues = length g.queues; egroups = length g.egroups }

abbrev pub counted_all : List Decl → Counts → Counts
counted_all [] n = n
counted_all (d ∷ ds) n = counted_all ds (counted d n)

-- each declaration may come where it stands
abbrev pub may_come : Config → List Decl → Counts → Bool
may_come g [] n = true
may_come g (d ∷ ds) n = is_declared_next g d n && may_come g ds (counted d n)

pub order-come : (g : Config) (ds : List Decl) (n : Counts) → may_come g ds n ≡ true → is_all g (counted_all ds n) ≡ true → is_order_from g ds n ≡ true
order-come g [] n e all = all
order-come g (d ∷ ds) n e all =
    let p = and-true (is_declared_next g d n) (may_come g ds (counted d n)) e in
    and-both (is_declared_next g d n) (is_order_from g ds (counted d n)) p.0 (order-come g ds (counted d n) p.1 all)

come-more : (g : Config) (ds : List Decl) (d : Decl) (n : Counts) → may_come g ds n ≡ true → is_declared_next g d (counted_all ds n) ≡ true → may_come g (ds ++ d ∷ []) n ≡ true
come-more g [] d n e one = and-both (is_declared_next g d n) true one refl
come-more g (x ∷ ds) d n e one =
    let p = and-true (is_declared_next g x n) (may_come g ds (counted x n)) e in
    and-both (is_declared_next g x n) (may_come g (ds ++ d ∷ []) (counted x n)) p.0 (come-more g ds d (counted x n) p.1 one)

counted-more : (ds : List Decl) (d : Decl) (n : Counts) → counted_all (ds ++ d ∷ []) n ≡ counted d (counted_all ds n)
counted-more [] d n = refl
counted-more (x ∷ ds) d n = counted-more ds d (counted x n)

pub sizes-all : (g : Config) → is_all g (sizes g) ≡ true
sizes-all g = rw (eq-eqb (length g.pools) (length g.pools) refl, eq-eqb (length g.groups) (length g.groups) refl, eq-eqb (length g.eos) (length g.eos) refl, eq-eqb (length g.agroups) (length g.agroups) refl, eq-eqb (length g.queues) (length g.queues) refl, eq-eqb (length g.egroups) (length g.egroups) refl) refl

-- ---- graphs that grow

grown-then : {A : Type 0} (xs ys zs : List A) → Grown xs ys → Grown ys zs → Grown xs zs
grown-then xs ys zs a b = let p = a.longer in let q = b.longer in record { first = λ n lt. b.first n (omega arith) ∙ a.first n lt; longer = omega arith }

pub parts-then : (f g h : Config) → Parts f g → Parts g h → Parts f h
parts-then f g h a b =
    let p = a.more_eos in
    let q = b.more_eos in
    record {
      pools = grown-then f.pools g.pools h.pools a.pools b.pools;
      groups = grown-then f.groups g.groups h.groups a.groups b.groups;
      eos = λ n lt. b.eos n (omega arith) ∙ a.eos n lt;
      eo_lines = λ n lt. b.eo_lines n (omega arith) ∙ a.eo_lines n lt;
      more_eos = omega arith;
      agroups = grown-then f.agroups g.agroups h.agroups a.agroups b.agroups;
      queues = grown-then f.queues g.queues h.queues a.queues b.queues;
      egroups = grown-then f.egroups g.egroups h.egroups a.egroups b.egroups;
    }

pub record InOrder (s : State) : Type 0 where
  pub counts : counted_all s.graph.order no_counts ≡ sizes s.graph
  pub come : (h : Config) → Parts s.graph h → may_come h s.graph.order no_counts ≡ true

pub order-first : InOrder first_state
order-first = record { counts = refl; come = λ h p. refl }

one-more : {A : Type 0} (xs : List A) (y : A) → suc (length xs) ≡ length (xs ++ y ∷ [])
one-more xs y = let e = length-append xs (y ∷ []) in omega arith

-- a declaration that may come now
declared : (s t : State) (d : Decl) → Parts s.graph t.graph → t.graph.order ≡ s.graph.order ++ d ∷ [] → counted d (sizes s.graph) ≡ sizes t.graph → ((h : Config) → Parts t.graph h → is_declared_next h d (sizes s.graph) ≡ true) → InOrder s → InOrder t
declared s t d grows order counts next o = record {
  counts = ap (λ ds. counted_all ds no_counts) order ∙ counted-more s.graph.order d no_counts ∙ ap (counted d) o.counts ∙ counts;
  come = λ h p.
      ap (λ ds. may_come h ds no_counts) order
      ∙ come-more h s.graph.order d no_counts (o.come h (parts-then s.graph t.graph h grows p)) (ap (is_declared_next h d) o.counts ∙ next h p);
}

-- a line that declares nothing
kept : (s t : State) → Parts s.graph t.graph → t.graph.order ≡ s.graph.order → sizes s.graph ≡ sizes t.graph → InOrder s → InOrder t
kept s t grows order counts o = record {
  counts = ap (λ ds. counted_all ds no_counts) order ∙ o.counts ∙ counts;
  come = λ h p. ap (λ ds. may_come h ds no_counts) order ∙ o.come h (parts-then s.graph t.graph h grows p);
}

with_body-sizes : (p : Place) (b : List Stmt) (g : Config) → sizes g ≡ sizes (with_body p b g)
with_body-sizes places.Boot b g = refl
with_body-sizes places.Error b g = refl
with_body-sizes (places.Object eo p) b g = ap (λ k. record { pools = length g.pools; groups = length g.groups; eos = k; agroups = length g.agroups; queues = length g.queues; egroups = length g.egroups }) (sym (with_body_at-length eo.0 p b g.eos))

with_body-order : (p : Place) (b : List Stmt) (g : Config) → (with_body p b g).order ≡ g.order
with_body-order places.Boot b g = refl
with_body-order places.Error b g = refl
with_body-order (places.Object eo p) b g = refl

body_ended-sizes : (p : Phase) (s : State) → (sizes s.graph ≡ sizes (body_ended p s).graph) × ((body_ended p s).graph.order ≡ s.graph.order)
body_ended-sizes phases.First s = (refl, refl)
body_ended-sizes phases.Declarations s = (refl, refl)
body_ended-sizes phases.Bodies s = (refl, refl)
body_ended-sizes (phases.Body p) s = (with_body-sizes p s.block s.graph, with_body-order p s.block s.graph)
body_ended-sizes phases.Done s = (refl, refl)

ended-sizes : (nest : List Frame) (s : State) → (sizes s.graph ≡ sizes (ended nest s).graph) × ((ended nest s).graph.order ≡ s.graph.order)
ended-sizes [] s = body_ended-sizes s.phase s
ended-sizes (f ∷ fs) s = (refl, refl)

turned-sizes : (nest : List Frame) (s : State) → (sizes s.graph ≡ sizes (turned nest s).graph) × ((turned nest s).graph.order ≡ s.graph.order)
turned-sizes [] s = (refl, refl)
turned-sizes (f ∷ fs) s = (refl, refl)

-- ---- what queues and atomic groups use

module _ (names : Naming) (g : Config) (k : KnowsOnly names g) where
  atomic-uses : (name : List ℕ) (eo : EoId) (p : Priority) (m : Membership) → IsKnown names (named.Eo eo) → MembershipFits names m → uses_of_queue (sizes g) (atomic_queue name eo p m) ≡ true
  atomic-uses name eo p (memberships.Group x) e f = rw (lt-ltb eo.0 (length g.eos) (k.eos eo e), k.groups x f) refl
  atomic-uses name eo p (memberships.Agroup a) e f = rw (lt-ltb eo.0 (length g.eos) (k.eos eo e), lt-ltb a (length g.agroups) (k.agroups a f)) refl

  queue-uses : (d : QueueDecl) (kind : Kind) → KindFits names d kind → uses_of_queue (sizes g) d ≡ true
  queue-uses d kinds.Atomic a = subst (λ e. uses_of_queue (sizes g) e ≡ true) a.is (atomic-uses d.name a.eo a.priority a.member a.known a.fits)
  queue-uses d kinds.Parallel a = subst (λ e. uses_of_queue (sizes g) e ≡ true) a.is (rw (lt-ltb a.eo.0 (length g.eos) (k.eos a.eo a.known), k.groups a.group a.fits) refl)
  queue-uses d kinds.Ordered a = subst (λ e. uses_of_queue (sizes g) e ≡ true) a.is (rw (lt-ltb a.eo.0 (length g.eos) (k.eos a.eo a.known), k.groups a.group a.fits) refl)
  queue-uses d kinds.Local a = subst (λ e. uses_of_queue (sizes g) e ≡ true) a.is (rw (lt-ltb a.eo.0 (length g.eos) (k.eos a.eo a.known)) refl)
  queue-uses d kinds.Unscheduled a = subst (λ e. uses_of_queue (sizes g) e ≡ true) a refl
  queue-uses d kinds.Output a = subst (λ e. uses_of_queue (sizes g) e ≡ true) a refl

same-number : (n : ℕ) → eqb n n ≡ true
same-number n = eq-eqb n n refl

pub order-after : (l : Line) (s : State) → Told s l → InOrder s → InOrder (after l s)
order-after (lines.Cores n) s told o = kept s (after (lines.Cores n) s) (parts-after (lines.Cores n) s) refl refl o
order-after (lines.Pool d) s told o =
    declared s (after (lines.Pool d) s) (decls.Pool (length s.graph.pools)) (parts-after (lines.Pool d) s) refl (ap (λ k. record { pools = k; groups = length s.graph.groups; eos = length s.graph.eos; agroups = length s.graph.agroups; queues = length s.graph.queues; egroups = length s.graph.egroups }) (one-more s.graph.pools (d))) (λ h p. same-number (length s.graph.pools)) o
order-after (lines.Group name mask) s told o =
    declared s (after (lines.Group name mask) s) (decls.Group (length s.graph.groups)) (parts-after (lines.Group name mask) s) refl (ap (λ k. record { pools = length s.graph.pools; groups = k; eos = length s.graph.eos; agroups = length s.graph.agroups; queues = length s.graph.queues; egroups = length s.graph.egroups }) (one-more s.graph.groups (record { name = name; mask = record { 0 = mask } }))) (λ h p. same-number (length s.graph.groups)) o
order-after (lines.Eo name running) s told o =
    declared s (after (lines.Eo name running) s) (decls.Eo (length s.graph.eos)) (parts-after (lines.Eo name running) s) refl (ap (λ k. record { pools = length s.graph.pools; groups = length s.graph.groups; eos = k; agroups = length s.graph.agroups; queues = length s.graph.queues; egroups = length s.graph.egroups }) (one-more s.graph.eos (new_eo name running))) (λ h p. same-number (length s.graph.eos)) o
order-after (lines.Agroup d) s told o =
    declared s (after (lines.Agroup d) s) (decls.Agroup (length s.graph.agroups)) (parts-after (lines.Agroup d) s) refl (ap (λ k. record { pools = length s.graph.pools; groups = length s.graph.groups; eos = length s.graph.eos; agroups = k; queues = length s.graph.queues; egroups = length s.graph.egroups }) (one-more s.graph.agroups (d))) (λ h p.
    let k = knows-only s (after (lines.Agroup d) s).graph s.graph told.agree (extends-same s.graph) in
    let found : slice_get h.agroups (length s.graph.agroups) ≡ Some d = p.agroups.first (length s.graph.agroups) (omega (arith, length-append s.graph.agroups (d ∷ []))) ∙ get-last s.graph.agroups d in
    let uses : uses_agroup h (length s.graph.agroups) (sizes s.graph) ≡ true = ap (λ o. option_map_or (λ d. leb d.group.0 (length s.graph.groups)) o false) found ∙ k.groups d.group (told.named refl).1.0 in
    and-both (eqb (length s.graph.agroups) (length s.graph.agroups)) (uses_agroup h (length s.graph.agroups) (sizes s.graph)) (same-number (length s.graph.agroups)) uses) o
order-after (lines.Queue d) s told o =
    declared s (after (lines.Queue d) s) (decls.Queue (length s.graph.queues)) (parts-after (lines.Queue d) s) refl (ap (λ k. record { pools = length s.graph.pools; groups = length s.graph.groups; eos = length s.graph.eos; agroups = length s.graph.agroups; queues = k; egroups = length s.graph.egroups }) (one-more s.graph.queues (d))) (λ h p.
    let k = knows-only s (after (lines.Queue d) s).graph s.graph told.agree (extends-same s.graph) in
    let found : slice_get h.queues (length s.graph.queues) ≡ Some d = p.queues.first (length s.graph.queues) (omega (arith, length-append s.graph.queues (d ∷ []))) ∙ get-last s.graph.queues d in
    let uses : uses_queue h (length s.graph.queues) (sizes s.graph) ≡ true = ap (λ o. option_map_or (uses_of_queue (sizes s.graph)) o false) found ∙ queue-uses (names_at s (lines.Queue d)) s.graph k d d.kind (told.named refl).1 in
    and-both (eqb (length s.graph.queues) (length s.graph.queues)) (uses_queue h (length s.graph.queues) (sizes s.graph)) (same-number (length s.graph.queues)) uses) o
order-after (lines.Egroup name) s told o =
    declared s (after (lines.Egroup name) s) (decls.Egroup (length s.graph.egroups)) (parts-after (lines.Egroup name) s) refl (ap (λ k. record { pools = length s.graph.pools; groups = length s.graph.groups; eos = length s.graph.eos; agroups = length s.graph.agroups; queues = length s.graph.queues; egroups = k }) (one-more s.graph.egroups (name))) (λ h p. same-number (length s.graph.egroups)) o
order-after (lines.Body p) s told o = kept s (after (lines.Body p) s) (parts-after (lines.Body p) s) refl refl o
order-after lines.Done s told o = kept s (after lines.Done s) (parts-after lines.Done s) refl refl o
order-after (lines.Statement x) s told o = kept s (after (lines.Statement x) s) (parts-after (lines.Statement x) s) refl refl o
order-after (lines.If x) s told o = kept s (after (lines.If x) s) (parts-after (lines.If x) s) refl refl o
order-after (lines.Repeat n) s told o = kept s (after (lines.Repeat n) s) (parts-after (lines.Repeat n) s) refl refl o
order-after lines.Else s told o = let e = turned-sizes s.nest s in kept s (after lines.Else s) (parts-after lines.Else s) e.1 e.0 o
order-after lines.End s told o = let e = ended-sizes s.nest s in kept s (after lines.End s) (parts-after lines.End s) e.1 e.0 o

pub order-is : (s : State) → InOrder s → is_order_from s.graph s.graph.order no_counts ≡ true
order-is s o = order-come s.graph s.graph.order no_counts (o.come s.graph (parts-same s.graph)) (ap (is_all s.graph) o.counts ∙ sizes-all s.graph)
