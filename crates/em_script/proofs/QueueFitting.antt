-- A queue of a graph that is well formed has a spelling, and what has one is well formed.
use Rattle.std.proofs.Common.{◌≡◌, ℕ, Bool, true, false, ◌&&◌, ltb, Option, Some, None, is_some, List, length, refl, sym, subst, inl, inr, ◌⊎◌, ⊎_elim, lt-ltb}
use Rattle.std.specs.Prelude.{is_none, ◌||◌}
use Rattle.std.specs.Option.{option_map_or}
use Rattle.em_log.specs.declared.graph.Config.{Config}
use Rattle.em_log.specs.declared.graph.QueueDecl.{QueueDecl}
use Rattle.em_log.specs.declared.graph.Priority.{Priority}
use Rattle.em_log.specs.declared.ids.Kind.{Kind}
use Rattle.em_log.specs.declared.ids.Kind.TheVariants as kinds
use Rattle.em_log.specs.declared.ids.GroupId.{GroupId}
use Rattle.em_log.specs.declared.ids.EoId.{EoId}
use Rattle.em_log.specs.WellFormed.{is_group_number, has_eo, has_group, has_agroup, is_queue_of, is_queue_decl}
use Rattle.em_script.specs.declared.line.Membership.TheVariants as memberships
use Rattle.em_script.specs.declared.line.Membership.{Membership}
use Rattle.em_script.specs.declared.named.Named.TheVariants as named
use Rattle.em_script.specs.Names.{Naming}
use Rattle.em_script.specs.Declarations.{atomic_queue, free_queue}
use Rattle.em_script.proofs.Forms.{and-true}
use Rattle.em_script.proofs.NameForms.{IsKnown}
use Rattle.em_script.proofs.SlotForms.{MembershipFits}
use Rattle.em_script.proofs.DeclarationForms.{AtomicFits, GroupedFits, LocalFits, KindFits}
use Rattle.em_script.proofs.Fitting.{KnowsOnly}

map_or-some : {A : Type 0} (p : A → Bool) (o : Option A) → option_map_or p o false ≡ true → (x : A) × (o ≡ Some x) × (p x ≡ true)
map_or-some p None e = absurd cc
map_or-some p (Some x) e = (x, refl, e)

some-is_some : {A : Type 0} (o : Option A) → is_some o ≡ true → (x : A) × (o ≡ Some x)
some-is_some None e = absurd cc
some-is_some (Some x) e = (x, refl)

none-is_none : {A : Type 0} (o : Option A) → is_none o ≡ true → o ≡ None
none-is_none None e = refl
none-is_none (Some x) e = absurd cc

or-true : (a b : Bool) → (a || b) ≡ true → (a ≡ true) ⊎ (b ≡ true)
or-true true b e = inl refl
or-true false b e = inr e

-- what a queue uses is known
pub record KnowsUses (names : Naming) (d : QueueDecl) : Type 0 where
  pub eo : (x : EoId) → d.eo ≡ Some x → IsKnown names (named.Eo x)
  pub group : (x : GroupId) → d.group ≡ Some x → IsKnown names (named.Group x)
  pub agroup : (n : ℕ) → d.agroup ≡ Some n → IsKnown names (named.Agroup n)

module _ (names : Naming) (g : Config) (d : QueueDecl) (k : KnowsUses names d) where
  atomic-fits : d.kind ≡ kinds.Atomic → is_queue_of g d kinds.Atomic ≡ true → AtomicFits names d
  atomic-fits kind h =
      let a = and-true (has_eo g d && is_some d.priority) ((has_group g d && is_none d.agroup) || (has_agroup g d && is_none d.group)) h in
      let b = and-true (has_eo g d) (is_some d.priority) a.0 in
      let eo = map_or-some (λ x. ltb x.0 (length g.eos)) d.eo b.0 in
      let priority = some-is_some d.priority b.1 in
      let kind-is = sym kind in
      let eo-is = sym eo.1 in
      let priority-is = sym priority.1 in
      ⊎_elim
      (λ c.
      let q = and-true (has_group g d) (is_none d.agroup) c in
      let group = map_or-some (is_group_number g) d.group q.0 in
      let group-is = sym group.1 in
      let agroup-is = sym (none-is_none d.agroup q.1) in
      record {
        eo = eo.0;
        priority = priority.0;
        member = memberships.Group group.0;
        is = λ i. record { name = d.name; kind = kind-is i; eo = eo-is i; priority = priority-is i; group = group-is i; agroup = agroup-is i };
        known = k.eo eo.0 eo.1;
        fits = k.group group.0 group.1;
      })
      (λ c.
      let q = and-true (has_agroup g d) (is_none d.group) c in
      let agroup = map_or-some (λ a. ltb a (length g.agroups)) d.agroup q.0 in
      let agroup-is = sym agroup.1 in
      let group-is = sym (none-is_none d.group q.1) in
      record {
        eo = eo.0;
        priority = priority.0;
        member = memberships.Agroup agroup.0;
        is = λ i. record { name = d.name; kind = kind-is i; eo = eo-is i; priority = priority-is i; group = group-is i; agroup = agroup-is i };
        known = k.eo eo.0 eo.1;
        fits = k.agroup agroup.0 agroup.1;
      })
      (or-true (has_group g d && is_none d.agroup) (has_agroup g d && is_none d.group) a.1)

  grouped-fits : (kind : Kind) → d.kind ≡ kind → (has_eo g d && is_some d.priority && has_group g d && is_none d.agroup) ≡ true → GroupedFits names kind d
  grouped-fits kind e h =
      let a = and-true (has_eo g d && is_some d.priority && has_group g d) (is_none d.agroup) h in
      let b = and-true (has_eo g d && is_some d.priority) (has_group g d) a.0 in
      let c = and-true (has_eo g d) (is_some d.priority) b.0 in
      let eo = map_or-some (λ x. ltb x.0 (length g.eos)) d.eo c.0 in
      let priority = some-is_some d.priority c.1 in
      let group = map_or-some (is_group_number g) d.group b.1 in
      let kind-is = sym e in
      let eo-is = sym eo.1 in
      let priority-is = sym priority.1 in
      let group-is = sym group.1 in
      let agroup-is = sym (none-is_none d.agroup a.1) in
      record {
        eo = eo.0;
        priority = priority.0;
        group = group.0;
        is = λ i. record { name = d.name; kind = kind-is i; eo = eo-is i; priority = priority-is i; group = group-is i; agroup = agroup-is i };
        known = k.eo eo.0 eo.1;
        fits = k.group group.0 group.1;
      }

  local-fits : d.kind ≡ kinds.Local → is_queue_of g d kinds.Local ≡ true → LocalFits names d
  local-fits e h =
      let a = and-true (has_eo g d && is_some d.priority && is_none d.group) (is_none d.agroup) h in
      let b = and-true (has_eo g d && is_some d.priority) (is_none d.group) a.0 in
      let c = and-true (has_eo g d) (is_some d.priority) b.0 in
      let eo = map_or-some (λ x. ltb x.0 (length g.eos)) d.eo c.0 in
      let priority = some-is_some d.priority c.1 in
      let kind-is = sym e in
      let eo-is = sym eo.1 in
      let priority-is = sym priority.1 in
      let group-is = sym (none-is_none d.group b.1) in
      let agroup-is = sym (none-is_none d.agroup a.1) in
      record {
        eo = eo.0;
        priority = priority.0;
        is = λ i. record { name = d.name; kind = kind-is i; eo = eo-is i; priority = priority-is i; group = group-is i; agroup = agroup-is i };
        known = k.eo eo.0 eo.1;
      }

  free-fits : (kind : Kind) → d.kind ≡ kind → (is_none d.eo && is_none d.priority && is_none d.group && is_none d.agroup) ≡ true → free_queue d.name kind ≡ d
  free-fits kind e h =
      let a = and-true (is_none d.eo && is_none d.priority && is_none d.group) (is_none d.agroup) h in
      let b = and-true (is_none d.eo && is_none d.priority) (is_none d.group) a.0 in
      let c = and-true (is_none d.eo) (is_none d.priority) b.0 in
      let kind-is = sym e in
      let eo-is = sym (none-is_none d.eo c.0) in
      let priority-is = sym (none-is_none d.priority c.1) in
      let group-is = sym (none-is_none d.group b.1) in
      let agroup-is = sym (none-is_none d.agroup a.1) in
      λ i. record { name = d.name; kind = kind-is i; eo = eo-is i; priority = priority-is i; group = group-is i; agroup = agroup-is i }

  kind-fits : (kind : Kind) → d.kind ≡ kind → is_queue_of g d kind ≡ true → KindFits names d kind
  kind-fits kinds.Atomic e h = atomic-fits e h
  kind-fits kinds.Parallel e h = grouped-fits kinds.Parallel e h
  kind-fits kinds.Ordered e h = grouped-fits kinds.Ordered e h
  kind-fits kinds.Local e h = local-fits e h
  kind-fits kinds.Unscheduled e h = free-fits kinds.Unscheduled e h
  kind-fits kinds.Output e h = free-fits kinds.Output e h

  pub queue-fits : is_queue_decl g d ≡ true → KindFits names d d.kind
  queue-fits h = kind-fits d.kind refl h

-- ---- and back

module _ (names : Naming) (g : Config) (k : KnowsOnly names g) where
  fits-atomic : (name : List ℕ) (eo : EoId) (p : Priority) (m : Membership) → IsKnown names (named.Eo eo) → MembershipFits names m → is_queue_of g (atomic_queue name eo p m) kinds.Atomic ≡ true
  fits-atomic name eo p (memberships.Group x) e f = rw (lt-ltb eo.0 (length g.eos) (k.eos eo e), k.groups x f) refl
  fits-atomic name eo p (memberships.Agroup a) e f = rw (lt-ltb eo.0 (length g.eos) (k.eos eo e), lt-ltb a (length g.agroups) (k.agroups a f)) refl

  pub fits-queue : (d : QueueDecl) (kind : Kind) → KindFits names d kind → is_queue_of g d kind ≡ true
  fits-queue d kinds.Atomic a = subst (λ e. is_queue_of g e kinds.Atomic ≡ true) a.is (fits-atomic d.name a.eo a.priority a.member a.known a.fits)
  fits-queue d kinds.Parallel a = subst (λ e. is_queue_of g e kinds.Parallel ≡ true) a.is (rw (lt-ltb a.eo.0 (length g.eos) (k.eos a.eo a.known), k.groups a.group a.fits) refl)
  fits-queue d kinds.Ordered a = subst (λ e. is_queue_of g e kinds.Ordered ≡ true) a.is (rw (lt-ltb a.eo.0 (length g.eos) (k.eos a.eo a.known), k.groups a.group a.fits) refl)
  fits-queue d kinds.Local a = subst (λ e. is_queue_of g e kinds.Local ≡ true) a.is (rw (lt-ltb a.eo.0 (length g.eos) (k.eos a.eo a.known)) refl)
  fits-queue d kinds.Unscheduled a = subst (λ e. is_queue_of g e kinds.Unscheduled ≡ true) a refl
  fits-queue d kinds.Output a = subst (λ e. is_queue_of g e kinds.Output ≡ true) a refl
