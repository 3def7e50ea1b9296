-- The queues of a graph that runs today are open as they are declared, so that the desk serves sends to them.
use Rattle.std.proofs.Common.{◌≡◌, ◌⊎◌, inl, inr, ℕ, ◌<◌, ◌≤◌, ◌&&◌, ◌||◌, Bool, true, false, length, Option, Some, None, is_none, is_some, refl, ap, ◌∙◌, arith, IsTrue, nat_lt, get_or, slice_get}
use Rattle.std.proofs.lemmas.Bool.{and_parts, ltb-true}
use Rattle.std.proofs.lemmas.Option.{slice_get-map, slice_get_cases}
use Rattle.std.specs.Option.{option_map, option_map_or}
use Rattle.em_log.specs.declared.declarations.Declarations.{Declarations}
use Rattle.em_log.specs.declared.declarations.QueueShape.{QueueShape}
use Rattle.em_log.specs.declared.graph.Config.{Config}
use Rattle.em_log.specs.declared.graph.EoDecl.{EoDecl}
use Rattle.em_log.specs.declared.graph.QueueDecl.{QueueDecl}
use Rattle.em_log.specs.declared.graph.Priority.{Priority}
use Rattle.em_log.specs.declared.ids.EoId.{EoId}
use Rattle.em_log.specs.declared.ids.GroupId.{GroupId}
use Rattle.em_log.specs.declared.ids.Kind.{Kind}
use Rattle.em_log.specs.Declarations.{declarations_of, eo_shape, queue_shape, is_served}
use Rattle.em_log.specs.WellFormed.{IsWellFormed, is_queue_decl, is_queue_of, has_eo, has_group, has_agroup}
use Rattle.em_desk.specs.Served.{serves_queue}
use Rattle.em_drive.specs.Runnable.{is_runnable, is_runnable_object}
use Rattle.em_drive.proofs.RunnableParts.{all-get, runnable-parts, object-parts}

-- queues

abbrev shape : Kind → Option EoId → Option Priority → Option GroupId → Option ℕ → QueueShape
shape k o p n a = record { kind = k; eo = o; priority = p; group = n; agroup = a }

-- a queue of an object that runs is open
serves-owned : (k : Declarations) (q : ℕ) (kind : Kind) (x : EoId) (p : Option Priority) (n : Option GroupId) (a : Option ℕ)
    → slice_get k.queues q ≡ Some (shape kind (Some x) p n a) → slice_get k.running x.0 ≡ Some true
    → serves_queue k q ≡ true
serves-owned k q Kind.Ordered x p n a at runs = rw (at, runs) refl
serves-owned k q Kind.Atomic x p n a at runs = rw (at, runs) refl
serves-owned k q Kind.Parallel x p n a at runs = rw (at, runs) refl
serves-owned k q Kind.Local x p n a at runs = rw (at, runs) refl
serves-owned k q Kind.Unscheduled x p n a at runs = rw at refl
serves-owned k q Kind.Output x p n a at runs = rw at refl

-- and so is one that no core takes from
serves-untaken : (k : Declarations) (q : ℕ) (kind : Kind) (o : Option EoId) (p : Option Priority) (n : Option GroupId) (a : Option ℕ)
    → slice_get k.queues q ≡ Some (shape kind o p n a) → is_served kind ≡ false → serves_queue k q ≡ true
serves-untaken k q Kind.Unscheduled o p n a at h = rw at refl
serves-untaken k q Kind.Output o p n a at h = rw at refl
serves-untaken k q kind o p n a at h = absurd cc

serves-none : (k : Declarations) (q : ℕ) → slice_get k.queues q ≡ None → serves_queue k q ≡ true
serves-none k q at = rw at refl

-- their objects

-- a queue that cores take from has one
owned : (g : Config) (d : QueueDecl) (kind : Kind) → is_served kind ≡ true → is_queue_of g d kind ≡ true
    → has_eo g d ≡ true
owned g d Kind.Atomic taken fits =
    let a = and_parts (has_eo g d && is_some d.priority) ((has_group g d && is_none d.agroup) || (has_agroup g d && is_none d.group)) fits in
    (and_parts (has_eo g d) (is_some d.priority) a.0).0
owned g d Kind.Parallel taken fits =
    let a = and_parts (has_eo g d && is_some d.priority && has_group g d) (is_none d.agroup) fits in
    let b = and_parts (has_eo g d && is_some d.priority) (has_group g d) a.0 in
    (and_parts (has_eo g d) (is_some d.priority) b.0).0
owned g d Kind.Ordered taken fits =
    let a = and_parts (has_eo g d && is_some d.priority && has_group g d) (is_none d.agroup) fits in
    let b = and_parts (has_eo g d && is_some d.priority) (has_group g d) a.0 in
    (and_parts (has_eo g d) (is_some d.priority) b.0).0
owned g d Kind.Local taken fits =
    let a = and_parts (has_eo g d && is_some d.priority && is_none d.group) (is_none d.agroup) fits in
    let b = and_parts (has_eo g d && is_some d.priority) (is_none d.group) a.0 in
    (and_parts (has_eo g d) (is_some d.priority) b.0).0
owned g d kind taken fits = absurd cc

-- an object that is one of n
record ObjectOf (n : ℕ) (o : Option EoId) : Type 0 where
  object : EoId
  is : o ≡ Some object
  declared : object.0 < n

the-object : (n : ℕ) (o : Option EoId) → option_map_or (λ x. nat_lt x.0 n) o false ≡ true → ObjectOf n o
the-object n None h = absurd cc
the-object n (Some x) h = record { object = x; is = refl; declared = ltb-true x.0 n h }

-- each declared object runs
runs-at : (g : Config) → IsTrue (is_runnable g) → (i : ℕ) → i < length g.eos → slice_get (declarations_of g).running i ≡ Some true
runs-at g h i lt = by_case (slice_get_cases g.eos i).1
  where
    by_case : ((d : EoDecl) × (i < length g.eos) × (slice_get g.eos i ≡ Some d) × (get_or g.eos i d ≡ d))
        ⊎ ((length g.eos ≤ i) × (slice_get g.eos i ≡ None)) → slice_get (declarations_of g).running i ≡ Some true
    by_case (inl t) =
        let runs = (object-parts t.0 (all-get is_runnable_object g.eos i t.0 (runnable-parts g h).objects t.2)).running in
        slice_get-map eo_shape g.eos i ∙ ap (option_map eo_shape) t.2 ∙ ap Some runs
    by_case (inr t) = let past = t.0 in absurd (omega (arith, lt, past))

-- sends

-- every send of a graph that runs today is served
pub sends-served : (g : Config) → IsWellFormed g → IsTrue (is_runnable g) → (q : ℕ) → serves_queue (declarations_of g) q ≡ true
sends-served g well h q = by_declared (slice_get g.queues q) refl
  where
    k : Declarations
    k = declarations_of g

    by_kind : (d : QueueDecl) → slice_get k.queues q ≡ Some (queue_shape d) → is_queue_of g d d.kind ≡ true
        → (b : Bool) → is_served d.kind ≡ b → serves_queue k q ≡ true
    by_kind d at fits true taken =
        let object = the-object (length g.eos) d.eo (owned g d d.kind taken fits) in
        serves-owned k q d.kind object.object d.priority d.group d.agroup
        (at ∙ ap (λ o. Some (shape d.kind o d.priority d.group d.agroup)) object.is) (runs-at g h object.object.0 object.declared)
    by_kind d at fits false taken = serves-untaken k q d.kind d.eo d.priority d.group d.agroup at taken

    by_declared : (o : Option QueueDecl) → slice_get g.queues q ≡ o → serves_queue k q ≡ true
    by_declared None is = serves-none k q (slice_get-map queue_shape g.queues q ∙ ap (option_map queue_shape) is)
    by_declared (Some d) is =
        by_kind d (slice_get-map queue_shape g.queues q ∙ ap (option_map queue_shape) is)
        (all-get (is_queue_decl g) g.queues q d well.queues is) (is_served d.kind) refl
