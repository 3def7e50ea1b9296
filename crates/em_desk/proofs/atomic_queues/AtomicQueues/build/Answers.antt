use Rattle.std.proofs.Common.{◌≡◌, ◌∙◌, ◌+◌, length, map, List, Option, ap, sym, subst, arith}
use Rattle.std.proofs.lemmas.List.{length-map}
use Rattle.em_log.specs.declared.declarations.Declarations.{Declarations}
use Rattle.em_log.specs.declared.graph.Config.{Config}
use Rattle.em_log.specs.declared.graph.QueueDecl.{QueueDecl}
use Rattle.em_log.specs.declared.ids.AtomicId.{AtomicId}
use Rattle.em_log.specs.Declarations.{declarations_of, agroup_shape, queue_shape, lone_count}
use Rattle.em_desk.specs.Atomics.{context_at, atomic_shape, AreMembers}
use Rattle.em_desk.proofs.AtomicSets.{contexts-count, context-is, opened}
use Rattle.em_desk.proofs.atomic_queues.AtomicQueues.build.Goals as goal

-- the numbers of contexts and cores are those of the declared graph
shape-declared : (g : Config) → record { contexts = length g.agroups + lone_count (declarations_of g).queues; cores = g.cores } ≡ atomic_shape (declarations_of g)
shape-declared g =
    let count = length-map g.agroups agroup_shape in
    λ i. record { contexts = sym count i + lone_count (declarations_of g).queues; cores = g.cores }

pub members-requires : goal.members-requires
members-requires c =
    let k = c.args.declarations.now in
    let items = c.as_slice-3.ensures.value in
    let count = contexts-count k c.in_ok-of_queue.of_queue.items c.in_ok-of_queue.ensures in
    let same = ap length items in
    let few = c.requires.graph.queues in
    omega (arith, same, count, few)

pub returns : goal.returns
returns c =
    let k = c.args.declarations.now in
    let g = c.args.config.now in
    let is = c.requires.declarations in
    let lone : lone_count k.queues ≡ c.lone_queues-lone.result = ap (λ (k : Declarations). lone_count k.queues) is ∙ (ap (λ (ds : List QueueDecl). lone_count (map queue_shape ds)) (sym c.as_slice.ensures) ∙ sym c.lone_queues-lone.ensures.value) in
    let few = c.lone_queues-lone.ensures.few in
    let listed : length c.as_slice.result.now ≡ length k.queues = ap length c.as_slice.ensures ∙ (sym (length-map g.queues queue_shape) ∙ sym (ap (λ (k : Declarations). length k.queues) is)) in
    let groups = c.requires.graph.groups in
    let queues = c.requires.graph.queues in
    let count = c.in_ok-members.ensures.count in
    let grouped = ap length c.as_slice-2.ensures in
    opened k _ c.requires.graph (λ q. context-is k c.in_ok-of_queue.of_queue.items q c.in_ok-of_queue.ensures)
    (c.in_ok-build.ensures.shape ∙ (shape-declared g ∙ ap atomic_shape (sym is)))
    (omega (arith, count, grouped, lone, few, listed, groups, queues))
    (subst (λ (xs : List (Option AtomicId)). AreMembers (context_at xs) c.in_ok-members.field-0.items) c.as_slice-3.ensures.value c.in_ok-members.ensures.members)
    c.in_ok-build.ensures.stands c.none.ensures
