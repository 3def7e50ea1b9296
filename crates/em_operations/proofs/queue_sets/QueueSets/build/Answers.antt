use Rattle.std.proofs.Common.{◌∙◌, ◌+◌, ℕ, length, List, Option, ap, subst}
use Rattle.em_operations.specs.QueueSets.{AreDeclaredBarred, AreOf, number_at, runs_as}
use Rattle.em_operations.proofs.AllowedQueues.{opened}
use Rattle.em_operations.proofs.queue_sets.QueueSets.build.Goals as goal

pub returns : goal.returns
returns c =
    let k = c.args.declarations.now in
    opened k _ c.in_ok-objects.objects.items c.in_ok-groups.groups.items c.in_ok-objects.ensures c.in_ok-groups.ensures
    (c.in_ok-sets_of.ensures.count ∙ ap length c.as_slice-object_count.ensures)
    (subst (λ (xs : List (Option ℕ)). AreOf (number_at xs) c.in_ok-sets_of.field-0.items) c.as_slice-2.ensures.value c.in_ok-sets_of.ensures.members)
    (c.in_ok-sets_of-2.ensures.count ∙ ap (λ xs. length xs + 1) c.as_slice.ensures)
    (subst (λ (xs : List (Option ℕ)). AreOf (number_at xs) c.in_ok-sets_of-2.field-0.items) c.as_slice-3.ensures.value c.in_ok-sets_of-2.ensures.members)
    (λ q. c.running_queues.ensures q ∙ ((λ i. runs_as (c.as_slice-4.ensures i) (number_at (c.as_slice-5.ensures.value i) q))))
    c.none.ensures c.in_ok-barred.ensures.count
    (subst (λ (xs : List (Option ℕ)). AreDeclaredBarred k xs c.in_ok-barred.field-0.items) c.as_slice-6.ensures.value c.in_ok-barred.ensures.barred)
