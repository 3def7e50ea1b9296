use Rattle.std.proofs.Common.{◌≡◌, ◌∙◌, ℕ, ◌+◌, not, slice_set, get_or, refl, ap, sym, subst, arith}
use Rattle.em_queues.specs.Sets.{contains}
use Rattle.em_operations.specs.QueueSets.{AreRebarred, put_as}
use Rattle.em_operations.proofs.AllowedQueues.{none-rebarred, next-rebarred}
use Rattle.std.proofs.lemmas.List.{length-set}
use Rattle.em_operations.proofs.queue_sets.rebar.Goals as goal

pub loop-core-init : goal.loop-core-init
loop-core-init c = (refl, none-rebarred c.args.barred.now.items c.args.queues.now c.args.mask.0)

pub loop-core-preserved : goal.loop-core-preserved
loop-core-preserved c =
    let n = c.loop-core.core in
    let old = c.args.barred.now.items in
    let now = c.loop-core.barred.items in
    let queues = c.args.queues.now in
    let count = c.loop-core.invariant.0 in
    let test = c.loop-core-test.true in
    let cores = c.len-cores.ensures in
    let from = c.from-place.ensures in
    let set = c.set_to.result in (
      length-set now c.from-place.result set ∙ count,
      subst (λ (i : ℕ). AreRebarred (n + 1) old queues c.args.mask.0 (slice_set now i set)) (sym from)
          (next-rebarred old now queues set c.index.result.now c.args.mask.0 n c.index.result.now (omega (arith, test, cores)) count c.loop-core.invariant.1
          (subst (λ (i : ℕ). c.index.result.now ≡ get_or now i c.index.result.now) from c.index.ensures)
          (λ q. c.set_to.ensures q ∙ ap (λ b. put_as (contains queues q) (not b) (contains c.index.result.now q)) c.has_core.ensures)),
    )

pub returns-clause-sets : goal.returns-clause-sets
returns-clause-sets c =
    let end = c.loop-core-test.false in
    let le = c.loop-core.auto.core-end in
    let cores = c.len-cores.ensures in
    subst (λ (n : ℕ). AreRebarred n c.args.barred.now.items c.args.queues.now c.args.mask.0 c.loop-core.barred.items) (omega (arith, end, le, cores)) c.loop-core.invariant.1
