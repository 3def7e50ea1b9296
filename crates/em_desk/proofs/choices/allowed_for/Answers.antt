use Rattle.std.proofs.Common.{◌≡◌, ◌∙◌, ℕ, ◌+◌, ◌&&◌, nat_lt, refl, ap, sym, subst, arith, length}
use Rattle.em_queues.specs.declared.set.QueueSet.{QueueSet}
use Rattle.em_queues.specs.Sets.{contains}
use Rattle.em_desk.specs.Choices.{is_allowed}
use Rattle.em_desk.proofs.QueueSets.{first-set, allowed-in, stopped-in, put-in, left-out, all-sets}
use Rattle.em_desk.proofs.choices.allowed_for.Goals as goal
use Rattle.em_desk.proofs.choices.allowed_for.Goals.{then-runs+then-has_core, else-runs, else-runs-via-then-runs+else-has_core, else-runs-via-else-runs}

pub loop-shape-init : goal.loop-shape-init
loop-shape-init c = (refl, (c.as_slice-shape-items.ensures, λ q. first-set c.args.declarations.now c.args.core.0 q _ (c.none-set.ensures q)))

pub add-requires : goal.add-requires
add-requires c =
    let at = c.loop-shape.invariant.0 in
    let few = c.requires.queues in
    let items = ap length c.loop-shape.invariant.1.0 in
    let lt = c.loop-shape-test.true in
    omega (arith, at, few, items, lt)

pub loop-shape-preserved : goal.loop-shape-preserved
loop-shape-preserved c =
    let k = c.args.declarations.now in
    let n = c.args.core.0 in
    let at = c.loop-shape.invariant.0 in
    let items = c.loop-shape.invariant.1.0 in
    let before = c.loop-shape.invariant.1.1 in (
      ap (λ (i : ℕ). i + 1) at,
      (
        items,
        λ q.
            elim c.if-runs.branch [
              | then-runs+then-has_core w ↦
                  let on = allowed-in k n c.loop-shape.number c.loop-shape.shape-index c.as_slice-shape-items.result.now _ c.runs.result w.has_core.result items at c.loop-shape-test.true c.runs.ensures w.has_core.ensures
                  ∙ (λ i. w.if-runs.true i && w.if-has_core.true i) in
                  subst (λ (s : QueueSet). contains s q ≡ (nat_lt q (c.loop-shape.number + 1) && is_allowed k n q)) (sym w.set-is)
                  (w.add.ensures q ∙ put-in k n c.loop-shape.number q (contains c.loop-shape.set q) on (before q))
              | else-runs w ↦
                  subst (λ (s : QueueSet). contains s q ≡ (nat_lt q (c.loop-shape.number + 1) && is_allowed k n q)) (sym w.set-is)
                  (elim w.else-runs.branch [
                    | else-runs-via-then-runs+else-has_core u ↦
                        let off = allowed-in k n c.loop-shape.number c.loop-shape.shape-index c.as_slice-shape-items.result.now _ c.runs.result u.has_core.result items at c.loop-shape-test.true c.runs.ensures u.has_core.ensures
                        ∙ (λ i. u.if-runs.true i && u.if-has_core.false i) in
                        left-out k n c.loop-shape.number q (contains c.loop-shape.set q) off (before q)
                    | else-runs-via-else-runs u ↦
                        left-out k n c.loop-shape.number q (contains c.loop-shape.set q)
                        (stopped-in k n c.loop-shape.number c.loop-shape.shape-index c.as_slice-shape-items.result.now _ c.runs.result items at c.loop-shape-test.true c.runs.ensures u.if-runs.false) (before q)
                  ])
            ],
      ),
    )

pub returns : goal.returns
returns c = λ q.
    let at = c.loop-shape.invariant.0 in
    let items = ap length c.loop-shape.invariant.1.0 in
    let end = c.loop-shape-test.false in
    all-sets c.args.declarations.now c.args.core.0 c.loop-shape.number q _ (omega (arith, at, items, end)) (c.loop-shape.invariant.1.1 q)
