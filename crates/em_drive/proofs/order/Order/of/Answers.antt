use Rattle.std.proofs.Common.{◌≡◌, length, ap, sym, ◌∙◌, arith, nat_lt, ◌++◌, ◌∷◌, [], subst}
use Rattle.em_drive.specs.Orders.{IsOrderOf}
use Rattle.em_drive.proofs.OrderUsed.{kept, missing, kept-few, used-room, used-more, used-same, used-order}
use Rattle.em_drive.proofs.order.Order.of.Goals as goal
use Rattle.em_drive.proofs.order.Order.of.Goals.{then-not-contains, else-not-contains}

pub push-requires : goal.push-requires
push-requires c =
    let few = kept-few (λ m. nat_lt m c.args.cores) c.args.list.now c.loop-core.core-index in
    let e = ap length c.loop-core.invariant in
    let all = c.requires.few in
    (omega arith, omega arith)

pub push-requires-then-not-contains : goal.push-requires-then-not-contains
push-requires-then-not-contains c =
    let none = sym c.contains.ensures ∙ c.if-not-contains.true in
    let room = used-room c.args.list.now c.args.cores c.loop-core-2.core c.requires.different c.loop-core-2-test.true c.requires.cores none in
    let e = ap length c.loop-core-2.invariant in
    (omega arith, omega arith)

pub loop-core-2-preserved : goal.loop-core-2-preserved
loop-core-2-preserved c =
    let list = c.args.list.now in
    let n = c.args.cores in
    let k = c.loop-core-2.core in
    elim c.if-not-contains.branch [
      | then-not-contains w ↦ ap (λ o. o.cores.items) w.order-inside-is ∙ (w.push-then-not-contains.ensures.items ∙ (ap (λ xs. xs ++ k ∷ []) c.loop-core-2.invariant
          ∙ used-more list n k (sym c.contains.ensures ∙ w.if-not-contains.true)))
      | else-not-contains w ↦ ap (λ o. o.cores.items) w.order-inside-is ∙ (c.loop-core-2.invariant
          ∙ used-same list n k (sym c.contains.ensures ∙ w.if-not-contains.false))
    ]

pub returns-clause-each_core : goal.returns-clause-each_core
returns-clause-each_core c =
    let list = c.args.list.now in
    let n = c.args.cores in
    let at : c.loop-core-2.core ≡ n = omega (arith, c.loop-core-2-test.false, c.loop-core-2.auto.core-end) in
    let is = c.loop-core-2.invariant ∙ ap (λ k. kept list n ++ missing list k) at in
    subst (IsOrderOf n) (sym is) (used-order list n c.requires.different)
