use Rattle.std.proofs.Common.{◌<◌, length, take, set, sym, ◌∙◌, subst}
use Rattle.em_order.specs.State.{OrderState}
use Rattle.em_order.specs.Whole.{IsWhole}
use Rattle.em_order.proofs.WholeLemmas.{whole-released}
use Rattle.em_order.proofs.orders.Orders.release.Goals as goal

pub invariant_of-self : goal.invariant_of-self
invariant_of-self c =
    let some = subst (λ (v : OrderState). 0 < length v.due) (sym c.self.view_is) c.requires in
    let nodes = c.put_back.ensures ∙ (λ i. set c.self.inside.nodes.items (c.from.ensures i) (c.take_first-node.ensures.first i)) in
    subst (λ rs. IsWhole c.self.inside.cores.items c.self.inside.queues.items rs c.take_first-node.new.self) (sym nodes)
    (subst (λ l. IsWhole c.self.inside.cores.items c.self.inside.queues.items (set c.self.inside.nodes.items c.args.index (take 1 c.self.inside.due)) l)
    (sym c.take_first-node.ensures.rest) (whole-released c.self.invariant some c.args.index))
