use Rattle.std.proofs.Common.{length, map, ap, arith}
use Rattle.em_log.specs.Declarations.{event_total, pool_shape}
use Rattle.em_order.proofs.Opening.{opened-stands, opened-whole}
use Rattle.em_order.proofs.orders.Orders.build.Goals as goal

pub invariant_of-result : goal.invariant_of-result
invariant_of-result c =
    let events = c.total.ensures in
    let pools = ap (λ ps. event_total (map pool_shape ps)) c.as_slice-2.ensures in
    let most = c.requires in
    let len = c.in_ok-nodes_for.ensures.len in
    opened-whole c.in_ok-nodes_for.field-0.items c.args.config.now.cores (length c.as_slice.result.now) c.in_ok-idle_cores.ensures
    c.in_ok-undrawn_queues.ensures c.empty.ensures c.in_ok-nodes_for.ensures.single (omega arith)

pub returns-clause-stands : goal.returns-clause-stands
returns-clause-stands c =
    opened-stands c.in_ok-nodes_for.field-0.items c.args.config.now.cores (length c.as_slice.result.now) c.in_ok-idle_cores.ensures
    c.in_ok-undrawn_queues.ensures c.empty.ensures c.in_ok-nodes_for.ensures.single
