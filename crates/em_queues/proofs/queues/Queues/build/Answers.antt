use Rattle.std.proofs.Common.{◌≤◌, length, map, ap, sym, ◌∙◌, subst, List}
use Rattle.em_log.specs.declared.graph.QueueDecl.{QueueDecl}
use Rattle.em_log.specs.Declarations.{declarations_of, event_total, pool_shape, queue_shape}
use Rattle.em_queues.proofs.Opening.{whole-read, shape-read, stands-read}
use Rattle.em_queues.proofs.queues.Queues.build.Goals as goal

pub invariant_of-result : goal.invariant_of-result
invariant_of-result c =
    whole-read c.args.config.now.cores c.as_slice-queues.result.now c.total.result c.in_ok-kinds_of.field-0.items c.lists_of.result c.in_ok-build.field-0
    c.in_ok-idle_cores.field-0.items c.in_ok-kinds_of.ensures c.in_ok-build.ensures c.lists_of.ensures c.in_ok-idle_cores.ensures
    c.none.result (subst (λ (ds : List QueueDecl). length ds ≤ 256) (sym c.as_slice-queues.ensures) c.requires.queues) c.none.ensures

pub returns-clause-shape : goal.returns-clause-shape
returns-clause-shape c =
    shape-read c.args.config.now.cores c.as_slice-queues.result.now c.total.result c.in_ok-kinds_of.field-0.items c.lists_of.result c.in_ok-build.field-0
    c.in_ok-idle_cores.field-0.items c.in_ok-kinds_of.ensures c.in_ok-build.ensures c.lists_of.ensures c.in_ok-idle_cores.ensures
    ∙ (λ i. record {
      cores = c.args.config.now.cores;
      queues = ap (λ (ds : List QueueDecl). length ds) c.as_slice-queues.ensures i;
      events = (c.total.ensures ∙ ap (λ ps. event_total (map pool_shape ps)) c.as_slice.ensures) i;
    })

pub returns-clause-stands : goal.returns-clause-stands
returns-clause-stands c =
    stands-read c.args.config.now.cores c.as_slice-queues.result.now c.total.result c.in_ok-kinds_of.field-0.items c.lists_of.result c.in_ok-build.field-0
    c.in_ok-idle_cores.field-0.items c.in_ok-kinds_of.ensures c.in_ok-build.ensures c.lists_of.ensures c.in_ok-idle_cores.ensures
    (declarations_of c.args.config.now) (ap (map queue_shape) (sym c.as_slice-queues.ensures))
