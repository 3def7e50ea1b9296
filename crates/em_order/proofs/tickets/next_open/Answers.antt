use Rattle.std.proofs.Common.{◌+◌, ap, sym, ◌∙◌, subst, arith}
use Rattle.em_order.specs.declared.tickets.CoreOrder.{CoreOrder}
use Rattle.em_order.specs.Changes.{lesser_open}
use Rattle.em_order.specs.State.{core_in, idle}
use Rattle.std.proofs.lemmas.List.{get_or_default}
use Rattle.em_order.proofs.NextOpen.{IsNextBelow, next-none, next-more, next-all}
use Rattle.em_order.proofs.tickets.next_open.Goals as goal

pub loop-core-init : goal.loop-core-init
loop-core-init c = next-none c.args.cores.now c.args.queue.0 c.args.from

pub loop-core-preserved : goal.loop-core-preserved
loop-core-preserved c =
    let cores = c.args.cores.now in
    let k = c.loop-core.core in
    let read = c.index-cores-core.is ∙ get_or_default cores k c.index-cores-core.result idle c.loop-core-test.true in
    let is = c.lesser-next.ensures ∙ ap (λ (o : CoreOrder). lesser_open c.args.queue.0 c.args.from k o.ticket c.loop-core.next) read in
    subst (IsNextBelow cores c.args.queue.0 c.args.from (k + 1)) (sym is)
    (subst (λ j. IsNextBelow cores c.args.queue.0 c.args.from j (lesser_open c.args.queue.0 c.args.from k (core_in cores k).ticket c.loop-core.next)) (omega arith)
    (next-more cores c.args.queue.0 c.args.from k c.loop-core.next c.loop-core.invariant))

pub returns : goal.returns
returns c =
    let past = c.loop-core-test.false in
    let most = c.loop-core.auto.core-end in
    next-all c.args.cores.now c.args.queue.0 c.args.from c.loop-core.next
    (subst (λ j. IsNextBelow c.args.cores.now c.args.queue.0 c.args.from j c.loop-core.next) (omega arith) c.loop-core.invariant)
