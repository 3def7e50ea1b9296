use Rattle.std.proofs.Common.{◌≡◌, ◌+◌, suc, get_or, arith, ap, sym, ◌∙◌}
use Rattle.em_queues.specs.Links.{event_at}
use Rattle.em_queues.proofs.Chains.{event-next}
use Rattle.em_queues.proofs.event_lists.walk.Goals as goal

pub loop-preserved : goal.loop-preserved
loop-preserved c = record {
  last = λ m e. let same : c.loop.counter ≡ m = omega arith in c.loop.invariant.rest ∙ ap (event_at c.args.next.now c.args.first) same;
  rest =
      let more : c.loop.counter + 1 ≡ suc c.loop.counter = omega arith in
      ap (λ i. get_or c.args.next.now i 0) (c.from.ensures ∙ c.loop.invariant.rest)
      ∙ sym (ap (event_at c.args.next.now c.args.first) more ∙ event-next c.args.next.now c.args.first c.loop.counter);
}
