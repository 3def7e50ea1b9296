use Rattle.std.proofs.Common.{◌<◌, Some, List, ℕ, length, arith, ap, sym, subst, ◌∙◌}
use Rattle.em_queues.specs.Links.{event_at}
use Rattle.em_queues.proofs.SeenEvents.{seen-event, seen-there, seen-past}
use Rattle.em_queues.proofs.event_lists.EventLists.get.Goals as goal

pub walk-requires : goal.walk-requires
walk-requires c = λ k lt.
    subst (λ (xs : List ℕ). event_at xs c.index-ends.result.now.first k < length xs) (sym c.as_slice.ensures.value)
    (seen-there c.self.invariant c.self.view_is c.args.list c.requires c.index-ends.result.now c.index-ends.ensures k (omega arith))

pub returns-then-number-ends : goal.returns-then-number-ends
returns-then-number-ends c =
    ap Some (c.walk.ensures.rest ∙ ap (λ xs. event_at xs c.index-ends.result.now.first c.args.number) c.as_slice.ensures.value)
    ∙ sym (seen-event c.self.invariant c.self.view_is c.args.list c.requires c.index-ends.result.now c.index-ends.ensures c.args.number c.if-number-ends.true)

pub returns-else-number-ends : goal.returns-else-number-ends
returns-else-number-ends c = sym (seen-past c.self.invariant c.self.view_is c.args.list c.requires c.index-ends.result.now c.index-ends.ensures c.args.number c.if-number-ends.false)
