use Rattle.std.proofs.Common.{◌<◌, List, ℕ, length, arith, ap, sym, subst, ◌∙◌, ◌==◌}
use Rattle.em_queues.specs.Links.{event_at}
use Rattle.em_queues.proofs.SeenEvents.{seen-count, seen-there, seen-parted}
use Rattle.em_queues.proofs.event_lists.EventLists.move_first.Goals as goal

pub walk-passed-requires : goal.walk-passed-requires
walk-passed-requires c = λ k lt.
    let long = seen-count c.self.invariant c.self.view_is c.args.from c.requires.from c.index-ends.result.now c.index-ends.ensures in
    let enough = c.requires.enough in
    subst (λ (xs : List ℕ). event_at xs c.index-ends.result.now.first k < length xs) (sym c.as_slice.ensures.value)
    (seen-there c.self.invariant c.self.view_is c.args.from c.requires.from c.index-ends.result.now c.index-ends.ensures k (omega arith))

pub overflow_sub-ends : goal.overflow_sub-ends
overflow_sub-ends c =
    let long = seen-count c.self.invariant c.self.view_is c.args.from c.requires.from c.index-ends.result.now c.index-ends.ensures in
    let enough = c.requires.enough in omega arith

pub invariant_of-self : goal.invariant_of-self
invariant_of-self c =
    let long = seen-count c.self.invariant c.self.view_is c.args.from c.requires.from c.index-ends.result.now c.index-ends.ensures in
    let enough = c.requires.enough in
    (seen-parted c.self.invariant c.self.view_is c.args.from c.requires.from c.index-ends.result.now c.index-ends.ensures c.args.to c.requires.to c.requires.apart
    c.args.n c.walk-passed.result.last c.walk-passed.result.rest (omega arith)
    (λ m e. c.walk-passed.ensures.last m e ∙ ap (λ xs. event_at xs c.index-ends.result.now.first m) c.as_slice.ensures.value)
    (c.walk-passed.ensures.rest ∙ ap (λ xs. event_at xs c.index-ends.result.now.first c.args.n) c.as_slice.ensures.value) c.requires.empty).linked

pub returns-clause-lists : goal.returns-clause-lists
returns-clause-lists c =
    let long = seen-count c.self.invariant c.self.view_is c.args.from c.requires.from c.index-ends.result.now c.index-ends.ensures in
    let enough = c.requires.enough in
    (seen-parted c.self.invariant c.self.view_is c.args.from c.requires.from c.index-ends.result.now c.index-ends.ensures c.args.to c.requires.to c.requires.apart
    c.args.n c.walk-passed.result.last c.walk-passed.result.rest (omega arith)
    (λ m e. c.walk-passed.ensures.last m e ∙ ap (λ xs. event_at xs c.index-ends.result.now.first m) c.as_slice.ensures.value)
    (c.walk-passed.ensures.rest ∙ ap (λ xs. event_at xs c.index-ends.result.now.first c.args.n) c.as_slice.ensures.value) c.requires.empty).lists

pub returns-clause-rest : goal.returns-clause-rest
returns-clause-rest c =
    ap (λ k. k == c.args.n) (seen-count c.self.invariant c.self.view_is c.args.from c.requires.from c.index-ends.result.now c.index-ends.ensures)
