use Rattle.std.proofs.Common.{length, arith, sym, ◌∙◌}
use Rattle.std.proofs.lemmas.Bool.{ne_eqb}
use Rattle.em_queues.specs.Events.{list_in}
use Rattle.em_queues.proofs.SeenEvents.{seen-count, seen-few, seen-last, seen-first, seen-behind}
use Rattle.em_queues.proofs.event_lists.EventLists.push_back.Goals as goal

pub invariant_of-self : goal.invariant_of-self
invariant_of-self c =
    (seen-first c.self.invariant c.self.view_is c.args.list c.requires.list c.index-ends.result.now c.index-ends.ensures c.args.index c.from.result c.requires.unlisted c.from.ensures
    c.if-ends-eq0.true).linked

pub returns-then-ends-eq0-clause-lists : goal.returns-then-ends-eq0-clause-lists
returns-then-ends-eq0-clause-lists c =
    (seen-first c.self.invariant c.self.view_is c.args.list c.requires.list c.index-ends.result.now c.index-ends.ensures c.args.index c.from.result c.requires.unlisted c.from.ensures
    c.if-ends-eq0.true).lists

pub returns-then-ends-eq0-clause-listed : goal.returns-then-ends-eq0-clause-listed
returns-then-ends-eq0-clause-listed c =
    (seen-first c.self.invariant c.self.view_is c.args.list c.requires.list c.index-ends.result.now c.index-ends.ensures c.args.index c.from.result c.requires.unlisted c.from.ensures
    c.if-ends-eq0.true).listed

pub index_mut-requires-else-ends-eq0 : goal.index_mut-requires-else-ends-eq0
index_mut-requires-else-ends-eq0 c =
    let last = seen-last c.self.invariant c.self.view_is c.args.list c.requires.list c.index-ends.result.now c.index-ends.ensures c.if-ends-eq0.false in omega arith

pub overflow_add-ends : goal.overflow_add-ends
overflow_add-ends c =
    let few = seen-few c.self.invariant c.self.view_is c.args.list c.requires.list c.index-ends.result.now c.index-ends.ensures in omega arith

pub invariant_of-self-else-ends-eq0 : goal.invariant_of-self-else-ends-eq0
invariant_of-self-else-ends-eq0 c =
    (seen-behind c.self.invariant c.self.view_is c.args.list c.requires.list c.index-ends.result.now c.index-ends.ensures c.args.index c.from.result c.requires.unlisted c.from.ensures
    c.from-else-ends-eq0.result c.from-else-ends-eq0.ensures c.if-ends-eq0.false).linked

pub returns-else-ends-eq0-clause-lists : goal.returns-else-ends-eq0-clause-lists
returns-else-ends-eq0-clause-lists c =
    (seen-behind c.self.invariant c.self.view_is c.args.list c.requires.list c.index-ends.result.now c.index-ends.ensures c.args.index c.from.result c.requires.unlisted c.from.ensures
    c.from-else-ends-eq0.result c.from-else-ends-eq0.ensures c.if-ends-eq0.false).lists

pub returns-else-ends-eq0-clause-listed : goal.returns-else-ends-eq0-clause-listed
returns-else-ends-eq0-clause-listed c =
    (seen-behind c.self.invariant c.self.view_is c.args.list c.requires.list c.index-ends.result.now c.index-ends.ensures c.args.index c.from.result c.requires.unlisted c.from.ensures
    c.from-else-ends-eq0.result c.from-else-ends-eq0.ensures c.if-ends-eq0.false).listed

pub returns-else-ends-eq0-clause-first : goal.returns-else-ends-eq0-clause-first
returns-else-ends-eq0-clause-first c =
    let long = seen-count c.self.invariant c.self.view_is c.args.list c.requires.list c.index-ends.result.now c.index-ends.ensures in
    sym (ne_eqb (length (list_in c.args.self.now.lists c.args.list)) 0 (λ none. c.if-ends-eq0.false (long ∙ none)))
