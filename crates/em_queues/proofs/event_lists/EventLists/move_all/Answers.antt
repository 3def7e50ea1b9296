use Rattle.std.proofs.Common.{length, arith, sym}
use Rattle.std.proofs.lemmas.Bool.{lt-ltb}
use Rattle.em_queues.specs.Events.{list_in}
use Rattle.em_queues.proofs.SeenEvents.{seen-count, seen-few, seen-last, seen-alone, seen-before}
use Rattle.em_queues.proofs.event_lists.EventLists.move_all.Goals as goal

pub invariant_of-self : goal.invariant_of-self
invariant_of-self c =
    (seen-alone c.self.invariant c.self.view_is c.args.from c.requires.from c.index-moved.result.now c.index-moved.ensures c.args.to c.requires.to c.requires.apart c.index-ends.result.now c.index-ends.ensures
    c.if-ends-eq0.true).linked

pub returns-then-ends-eq0-clause-lists : goal.returns-then-ends-eq0-clause-lists
returns-then-ends-eq0-clause-lists c =
    (seen-alone c.self.invariant c.self.view_is c.args.from c.requires.from c.index-moved.result.now c.index-moved.ensures c.args.to c.requires.to c.requires.apart c.index-ends.result.now c.index-ends.ensures
    c.if-ends-eq0.true).lists

pub returns-then-ends-eq0-clause-some : goal.returns-then-ends-eq0-clause-some
returns-then-ends-eq0-clause-some c =
    let long = seen-count c.self.invariant c.self.view_is c.args.from c.requires.from c.index-moved.result.now c.index-moved.ensures in
    let some = c.if-moved-eq0.false in
    sym (lt-ltb 0 (length (list_in c.args.self.now.lists c.args.from)) (omega arith))

pub index_mut-requires-else-ends-eq0 : goal.index_mut-requires-else-ends-eq0
index_mut-requires-else-ends-eq0 c =
    let last = seen-last c.self.invariant c.self.view_is c.args.from c.requires.from c.index-moved.result.now c.index-moved.ensures c.if-moved-eq0.false in omega arith

pub overflow_add-moved : goal.overflow_add-moved
overflow_add-moved c =
    let few = seen-few c.self.invariant c.self.view_is c.args.from c.requires.from c.index-moved.result.now c.index-moved.ensures in
    let others = seen-few c.self.invariant c.self.view_is c.args.to c.requires.to c.index-ends.result.now c.index-ends.ensures in omega arith

pub invariant_of-self-else-ends-eq0 : goal.invariant_of-self-else-ends-eq0
invariant_of-self-else-ends-eq0 c =
    (seen-before c.self.invariant c.self.view_is c.args.from c.requires.from c.index-moved.result.now c.index-moved.ensures c.args.to c.requires.to c.requires.apart c.index-ends.result.now c.index-ends.ensures
    c.from.result c.from.ensures c.if-moved-eq0.false c.if-ends-eq0.false).linked

pub returns-else-ends-eq0-clause-lists : goal.returns-else-ends-eq0-clause-lists
returns-else-ends-eq0-clause-lists c =
    (seen-before c.self.invariant c.self.view_is c.args.from c.requires.from c.index-moved.result.now c.index-moved.ensures c.args.to c.requires.to c.requires.apart c.index-ends.result.now c.index-ends.ensures
    c.from.result c.from.ensures c.if-moved-eq0.false c.if-ends-eq0.false).lists

pub returns-else-ends-eq0-clause-listed : goal.returns-else-ends-eq0-clause-listed
returns-else-ends-eq0-clause-listed c =
    (seen-before c.self.invariant c.self.view_is c.args.from c.requires.from c.index-moved.result.now c.index-moved.ensures c.args.to c.requires.to c.requires.apart c.index-ends.result.now c.index-ends.ensures
    c.from.result c.from.ensures c.if-moved-eq0.false c.if-ends-eq0.false).listed

pub returns-else-ends-eq0-clause-some : goal.returns-else-ends-eq0-clause-some
returns-else-ends-eq0-clause-some c =
    let long = seen-count c.self.invariant c.self.view_is c.args.from c.requires.from c.index-moved.result.now c.index-moved.ensures in
    let some = c.if-moved-eq0.false in
    sym (lt-ltb 0 (length (list_in c.args.self.now.lists c.args.from)) (omega arith))
