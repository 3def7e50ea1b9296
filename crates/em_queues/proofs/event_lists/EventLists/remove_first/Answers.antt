use Rattle.std.proofs.Common.{◌==◌, arith, ap}
use Rattle.em_queues.proofs.SeenEvents.{seen-count, seen-there, seen-removed}
use Rattle.em_queues.proofs.event_lists.EventLists.remove_first.Goals as goal

pub index-requires : goal.index-requires
index-requires c =
    let long = seen-count c.self.invariant c.self.view_is c.args.list c.requires.list c.index-ends.result.now c.index-ends.ensures in
    let there = seen-there c.self.invariant c.self.view_is c.args.list c.requires.list c.index-ends.result.now c.index-ends.ensures 0 (omega arith) in omega arith

pub index_mut-requires-2 : goal.index_mut-requires-2
index_mut-requires-2 c =
    let long = seen-count c.self.invariant c.self.view_is c.args.list c.requires.list c.index-ends.result.now c.index-ends.ensures in
    let there = seen-there c.self.invariant c.self.view_is c.args.list c.requires.list c.index-ends.result.now c.index-ends.ensures 0 (omega arith) in omega arith

pub invariant_of-self : goal.invariant_of-self
invariant_of-self c =
    let long = seen-count c.self.invariant c.self.view_is c.args.list c.requires.list c.index-ends.result.now c.index-ends.ensures in
    (seen-removed c.self.invariant c.self.view_is c.args.list c.requires.list c.index-ends.result.now c.index-ends.ensures c.from-first.result c.index.result.now c.from-first.ensures c.index.ensures (omega arith)).linked

pub returns-clause-lists : goal.returns-clause-lists
returns-clause-lists c =
    let long = seen-count c.self.invariant c.self.view_is c.args.list c.requires.list c.index-ends.result.now c.index-ends.ensures in
    (seen-removed c.self.invariant c.self.view_is c.args.list c.requires.list c.index-ends.result.now c.index-ends.ensures c.from-first.result c.index.result.now c.from-first.ensures c.index.ensures (omega arith)).lists

pub returns-clause-listed : goal.returns-clause-listed
returns-clause-listed c =
    let long = seen-count c.self.invariant c.self.view_is c.args.list c.requires.list c.index-ends.result.now c.index-ends.ensures in
    (seen-removed c.self.invariant c.self.view_is c.args.list c.requires.list c.index-ends.result.now c.index-ends.ensures c.from-first.result c.index.result.now c.from-first.ensures c.index.ensures (omega arith)).listed

pub returns-clause-rest : goal.returns-clause-rest
returns-clause-rest c = ap (λ k. k == 1) (seen-count c.self.invariant c.self.view_is c.args.list c.requires.list c.index-ends.result.now c.index-ends.ensures)
