use Rattle.std.proofs.Common.{◌≡◌, ◌∷◌, [], ◌++◌, ◌==◌, true, length, get_or, set, arith, ap, ◌∙◌, subst}
use Rattle.em_queues.specs.Events as events
use Rattle.em_queues.specs.Changes.{arrived_local}
use Rattle.em_queues.proofs.QueueCalls.{queue-there, core-there, kind-there, local-few, arrived-local-left}
use Rattle.em_queues.proofs.queues.Queues.arrive_local.Goals as goal

pub index_mut-slot-requires : goal.index_mut-slot-requires
index_mut-slot-requires c = let lt = (core-there c.self.inside.kinds.items c.self.inside.lists c.self.inside.cores.items c.self.invariant c.self.view_is c.args.core.0 c.requires.core) in let at = c.from-2.ensures in omega arith

pub enter-requires-clause-rank : goal.enter-requires-clause-rank
enter-requires-clause-rank c = local-few c.self.inside.kinds.items c.self.inside.lists c.self.inside.cores.items c.self.invariant c.args.core.0 (core-there c.self.inside.kinds.items c.self.inside.lists c.self.inside.cores.items c.self.invariant c.self.view_is c.args.core.0 c.requires.core) c.args.queue.0 (queue-there c.self.inside.kinds.items c.self.inside.lists c.self.inside.cores.items c.self.invariant c.self.view_is c.args.queue.0 c.requires.queue) c.index.result.now (c.index.ensures ∙ ap (λ k. get_or c.self.inside.kinds.items k c.index.result.now) c.from.ensures) (kind-there c.self.inside.kinds.items c.self.inside.lists c.self.inside.cores.items c.self.invariant c.self.view_is c.args.queue.0 true c.index.result.now (queue-there c.self.inside.kinds.items c.self.inside.lists c.self.inside.cores.items c.self.invariant c.self.view_is c.args.queue.0 c.requires.queue) (c.index.ensures ∙ ap (λ k. get_or c.self.inside.kinds.items k c.index.result.now) c.from.ensures) c.requires.local)

pub invariant_of-self : goal.invariant_of-self
invariant_of-self c =
    (arrived-local-left c.self.inside.kinds.items c.self.inside.lists c.self.inside.cores.items c.self.invariant c.args.queue.0 (queue-there c.self.inside.kinds.items c.self.inside.lists c.self.inside.cores.items c.self.invariant c.self.view_is c.args.queue.0 c.requires.queue) c.index.result.now (c.index.ensures ∙ ap (λ k. get_or c.self.inside.kinds.items k c.index.result.now) c.from.ensures) c.args.index c.push_back-is_first.new.self c.push_back-is_first.result c.enter.new.self
    c.args.core.0 (core-there c.self.inside.kinds.items c.self.inside.lists c.self.inside.cores.items c.self.invariant c.self.view_is c.args.core.0 c.requires.core) c.from-2.result c.from-2.ensures c.index_mut-slot.result.now c.index_mut-slot.ensures.value (kind-there c.self.inside.kinds.items c.self.inside.lists c.self.inside.cores.items c.self.invariant c.self.view_is c.args.queue.0 true c.index.result.now (queue-there c.self.inside.kinds.items c.self.inside.lists c.self.inside.cores.items c.self.invariant c.self.view_is c.args.queue.0 c.requires.queue) (c.index.ensures ∙ ap (λ k. get_or c.self.inside.kinds.items k c.index.result.now) c.from.ensures) c.requires.local)
    (subst (λ m. c.push_back-is_first.new.self.lists ≡ set c.self.inside.lists.lists m (events.list_in c.self.inside.lists.lists m ++ c.args.index ∷ [])) c.local_list.ensures c.push_back-is_first.ensures.lists)
    c.push_back-is_first.ensures.listed (c.push_back-is_first.ensures.first ∙ ap (λ m. length (events.list_in c.self.inside.lists.lists m) == 0) c.local_list.ensures) c.enter.ensures).whole

pub returns : goal.returns
returns c =
    (arrived-local-left c.self.inside.kinds.items c.self.inside.lists c.self.inside.cores.items c.self.invariant c.args.queue.0 (queue-there c.self.inside.kinds.items c.self.inside.lists c.self.inside.cores.items c.self.invariant c.self.view_is c.args.queue.0 c.requires.queue) c.index.result.now (c.index.ensures ∙ ap (λ k. get_or c.self.inside.kinds.items k c.index.result.now) c.from.ensures) c.args.index c.push_back-is_first.new.self c.push_back-is_first.result c.enter.new.self
    c.args.core.0 (core-there c.self.inside.kinds.items c.self.inside.lists c.self.inside.cores.items c.self.invariant c.self.view_is c.args.core.0 c.requires.core) c.from-2.result c.from-2.ensures c.index_mut-slot.result.now c.index_mut-slot.ensures.value (kind-there c.self.inside.kinds.items c.self.inside.lists c.self.inside.cores.items c.self.invariant c.self.view_is c.args.queue.0 true c.index.result.now (queue-there c.self.inside.kinds.items c.self.inside.lists c.self.inside.cores.items c.self.invariant c.self.view_is c.args.queue.0 c.requires.queue) (c.index.ensures ∙ ap (λ k. get_or c.self.inside.kinds.items k c.index.result.now) c.from.ensures) c.requires.local)
    (subst (λ m. c.push_back-is_first.new.self.lists ≡ set c.self.inside.lists.lists m (events.list_in c.self.inside.lists.lists m ++ c.args.index ∷ [])) c.local_list.ensures c.push_back-is_first.ensures.lists)
    c.push_back-is_first.ensures.listed (c.push_back-is_first.ensures.first ∙ ap (λ m. length (events.list_in c.self.inside.lists.lists m) == 0) c.local_list.ensures) c.enter.ensures).state
    ∙ ap (λ v. arrived_local v c.args.queue.0 c.args.core.0 c.args.index) c.self.view_is
