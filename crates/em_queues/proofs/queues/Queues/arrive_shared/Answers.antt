use Rattle.std.proofs.Common.{◌≡◌, ◌∷◌, [], ◌++◌, ◌==◌, false, length, get_or, set, ap, ◌∙◌, subst}
use Rattle.em_queues.specs.Events as events
use Rattle.em_queues.specs.Changes.{arrived_shared}
use Rattle.em_queues.proofs.QueueCalls.{queue-there, kind-there, shared-few, arrived-shared-left}
use Rattle.em_queues.proofs.queues.Queues.arrive_shared.Goals as goal

pub enter-requires-clause-rank : goal.enter-requires-clause-rank
enter-requires-clause-rank c = shared-few c.self.inside.kinds.items c.self.inside.lists c.self.inside.cores.items c.self.invariant c.args.queue.0 (queue-there c.self.inside.kinds.items c.self.inside.lists c.self.inside.cores.items c.self.invariant c.self.view_is c.args.queue.0 c.requires.queue) c.index.result.now (c.index.ensures ∙ ap (λ k. get_or c.self.inside.kinds.items k c.index.result.now) c.from.ensures) (kind-there c.self.inside.kinds.items c.self.inside.lists c.self.inside.cores.items c.self.invariant c.self.view_is c.args.queue.0 false c.index.result.now (queue-there c.self.inside.kinds.items c.self.inside.lists c.self.inside.cores.items c.self.invariant c.self.view_is c.args.queue.0 c.requires.queue) (c.index.ensures ∙ ap (λ k. get_or c.self.inside.kinds.items k c.index.result.now) c.from.ensures) c.requires.shared)

pub invariant_of-self : goal.invariant_of-self
invariant_of-self c =
    (arrived-shared-left c.self.inside.kinds.items c.self.inside.lists c.self.inside.cores.items c.self.invariant c.args.queue.0 (queue-there c.self.inside.kinds.items c.self.inside.lists c.self.inside.cores.items c.self.invariant c.self.view_is c.args.queue.0 c.requires.queue) c.index.result.now (c.index.ensures ∙ ap (λ k. get_or c.self.inside.kinds.items k c.index.result.now) c.from.ensures) c.args.index c.push_back-is_first.new.self c.push_back-is_first.result c.enter.new.self (kind-there c.self.inside.kinds.items c.self.inside.lists c.self.inside.cores.items c.self.invariant c.self.view_is c.args.queue.0 false c.index.result.now (queue-there c.self.inside.kinds.items c.self.inside.lists c.self.inside.cores.items c.self.invariant c.self.view_is c.args.queue.0 c.requires.queue) (c.index.ensures ∙ ap (λ k. get_or c.self.inside.kinds.items k c.index.result.now) c.from.ensures) c.requires.shared)
    (subst (λ m. c.push_back-is_first.new.self.lists ≡ set c.self.inside.lists.lists m (events.list_in c.self.inside.lists.lists m ++ c.args.index ∷ [])) c.from-2.ensures c.push_back-is_first.ensures.lists)
    c.push_back-is_first.ensures.listed (c.push_back-is_first.ensures.first ∙ ap (λ m. length (events.list_in c.self.inside.lists.lists m) == 0) c.from-2.ensures) c.enter.ensures).whole

pub returns : goal.returns
returns c =
    (arrived-shared-left c.self.inside.kinds.items c.self.inside.lists c.self.inside.cores.items c.self.invariant c.args.queue.0 (queue-there c.self.inside.kinds.items c.self.inside.lists c.self.inside.cores.items c.self.invariant c.self.view_is c.args.queue.0 c.requires.queue) c.index.result.now (c.index.ensures ∙ ap (λ k. get_or c.self.inside.kinds.items k c.index.result.now) c.from.ensures) c.args.index c.push_back-is_first.new.self c.push_back-is_first.result c.enter.new.self (kind-there c.self.inside.kinds.items c.self.inside.lists c.self.inside.cores.items c.self.invariant c.self.view_is c.args.queue.0 false c.index.result.now (queue-there c.self.inside.kinds.items c.self.inside.lists c.self.inside.cores.items c.self.invariant c.self.view_is c.args.queue.0 c.requires.queue) (c.index.ensures ∙ ap (λ k. get_or c.self.inside.kinds.items k c.index.result.now) c.from.ensures) c.requires.shared)
    (subst (λ m. c.push_back-is_first.new.self.lists ≡ set c.self.inside.lists.lists m (events.list_in c.self.inside.lists.lists m ++ c.args.index ∷ [])) c.from-2.ensures c.push_back-is_first.ensures.lists)
    c.push_back-is_first.ensures.listed (c.push_back-is_first.ensures.first ∙ ap (λ m. length (events.list_in c.self.inside.lists.lists m) == 0) c.from-2.ensures) c.enter.ensures).state
    ∙ ap (λ v. arrived_shared v c.args.queue.0 c.args.index) c.self.view_is
