use Rattle.std.proofs.Common.{◌≡◌, ◌<◌, ◌==◌, ℕ, List, false, length, get_or, set, drop, Some, ap, sym, ◌∙◌, subst}
use Rattle.std.specs.Prelude.{slice_get}
use Rattle.em_queues.specs.Events as events
use Rattle.em_queues.specs.Changes.{dequeued}
use Rattle.em_queues.proofs.SeenEvents.{slice-some, slice-first}
use Rattle.em_queues.proofs.QueueCalls.{queue-there, kind-there, shared-few, seen-shared, dequeued-left}
use Rattle.em_queues.proofs.queues.Queues.dequeue_first.Goals as goal

pub remove_first-is_last-requires-clause-some : goal.remove_first-is_last-requires-clause-some
remove_first-is_last-requires-clause-some c =
    subst (λ k. 0 < length (events.list_in c.self.inside.lists.lists k)) (sym c.from-2.ensures) (slice-some (events.list_in c.self.inside.lists.lists c.args.queue.0) c.args.index (subst (λ (xs : List ℕ). slice_get xs 0 ≡ Some c.args.index) (seen-shared c.self.inside.kinds.items c.self.inside.lists c.self.inside.cores.items c.self.invariant c.self.view_is c.args.queue.0 (queue-there c.self.inside.kinds.items c.self.inside.lists c.self.inside.cores.items c.self.invariant c.self.view_is c.args.queue.0 c.requires.queue)) c.requires.first))

pub leave-requires-clause-rank : goal.leave-requires-clause-rank
leave-requires-clause-rank c = shared-few c.self.inside.kinds.items c.self.inside.lists c.self.inside.cores.items c.self.invariant c.args.queue.0 (queue-there c.self.inside.kinds.items c.self.inside.lists c.self.inside.cores.items c.self.invariant c.self.view_is c.args.queue.0 c.requires.queue) c.index.result.now (c.index.ensures ∙ ap (λ k. get_or c.self.inside.kinds.items k c.index.result.now) c.from.ensures) (kind-there c.self.inside.kinds.items c.self.inside.lists c.self.inside.cores.items c.self.invariant c.self.view_is c.args.queue.0 false c.index.result.now (queue-there c.self.inside.kinds.items c.self.inside.lists c.self.inside.cores.items c.self.invariant c.self.view_is c.args.queue.0 c.requires.queue) (c.index.ensures ∙ ap (λ k. get_or c.self.inside.kinds.items k c.index.result.now) c.from.ensures) c.requires.shared)

pub invariant_of-self : goal.invariant_of-self
invariant_of-self c =
    (dequeued-left c.self.inside.kinds.items c.self.inside.lists c.self.inside.cores.items c.self.invariant c.args.queue.0 (queue-there c.self.inside.kinds.items c.self.inside.lists c.self.inside.cores.items c.self.invariant c.self.view_is c.args.queue.0 c.requires.queue) c.index.result.now (c.index.ensures ∙ ap (λ k. get_or c.self.inside.kinds.items k c.index.result.now) c.from.ensures) c.args.index c.remove_first-is_last.new.self c.remove_first-is_last.result c.leave.new.self
    (subst (λ i. c.remove_first-is_last.new.self.listed ≡ set c.self.inside.lists.listed i false) (ap (λ k. get_or (events.list_in c.self.inside.lists.lists k) 0 0) c.from-2.ensures ∙ slice-first (events.list_in c.self.inside.lists.lists c.args.queue.0) c.args.index (subst (λ (xs : List ℕ). slice_get xs 0 ≡ Some c.args.index) (seen-shared c.self.inside.kinds.items c.self.inside.lists c.self.inside.cores.items c.self.invariant c.self.view_is c.args.queue.0 (queue-there c.self.inside.kinds.items c.self.inside.lists c.self.inside.cores.items c.self.invariant c.self.view_is c.args.queue.0 c.requires.queue)) c.requires.first)) c.remove_first-is_last.ensures.listed)
    (kind-there c.self.inside.kinds.items c.self.inside.lists c.self.inside.cores.items c.self.invariant c.self.view_is c.args.queue.0 false c.index.result.now (queue-there c.self.inside.kinds.items c.self.inside.lists c.self.inside.cores.items c.self.invariant c.self.view_is c.args.queue.0 c.requires.queue) (c.index.ensures ∙ ap (λ k. get_or c.self.inside.kinds.items k c.index.result.now) c.from.ensures) c.requires.shared) (slice-some (events.list_in c.self.inside.lists.lists c.args.queue.0) c.args.index (subst (λ (xs : List ℕ). slice_get xs 0 ≡ Some c.args.index) (seen-shared c.self.inside.kinds.items c.self.inside.lists c.self.inside.cores.items c.self.invariant c.self.view_is c.args.queue.0 (queue-there c.self.inside.kinds.items c.self.inside.lists c.self.inside.cores.items c.self.invariant c.self.view_is c.args.queue.0 c.requires.queue)) c.requires.first))
    (subst (λ k. c.remove_first-is_last.new.self.lists ≡ set c.self.inside.lists.lists k (drop 1 (events.list_in c.self.inside.lists.lists k))) c.from-2.ensures c.remove_first-is_last.ensures.lists)
    (c.remove_first-is_last.ensures.rest ∙ ap (λ m. length (events.list_in c.self.inside.lists.lists m) == 1) c.from-2.ensures) c.leave.ensures).whole

pub returns : goal.returns
returns c =
    (dequeued-left c.self.inside.kinds.items c.self.inside.lists c.self.inside.cores.items c.self.invariant c.args.queue.0 (queue-there c.self.inside.kinds.items c.self.inside.lists c.self.inside.cores.items c.self.invariant c.self.view_is c.args.queue.0 c.requires.queue) c.index.result.now (c.index.ensures ∙ ap (λ k. get_or c.self.inside.kinds.items k c.index.result.now) c.from.ensures) c.args.index c.remove_first-is_last.new.self c.remove_first-is_last.result c.leave.new.self
    (subst (λ i. c.remove_first-is_last.new.self.listed ≡ set c.self.inside.lists.listed i false) (ap (λ k. get_or (events.list_in c.self.inside.lists.lists k) 0 0) c.from-2.ensures ∙ slice-first (events.list_in c.self.inside.lists.lists c.args.queue.0) c.args.index (subst (λ (xs : List ℕ). slice_get xs 0 ≡ Some c.args.index) (seen-shared c.self.inside.kinds.items c.self.inside.lists c.self.inside.cores.items c.self.invariant c.self.view_is c.args.queue.0 (queue-there c.self.inside.kinds.items c.self.inside.lists c.self.inside.cores.items c.self.invariant c.self.view_is c.args.queue.0 c.requires.queue)) c.requires.first)) c.remove_first-is_last.ensures.listed)
    (kind-there c.self.inside.kinds.items c.self.inside.lists c.self.inside.cores.items c.self.invariant c.self.view_is c.args.queue.0 false c.index.result.now (queue-there c.self.inside.kinds.items c.self.inside.lists c.self.inside.cores.items c.self.invariant c.self.view_is c.args.queue.0 c.requires.queue) (c.index.ensures ∙ ap (λ k. get_or c.self.inside.kinds.items k c.index.result.now) c.from.ensures) c.requires.shared) (slice-some (events.list_in c.self.inside.lists.lists c.args.queue.0) c.args.index (subst (λ (xs : List ℕ). slice_get xs 0 ≡ Some c.args.index) (seen-shared c.self.inside.kinds.items c.self.inside.lists c.self.inside.cores.items c.self.invariant c.self.view_is c.args.queue.0 (queue-there c.self.inside.kinds.items c.self.inside.lists c.self.inside.cores.items c.self.invariant c.self.view_is c.args.queue.0 c.requires.queue)) c.requires.first))
    (subst (λ k. c.remove_first-is_last.new.self.lists ≡ set c.self.inside.lists.lists k (drop 1 (events.list_in c.self.inside.lists.lists k))) c.from-2.ensures c.remove_first-is_last.ensures.lists)
    (c.remove_first-is_last.ensures.rest ∙ ap (λ m. length (events.list_in c.self.inside.lists.lists m) == 1) c.from-2.ensures) c.leave.ensures).state
    ∙ ap (λ v. dequeued v c.args.queue.0 c.args.index) c.self.view_is
