use Rattle.std.proofs.Common.{ℕ, List, length, ap, sym, ◌∙◌}
use Rattle.em_queues.specs.Events as events
use Rattle.em_queues.specs.State.{items_by}
use Rattle.em_queues.proofs.QueueCalls.{queue-there, core-there, seen-shared, seen-local}
use Rattle.em_queues.proofs.queues.Queues.count.Goals as goal

pub returns-then-is_local : goal.returns-then-is_local
returns-then-is_local c =
    c.from.ensures
    ∙ (c.len.ensures
    ∙ (ap (λ k. length (events.list_in c.self.inside.lists.lists k)) c.local_list.ensures
    ∙ (sym (ap (λ (xs : List ℕ). length xs) (seen-local c.self.inside.kinds.items c.self.inside.lists c.self.inside.cores.items c.self.invariant c.self.view_is c.args.core.0 (core-there c.self.inside.kinds.items c.self.inside.lists c.self.inside.cores.items c.self.invariant c.self.view_is c.args.core.0 c.requires.core) c.args.queue.0 (queue-there c.self.inside.kinds.items c.self.inside.lists c.self.inside.cores.items c.self.invariant c.self.view_is c.args.queue.0 c.requires.queue)))
    ∙ sym (ap (λ b. length (items_by b c.args.self.now c.args.queue.0 c.args.core.0)) (sym c.is_local.ensures.value ∙ c.if-is_local.true)))))

pub returns-else-is_local : goal.returns-else-is_local
returns-else-is_local c =
    c.from-else-is_local-2.ensures
    ∙ (c.len-else-is_local.ensures
    ∙ (ap (λ k. length (events.list_in c.self.inside.lists.lists k)) c.from-else-is_local.ensures
    ∙ (sym (ap (λ (xs : List ℕ). length xs) (seen-shared c.self.inside.kinds.items c.self.inside.lists c.self.inside.cores.items c.self.invariant c.self.view_is c.args.queue.0 (queue-there c.self.inside.kinds.items c.self.inside.lists c.self.inside.cores.items c.self.invariant c.self.view_is c.args.queue.0 c.requires.queue)))
    ∙ sym (ap (λ b. length (items_by b c.args.self.now c.args.queue.0 c.args.core.0)) (sym c.is_local.ensures.value ∙ c.if-is_local.false)))))
