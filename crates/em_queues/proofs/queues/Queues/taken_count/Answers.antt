use Rattle.std.proofs.Common.{ℕ, List, length, arith, ap, sym, ◌∙◌}
use Rattle.em_queues.specs.Events as events
use Rattle.em_queues.proofs.QueueCalls.{core-there, seen-taken, seen-few}
use Rattle.em_queues.proofs.queues.Queues.taken_count.Goals as goal

pub overflow_cast-result : goal.overflow_cast-result
overflow_cast-result c =
    let few = seen-few c.self.inside.kinds.items c.self.inside.lists c.self.inside.cores.items c.self.invariant c.self.view_is c.args.core.0 in
    let same = c.len.ensures ∙ (ap (λ k. length (events.list_in c.self.inside.lists.lists k)) c.taken_list.ensures ∙ sym (ap (λ (xs : List ℕ). length xs) (seen-taken c.self.inside.kinds.items c.self.inside.lists c.self.inside.cores.items c.self.invariant c.self.view_is c.args.core.0 (core-there c.self.inside.kinds.items c.self.inside.lists c.self.inside.cores.items c.self.invariant c.self.view_is c.args.core.0 c.requires)))) in
    omega arith

pub returns : goal.returns
returns c =
    c.len.ensures ∙ (ap (λ k. length (events.list_in c.self.inside.lists.lists k)) c.taken_list.ensures ∙ sym (ap (λ (xs : List ℕ). length xs) (seen-taken c.self.inside.kinds.items c.self.inside.lists c.self.inside.cores.items c.self.invariant c.self.view_is c.args.core.0 (core-there c.self.inside.kinds.items c.self.inside.lists c.self.inside.cores.items c.self.invariant c.self.view_is c.args.core.0 c.requires))))
