use Rattle.std.proofs.Common.{ap, sym, ◌∙◌}
use Rattle.std.specs.Prelude.{slice_get}
use Rattle.em_queues.specs.Events as events
use Rattle.em_queues.proofs.QueueCalls.{core-there, seen-taken}
use Rattle.em_queues.proofs.queues.Queues.taken_at.Goals as goal

pub returns-clause-value : goal.returns-clause-value
returns-clause-value c =
    c.get.ensures
    ∙ ((λ i. slice_get (events.list_in c.self.inside.lists.lists (c.taken_list.ensures i)) (c.from.ensures i)) ∙ ap (λ xs. slice_get xs c.args.i) (sym (seen-taken c.self.inside.kinds.items c.self.inside.lists c.self.inside.cores.items c.self.invariant c.self.view_is c.args.core.0 (core-there c.self.inside.kinds.items c.self.inside.lists c.self.inside.cores.items c.self.invariant c.self.view_is c.args.core.0 c.requires))))

pub returns-clause-answer : goal.returns-clause-answer
returns-clause-answer c = λ k s stands.
    c.get.ensures
    ∙ ((λ i. slice_get (events.list_in c.self.inside.lists.lists (c.taken_list.ensures i)) (c.from.ensures i)) ∙ ap (λ xs. slice_get xs c.args.i) (sym (seen-taken c.self.inside.kinds.items c.self.inside.lists c.self.inside.cores.items c.self.invariant c.self.view_is c.args.core.0 (core-there c.self.inside.kinds.items c.self.inside.lists c.self.inside.cores.items c.self.invariant c.self.view_is c.args.core.0 c.requires))))
    ∙ ap (λ xs. slice_get xs c.args.i) (stands.taken c.args.core.0)
