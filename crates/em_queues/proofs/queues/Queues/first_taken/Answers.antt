use Rattle.std.proofs.Common.{ap, sym, ◌∙◌}
use Rattle.std.specs.Prelude.{slice_get}
use Rattle.em_queues.specs.Events as events
use Rattle.em_queues.proofs.QueueCalls.{core-there, seen-taken}
use Rattle.em_queues.proofs.queues.Queues.first_taken.Goals as goal

pub returns : goal.returns
returns c =
    c.first.ensures
    ∙ (ap (λ k. slice_get (events.list_in c.self.inside.lists.lists k) 0) c.taken_list.ensures ∙ ap (λ xs. slice_get xs 0) (sym (seen-taken c.self.inside.kinds.items c.self.inside.lists c.self.inside.cores.items c.self.invariant c.self.view_is c.args.core.0 (core-there c.self.inside.kinds.items c.self.inside.lists c.self.inside.cores.items c.self.invariant c.self.view_is c.args.core.0 c.requires))))
