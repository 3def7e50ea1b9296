use Rattle.em_queues.proofs.SeenEvents.{seen-count}
use Rattle.em_queues.proofs.event_lists.EventLists.len.Goals as goal

pub returns : goal.returns
returns c = seen-count c.self.invariant c.self.view_is c.args.list c.requires c.index.result.now c.index.ensures
