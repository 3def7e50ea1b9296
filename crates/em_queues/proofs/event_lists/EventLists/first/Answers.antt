use Rattle.std.proofs.Common.{arith, sym}
use Rattle.em_queues.proofs.SeenEvents.{seen-event}
use Rattle.em_queues.proofs.event_lists.EventLists.first.Goals as goal

pub returns-else-ends-eq0 : goal.returns-else-ends-eq0
returns-else-ends-eq0 c = sym (seen-event c.self.invariant c.self.view_is c.args.list c.requires c.index-ends.result.now c.index-ends.ensures 0 (omega arith))
