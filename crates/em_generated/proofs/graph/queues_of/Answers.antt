use Rattle.std.proofs.Common.{[]}
use Rattle.em_generated.specs.Graph.{queue_of}
use Rattle.em_generated.proofs.Numbers.{one-more}
use Rattle.em_generated.proofs.graph.queues_of.Goals as goal

pub loop-i-preserved : goal.loop-i-preserved
loop-i-preserved c = one-more queue_of [] c.loop-i.queues c.push.new.self c.queue_of.result c.loop-i.i c.in_ok-push.ensures.ok c.loop-i.invariant c.queue_of.ensures
