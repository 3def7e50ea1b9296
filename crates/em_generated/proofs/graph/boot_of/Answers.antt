use Rattle.std.proofs.Common.{[]}
use Rattle.em_generated.specs.Graph.{begun}
use Rattle.em_generated.proofs.Numbers.{one-more}
use Rattle.em_generated.proofs.graph.boot_of.Goals as goal

pub loop-object-preserved : goal.loop-object-preserved
loop-object-preserved c = one-more begun [] c.loop-object.boot c.push.new.self c.begun.result c.loop-object.object c.in_ok-push.ensures.ok c.loop-object.invariant c.begun.ensures
