use Rattle.std.proofs.Common.{[]}
use Rattle.em_generated.specs.Graph.{object_of}
use Rattle.em_generated.proofs.Numbers.{one-more}
use Rattle.em_generated.proofs.graph.objects_of.Goals as goal

pub loop-i-preserved : goal.loop-i-preserved
loop-i-preserved c = one-more (object_of c.args.n) [] c.loop-i.eos c.push.new.self c.in_ok-object_of.field-0 c.loop-i.i c.in_ok-push.ensures.ok c.loop-i.invariant c.in_ok-object_of.ensures
