use Rattle.std.proofs.Common.{arith}
use Rattle.em_queues.proofs.SetUnions.{in-union}
use Rattle.em_queues.proofs.set.QueueSet.union.Goals as goal

pub returns : goal.returns
returns c = in-union c.args.self.now c.args.other.now (omega arith) (omega arith)
