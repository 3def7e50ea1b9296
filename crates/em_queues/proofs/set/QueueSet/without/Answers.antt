use Rattle.std.proofs.Common.{arith}
use Rattle.em_queues.proofs.SetUnions.{in-difference}
use Rattle.em_queues.proofs.set.QueueSet.without.Goals as goal

pub returns : goal.returns
returns c = in-difference c.args.self.now c.args.other.now (omega arith) (omega arith) (omega arith) (omega arith) (omega arith) (omega arith)
