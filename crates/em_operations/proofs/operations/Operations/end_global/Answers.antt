use Rattle.em_acks.specs.declared.job.Phase.{Phase}
use Rattle.em_operations.proofs.OwedSteps.{can-end}
use Rattle.em_operations.proofs.operations.Operations.end_global.Goals as goal

pub global-requires-clause-owed : goal.global-requires-clause-owed
global-requires-clause-owed c = can-end c.args.self.now c.args.core.0 c.args.op.0 Phase.Global c.requires
