use Rattle.em_laws.proofs.Faults.{fault-refuses}
use Rattle.em_laws.proofs.expected.fault_changes_nothing.Goals as goal

pub returns : goal.returns
returns c = fault-refuses
