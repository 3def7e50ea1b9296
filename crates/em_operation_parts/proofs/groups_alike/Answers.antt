use Rattle.em_operation_parts.proofs.GroupMasks.{groups-alike}
use Rattle.em_operation_parts.proofs.groups_alike.Goals as goal

pub returns : goal.returns
returns c = λ k l past all. groups-alike k l past all
