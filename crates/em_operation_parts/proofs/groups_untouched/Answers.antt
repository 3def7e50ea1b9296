use Rattle.em_operation_parts.proofs.GroupMasks.{groups-untouched}
use Rattle.em_operation_parts.proofs.groups_untouched.Goals as goal

pub returns : goal.returns
returns c = λ past w steps is. groups-untouched past w steps is
