use Rattle.em_operation_parts.proofs.Endings.{end-told}
use Rattle.em_operation_parts.proofs.endings_are_told.Goals as goal

pub returns : goal.returns
returns c = λ k past now core b e is. end-told k past now core b e is
