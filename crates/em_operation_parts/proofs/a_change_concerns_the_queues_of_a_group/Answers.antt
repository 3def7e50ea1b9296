use Rattle.em_operation_parts.proofs.Queues.{change-concerns}
use Rattle.em_operation_parts.proofs.a_change_concerns_the_queues_of_a_group.Goals as goal

pub returns : goal.returns
returns c = λ k steps s core q. change-concerns k steps s core q
