use Rattle.em_operation_parts.proofs.Queues.{move-concerns}
use Rattle.em_operation_parts.proofs.a_move_concerns_the_queues_of_an_object.Goals as goal

pub returns : goal.returns
returns c = λ k steps x to q. move-concerns k steps x to q
