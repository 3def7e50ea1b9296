use Rattle.em_body.proofs.Reaching.{followed}
use Rattle.em_body.proofs.bodies_are_followed.Goals as goal

pub returns : goal.returns
returns c = followed
