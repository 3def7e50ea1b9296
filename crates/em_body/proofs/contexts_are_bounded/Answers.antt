use Rattle.em_body.proofs.Bounds.{bounded}
use Rattle.em_body.proofs.contexts_are_bounded.Goals as goal

pub returns : goal.returns
returns c = bounded
