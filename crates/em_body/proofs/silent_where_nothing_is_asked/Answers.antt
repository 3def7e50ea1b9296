use Rattle.em_body.proofs.SilentMoves.{silent}
use Rattle.em_body.proofs.silent_where_nothing_is_asked.Goals as goal

pub returns : goal.returns
returns c = silent
