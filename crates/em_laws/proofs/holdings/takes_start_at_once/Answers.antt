use Rattle.em_laws.proofs.Single.{nothing-taken}
use Rattle.em_laws.proofs.holdings.takes_start_at_once.Goals as goal

pub returns : goal.returns
returns c = nothing-taken
