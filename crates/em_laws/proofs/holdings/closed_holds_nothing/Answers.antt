use Rattle.em_laws.proofs.Usable.{closed-held}
use Rattle.em_laws.proofs.holdings.closed_holds_nothing.Goals as goal

pub returns : goal.returns
returns c = closed-held
