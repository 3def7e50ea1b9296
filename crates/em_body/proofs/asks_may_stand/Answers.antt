use Rattle.em_body.proofs.AsksStand.{asks-stand}
use Rattle.em_body.proofs.asks_may_stand.Goals as goal

pub returns : goal.returns
returns c = asks-stand
