use Rattle.em_cores.proofs.Others.{others-same}
use Rattle.em_cores.proofs.others_stay.Goals as goal

pub returns : goal.returns
returns c = λ k l past d es small all others. others-same k l d es past small all others
