use Rattle.em_places.proofs.Parked.{parked-sit}
use Rattle.em_places.proofs.parked_sit.Goals as goal

pub returns : goal.returns
returns c = λ k l past small all. parked-sit k l past small all
