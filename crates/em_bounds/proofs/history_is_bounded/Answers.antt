use Rattle.em_bounds.proofs.Bound.{history-bounded}
use Rattle.em_bounds.proofs.history_is_bounded.Goals as goal

pub returns : goal.returns
returns c = λ k l past burst lawful afforded. history-bounded k l past burst lawful afforded
