use Rattle.em_bounds.proofs.Pending.{is-owed}
use Rattle.em_bounds.proofs.pending_is_owed.Goals as goal

pub returns : goal.returns
returns c = λ k l past some lawful. is-owed k l past some lawful
