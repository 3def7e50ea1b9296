use Rattle.em_bounds.proofs.Paid.{is-paid}
use Rattle.em_bounds.proofs.paid_for.Goals as goal

pub returns : goal.returns
returns c = λ k l past all. is-paid k l past all
