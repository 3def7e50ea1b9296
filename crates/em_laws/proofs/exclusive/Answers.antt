use Rattle.em_laws.proofs.Holders.{exclusive}
use Rattle.em_laws.proofs.exclusive.Goals as goal

pub returns : goal.returns
returns c = λ k l past lawful. exclusive k l past lawful.each
