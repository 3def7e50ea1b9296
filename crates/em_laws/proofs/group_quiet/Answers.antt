use Rattle.em_laws.proofs.Changed.{group-quiet}
use Rattle.em_laws.proofs.group_quiet.Goals as goal

pub returns : goal.returns
returns c = λ k l past lawful. group-quiet k l past lawful.each
