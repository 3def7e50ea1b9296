use Rattle.em_laws.proofs.Fresh.{minted-once}
use Rattle.em_laws.proofs.expected.minted_once.Goals as goal

pub returns : goal.returns
returns c = λ k l past small lawful. minted-once k l past small lawful.each
