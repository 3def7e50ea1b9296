use Rattle.em_laws.proofs.Events.{each-once}
use Rattle.em_laws.proofs.once.Goals as goal

pub returns : goal.returns
returns c = λ k l past lawful. each-once k l past lawful.each
