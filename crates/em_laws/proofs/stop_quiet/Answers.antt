use Rattle.em_laws.proofs.Stopped.{stop-quiet}
use Rattle.em_laws.proofs.stop_quiet.Goals as goal

pub returns : goal.returns
returns c = λ k l past lawful. stop-quiet k l past lawful.each
