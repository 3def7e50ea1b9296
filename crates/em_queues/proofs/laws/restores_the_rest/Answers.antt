use Rattle.em_queues.proofs.Restoration.{restores}
use Rattle.em_queues.proofs.laws.restores_the_rest.Goals as goal

pub returns : goal.returns
returns c = λ k s q c n m le. restores k s q c n m le
