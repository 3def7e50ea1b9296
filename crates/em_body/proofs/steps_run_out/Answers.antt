use Rattle.em_body.proofs.StepsLeft.{steps-bounded, steps-fall}
use Rattle.em_body.proofs.steps_run_out.Goals as goal

pub returns-clause-bounded : goal.returns-clause-bounded
returns-clause-bounded c = steps-bounded

pub returns-clause-fall : goal.returns-clause-fall
returns-clause-fall c = steps-fall
