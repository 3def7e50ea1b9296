use Rattle.em_body.proofs.SoundRuns.{begun-sound}
use Rattle.em_body.proofs.run.BodyRunWork.begin.Goals as goal

pub invariant_of-self : goal.invariant_of-self
invariant_of-self c =
    rw (c.begin.ensures, c.opening-environment.ensures, c.body_of-body.ensures, c.error_body_of-error.ensures)
    (begun-sound (record { graph = c.self.inside.config.now; core = c.self.inside.core.0 }) c.self.invariant.graph c.args.context.now)
