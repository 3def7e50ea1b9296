use Rattle.em_body.specs.Kept.{standing_of}
use Rattle.em_body.proofs.SoundRuns.{left-sound}
use Rattle.em_body.proofs.run.BodyRunWork.answer.Goals as goal

pub invariant_of-self : goal.invariant_of-self
invariant_of-self c =
    rw c.answered.ensures
    (left-sound c.self.inside.config.now (standing_of c.self.inside.standing).asking c.args.answer.now (standing_of c.self.inside.standing) c.self.invariant)
