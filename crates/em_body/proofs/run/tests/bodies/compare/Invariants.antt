use Rattle.std.proofs.Common.{◌≡◌, None}
use Rattle.em_body.specs.Standings.{unanswered}
use Rattle.em_body.proofs.run.tests.bodies.compare.Given as goal

abbrev pub invariant-loop-want : goal.invariant-loop-want
invariant-loop-want g l = unanswered l.run.standing ≡ None
