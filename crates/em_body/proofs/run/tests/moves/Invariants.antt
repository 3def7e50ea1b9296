use Rattle.std.proofs.Common.{◌≡◌, None}
use Rattle.em_body.specs.Standings.{unanswered}
use Rattle.em_body.proofs.run.tests.moves.Given as goal

abbrev pub invariant-loop-i : goal.invariant-loop-i
invariant-loop-i g l = unanswered l.run.standing ≡ None
