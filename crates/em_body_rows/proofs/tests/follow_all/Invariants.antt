use Rattle.std.proofs.Common.{◌≡◌, None}
use Rattle.em_body.specs.Standings.{unanswered}
use Rattle.em_body_rows.proofs.tests.follow_all.Given as goal

abbrev pub invariant-loop-row : goal.invariant-loop-row
invariant-loop-row g l = unanswered l.run.standing ≡ None
