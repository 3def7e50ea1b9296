use Rattle.std.proofs.Common.{◌≡◌, None}
use Rattle.em_body.specs.Standings.{unanswered}
use Rattle.body_bench.proofs.moves.boot.Given as goal

abbrev pub invariant-loop-moves : goal.invariant-loop-moves
invariant-loop-moves l = unanswered l.run.standing ≡ None
