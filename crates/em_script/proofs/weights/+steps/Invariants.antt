use Rattle.std.proofs.Common.{◌≡◌, take, min}
use Rattle.em_log.specs.Weights.{steps_of}
use Rattle.em_script.proofs.weights.+steps.Given as goal

abbrev pub invariant-steps_of-loop-statement : goal.invariant-steps_of-loop-statement
invariant-steps_of-loop-statement l = l.total ≡ min (steps_of l.error (take l.statement-index l.block)) 65537
