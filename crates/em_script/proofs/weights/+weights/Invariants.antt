use Rattle.std.proofs.Common.{◌≡◌, take, min}
use Rattle.em_log.specs.Weights.{weight_of}
use Rattle.em_script.proofs.weights.+weights.Given as goal

abbrev pub invariant-weight_of-loop-statement : goal.invariant-weight_of-loop-statement
invariant-weight_of-loop-statement l = l.total ≡ min (weight_of l.error (take l.statement-index l.block)) 257
