use Rattle.em_drive.specs.Runs.{AreNew}
use Rattle.em_drive.proofs.run.new_runs.Given as goal

abbrev pub invariant-loop-core : goal.invariant-loop-core
invariant-loop-core l = AreNew l.config l.core l.runs.items
