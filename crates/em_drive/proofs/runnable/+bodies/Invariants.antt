use Rattle.std.proofs.Common.{◌≡◌, true, take}
use Rattle.em_body.specs.Everywhere.{everywhere_in}
use Rattle.em_drive.specs.Runnable as runnable
use Rattle.em_drive.proofs.runnable.+bodies.Given as goal

abbrev pub invariant-is_runnable_body-loop-statement : goal.invariant-is_runnable_body-loop-statement
invariant-is_runnable_body-loop-statement l = everywhere_in runnable.is_runnable_statement (take l.statement-index l.body) ≡ true
