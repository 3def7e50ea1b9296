use Rattle.em_drive.specs.declared.workers.Ends.{Ends}
use Rattle.em_drive.specs.Parallel.{CanRun, HaveRun}
use Rattle.em_drive.proofs.turns.drive_in_turns.Given as goal

abbrev pub invariant-loop : goal.invariant-loop
invariant-loop g l = record {
  can : CanRun g.W.Work l.plan l.board l.workers.items l.ends;
  run : (now : Ends) → HaveRun g.W.Work l.plan l.board l.workers.items l.ends now → HaveRun g.W.Work l.plan l.board l.fn.workers.items l.fn.ends now;
}
