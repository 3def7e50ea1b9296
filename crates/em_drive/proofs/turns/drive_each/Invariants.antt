use Rattle.em_drive.specs.declared.workers.Ends.{Ends}
use Rattle.em_drive.specs.Parallel.{CanRun, HaveRun}
use Rattle.em_drive.proofs.turns.drive_each.Given as goal

abbrev pub invariant-loop-worker : goal.invariant-loop-worker
invariant-loop-worker g l = record {
  can : CanRun g.W.Work l.plan l.board l.workers.items l.ends;
  run : (now : Ends) → HaveRun g.W.Work l.plan l.board l.workers.items l.ends now → HaveRun g.W.Work l.plan l.board l.fn.workers.items l.fn.ends now;
}

abbrev pub decreases-loop-worker : goal.decreases-loop-worker
decreases-loop-worker g l = goal.left-loop-worker g l
