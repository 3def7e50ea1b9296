use Rattle.std.proofs.Common.{◌≤◌, vec_capacity}
use Rattle.em_drive.proofs.WorkedRuns.{AreLeft}
use Rattle.em_drive.proofs.parallel.workers.Given as goal

abbrev pub invariant-loop-work : goal.invariant-loop-work
invariant-loop-work g l = record {
  left : AreLeft g.W.Work l.plan l.board l.works.items l.passes l.workers.items;
  room : l.plan.config.value.cores ≤ vec_capacity l.workers;
}

abbrev pub decreases-loop-work : goal.decreases-loop-work
decreases-loop-work g l = goal.left-loop-work g l
