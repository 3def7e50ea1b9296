use Rattle.std.proofs.Common.{sym, subst}
use Rattle.em_drive.specs.Parallel.{CanRun, HaveRun}
use Rattle.em_drive.proofs.WorkerLists.{last-at_work, last-can, last-run}
use Rattle.em_drive.proofs.turns.drive_each.Goals as goal

pub drive-pass-requires : goal.drive-pass-requires
drive-pass-requires g c =
    record {
      at_work = last-at_work g.W.Work c.args.plan.now c.args.board.now c.pop.new.self.items c.in-Some.worker c.loop-worker.ends
          (subst (λ ws. CanRun g.W.Work c.args.plan.now c.args.board.now ws c.loop-worker.ends) c.in-Some.ensures.items c.loop-worker.invariant.can);
    }

pub loop-worker-preserved : goal.loop-worker-preserved
loop-worker-preserved g c =
    let k = g.W.Work in
    let plan = c.args.plan.now in
    let board = c.args.board.now in
    let rest = c.pop.new.self.items in
    let w = c.in-Some.worker in
    let cut = c.in-Some.ensures.items in
    record {
      can = last-can k plan board rest w c.loop-worker.ends c.add.new.self _ c.add.ensures.passes c.add.ensures.over
          (subst (λ ws. CanRun k plan board ws c.loop-worker.ends) cut c.loop-worker.invariant.can);
      run = λ now run.
          c.loop-worker.invariant.run now
          (subst (λ ws. HaveRun k plan board ws c.loop-worker.ends now) (sym cut)
          (last-run k plan board rest w c.loop-worker.ends c.add.new.self _ c.add.ensures.passes now c.drive-pass.ensures.core run));
    }
