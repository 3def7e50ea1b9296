use Rattle.std.proofs.Common.{ap, arith, sym, subst, ◌∙◌}
use Rattle.em_drive.specs.Parallel.{IsAtWork, IsCame}
use Rattle.em_drive.proofs.WorkerLists.{aside-can, aside-run, here-can, here-room, others-can, settled-room, settled-run, thread-at_work}
use Rattle.em_drive.proofs.starts.+drive_in_threads+fn-drive_in_threads-scope.Goals as goal

pub scope-spawn_with-started-requires-clause-runs : goal.scope-spawn_with-started-requires-clause-runs
scope-spawn_with-started-requires-clause-runs g t c κs within =
    thread-at_work g.W.Work c.captures.plan.now c.captures.board.now c.captures.workers.items c.captures.here.items c.captures.worker c.captures.ends c.requires.2

pub scope-drive_in_threads-ends-requires-clause-can : goal.scope-drive_in_threads-ends-requires-clause-can
scope-drive_in_threads-ends-requires-clause-can g t c κs within =
    others-can g.W.Work c.captures.plan.now c.captures.board.now c.captures.workers.items c.captures.here.items c.captures.worker c.captures.ends c.requires.2

pub scope-settle-requires : goal.scope-settle-requires
scope-settle-requires g t c =
    record {
      came = (
        c.captures.worker.core.0,
        subst (λ b. IsCame g.W.Work c.captures.plan.now b c.captures.worker.core.0 c.join.result) (ap (λ p. p.board.value) c.in-Ok.ensures.ok ∙ c.of-2.ensures)
            (subst (λ q. IsCame g.W.Work q c.in-Ok.child.promise.board.value c.captures.worker.core.0 c.join.result) (ap (λ p. p.plan.value) c.in-Ok.ensures.ok ∙ c.of.ensures)
            (subst (λ n. IsCame g.W.Work c.in-Ok.child.promise.plan.value c.in-Ok.child.promise.board.value n c.join.result) (ap (λ p. p.core.0) c.in-Ok.ensures.ok)
            c.join.ensures)),
      );
      room = settled-room g.W.Work c.captures.plan.now c.captures.board.now c.captures.workers.items c.captures.here.items c.captures.worker c.captures.ends c.requires.2
          c.drive_in_threads-ends.result c.drive_in_threads-ends.ensures;
    }

pub scope-call-came-requires : goal.scope-call-came-requires
scope-call-came-requires g t c =
    subst (λ v. IsAtWork g.W.Work v.2.now v.1.now v.3) (sym c.in-Err.ensures.err)
    (thread-at_work g.W.Work c.captures.plan.now c.captures.board.now c.captures.workers.items c.captures.here.items c.captures.worker c.captures.ends c.requires.2)

pub scope-set_aside-requires : goal.scope-set_aside-requires
scope-set_aside-requires g t c =
    let room = here-room g.W.Work c.captures.plan.now c.captures.board.now c.captures.workers.items c.captures.here.items c.captures.worker c.captures.ends c.requires.2 in
    let count = c.captures.here.ok.0 in
    record {
      came = (
        c.captures.worker.core.0,
        subst (λ v. IsCame g.W.Work v.2.now v.1.now v.3.core.0 c.call-came.result) c.in-Err.ensures.err c.call-came.ensures,
      );
      can = here-can g.W.Work c.captures.plan.now c.captures.board.now c.captures.workers.items c.captures.here.items c.captures.worker c.captures.ends c.requires.2;
      room = room;
      space = omega (arith, room, count, c.requires.3);
    }

pub scope-drive_in_threads-requires-clause-can : goal.scope-drive_in_threads-requires-clause-can
scope-drive_in_threads-requires-clause-can g t c κs within =
    aside-can g.W.Work c.captures.plan.now c.captures.board.now c.captures.workers.items c.captures.here.items c.captures.worker c.captures.ends c.requires.2
    c.set_aside.new.here.items c.set_aside.new.ends
    (c.set_aside.ensures.aside c.captures.worker.core.0
    (subst (λ v. IsCame g.W.Work v.2.now v.1.now v.3.core.0 c.call-came.result) c.in-Err.ensures.err c.call-came.ensures))

pub scope-returns-in-Ok : goal.scope-returns-in-Ok
scope-returns-in-Ok g t c =
    settled-run g.W.Work c.captures.plan.now c.captures.board.now c.captures.workers.items c.captures.here.items c.captures.worker c.captures.ends c.requires.2
    c.drive_in_threads-ends.result c.settle.new.ends c.drive_in_threads-ends.ensures
    (c.settle.ensures c.captures.worker.core.0
    (subst (λ b. IsCame g.W.Work c.captures.plan.now b c.captures.worker.core.0 c.join.result) (ap (λ p. p.board.value) c.in-Ok.ensures.ok ∙ c.of-2.ensures)
    (subst (λ q. IsCame g.W.Work q c.in-Ok.child.promise.board.value c.captures.worker.core.0 c.join.result) (ap (λ p. p.plan.value) c.in-Ok.ensures.ok ∙ c.of.ensures)
    (subst (λ n. IsCame g.W.Work c.in-Ok.child.promise.plan.value c.in-Ok.child.promise.board.value n c.join.result) (ap (λ p. p.core.0) c.in-Ok.ensures.ok)
    c.join.ensures))))

pub scope-returns-in-Err : goal.scope-returns-in-Err
scope-returns-in-Err g t c =
    aside-run g.W.Work c.captures.plan.now c.captures.board.now c.captures.workers.items c.captures.here.items c.captures.worker c.captures.ends c.requires.2
    c.set_aside.new.here.items c.set_aside.new.ends c.drive_in_threads.result
    (c.set_aside.ensures.aside c.captures.worker.core.0
    (subst (λ v. IsCame g.W.Work v.2.now v.1.now v.3.core.0 c.call-came.result) c.in-Err.ensures.err c.call-came.ensures))
    c.drive_in_threads.ensures
