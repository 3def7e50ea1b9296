use Rattle.std.proofs.Common.{◌<◌, length, arith, sym, subst}
use Rattle.em_drive.specs.Parallel.{CanRun, HaveRun, IsAtWork, IsTurned}
use Rattle.em_drive.proofs.WorkerLists.{first-can, first-cut, first-run, turned-can, turned-run}
use Rattle.em_drive.proofs.turns.drive_in_turns.Goals.{in-On, in-Idle, in-Idle-2}
use Rattle.em_drive.proofs.turns.drive_in_turns.Goals as goal

pub turn-turned-requires : goal.turn-turned-requires
turn-turned-requires g c =
    let count = c.loop.workers.ok.0 in
    let many = c.len.ensures in
    let some : 0 < length c.loop.workers.items = omega (arith, count, many, c.if-len-lt2.false) in
    let cut = first-cut c.loop.workers.items c.remove-worker.new.self.items c.remove-worker.result some c.remove-worker.ensures.value c.remove-worker.ensures.items in
    record { at_work = (subst (λ ws. CanRun g.W.Work c.args.plan.now c.args.board.now ws c.loop.ends) cut c.loop.invariant.can).at_work.0 }

pub loop-preserved-in-Ended : goal.loop-preserved-in-Ended
loop-preserved-in-Ended g c =
    let k = g.W.Work in
    let plan = c.args.plan.now in
    let board = c.args.board.now in
    let w = c.remove-worker.result in
    let rest = c.remove-worker.new.self.items in
    let ends = c.loop.ends in
    let count = c.loop.workers.ok.0 in
    let many = c.len.ensures in
    let some : 0 < length c.loop.workers.items = omega (arith, count, many, c.if-len-lt2.false) in
    let cut = first-cut c.loop.workers.items rest w some c.remove-worker.ensures.value c.remove-worker.ensures.items in
    record {
      can = first-can k plan board w rest ends c.add.new.self _ c.add.ensures.passes c.add.ensures.over
          (subst (λ ws. CanRun k plan board ws ends) cut c.loop.invariant.can);
      run = λ now run.
          c.loop.invariant.run now
          (subst (λ ws. HaveRun k plan board ws ends now) (sym cut)
          (first-run k plan board w rest ends c.add.new.self _ c.add.ensures.passes now c.turn-turned.ensures.core.1 run));
    }

pub loop-preserved : goal.loop-preserved
loop-preserved g c =
    let k = g.W.Work in
    let plan = c.args.plan.now in
    let board = c.args.board.now in
    let w = c.remove-worker.result in
    let v = c.turn-turned.new.self in
    let rest = c.remove-worker.new.self.items in
    let ends = c.loop.ends in
    let count = c.loop.workers.ok.0 in
    let many = c.len.ensures in
    let some : 0 < length c.loop.workers.items = omega (arith, count, many, c.if-len-lt2.false) in
    let cut = first-cut c.loop.workers.items rest w some c.remove-worker.ensures.value c.remove-worker.ensures.items in
    let at : IsAtWork k plan board v =
    elim c.match-turned.branch [
      | in-On b ↦ subst (IsTurned k plan board v) b.in-On.is c.turn-turned.ensures.after
      | in-Idle b ↦ subst (IsTurned k plan board v) b.in-Idle.is c.turn-turned.ensures.after
      | in-Idle-2 b ↦ subst (IsTurned k plan board v) b.in-Idle-2.is c.turn-turned.ensures.after
    ] in
    record {
      can = subst (λ ws. CanRun k plan board ws ends) (sym c.push_reserved.ensures.items)
          (turned-can k plan board w v rest ends at (subst (λ ws. CanRun k plan board ws ends) cut c.loop.invariant.can));
      run = λ now run.
          c.loop.invariant.run now
          (subst (λ ws. HaveRun k plan board ws ends now) (sym cut)
          (turned-run k plan board w v rest ends now c.turn-turned.ensures.core.0 (subst (λ ws. HaveRun k plan board ws ends now) c.push_reserved.ensures.items run)));
    }

pub returns-then-len-lt2 : goal.returns-then-len-lt2
returns-then-len-lt2 g c = c.loop.invariant.run c.drive_each.result c.drive_each.ensures
