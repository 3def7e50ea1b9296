use Rattle.std.proofs.Common.{◌≤◌, ap, arith, sym, subst, ◌∙◌}
use Rattle.em_drive.proofs.WorkedRuns.{AreLeft, all-left, left-last, left-next}
use Rattle.em_drive.proofs.parallel.workers.Goals as goal

pub loop-work-init : goal.loop-work-init
loop-work-init g c =
    let few : c.args.plan.now.config.value.cores ≤ 8 = c.requires.plan.well_formed.few.cores.1 in
    let capacity = c.in-Ok.ensures.capacity in
    let eight = c.from.ensures in
    record {
      left = subst (λ ws. AreLeft g.W.Work c.args.plan.now c.args.board.now c.args.works.items c.args.passes ws) (sym c.in-Ok.ensures.items)
          (all-left g.W.Work c.args.plan.now c.args.board.now c.args.works.items c.args.passes c.requires.plan (ap (λ v. v.items) c.requires.works) c.requires.passes);
      room = omega (arith, few, capacity, eight);
    }

pub unreachable-requires : goal.unreachable-requires
unreachable-requires g c =
    left-last g.W.Work c.args.plan.now c.args.board.now c.pop.new.self.items c.in-Some.work c.loop-work.passes c.loop-work.workers.items
    (subst (λ xs. AreLeft g.W.Work c.args.plan.now c.args.board.now xs c.loop-work.passes c.loop-work.workers.items) c.in-Some.ensures.items c.loop-work.invariant.left)
    c.in_default-pop-2.ensures.some

pub loop-work-preserved : goal.loop-work-preserved
loop-work-preserved g c =
    let capacity = c.push_reserved.ensures.capacity in
    let room = c.loop-work.invariant.room in
    record {
      left = subst (λ ws. AreLeft g.W.Work c.args.plan.now c.args.board.now c.pop.new.self.items c.pop-in-Some.new.self ws) (sym c.push_reserved.ensures.items)
          (left-next g.W.Work c.args.plan.now c.args.board.now c.pop.new.self.items c.in-Some.work c.loop-work.passes c.loop-work.workers.items
          (subst (λ xs. AreLeft g.W.Work c.args.plan.now c.args.board.now xs c.loop-work.passes c.loop-work.workers.items) c.in-Some.ensures.items c.loop-work.invariant.left)
          c.pop-in-Some.new.self _ c.requires.plan c.in-Some-pop.ensures.list (c.len.ensures ∙ c.pop.new.self.ok.0) c.new.ensures.stands c.new.ensures.unreplied c.new.ensures.over);
      room = omega (arith, capacity, room);
    }
