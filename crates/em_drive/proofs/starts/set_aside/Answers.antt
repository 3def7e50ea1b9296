use Rattle.em_drive.proofs.WorkerLists.{aside-ended, aside-untouched, ended-core, untouched-core}
use Rattle.em_drive.proofs.starts.set_aside.Goals as goal

pub returns-in-Ended-clause-aside : goal.returns-in-Ended-clause-aside
returns-in-Ended-clause-aside g c n came =
    let k = g.W.Work in
    let plan = c.args.plan.now in
    let board = c.args.board.now in
    let e = ended-core k plan board n c.in-Ended.pass c.in-Ended.end c.args.came c.in-Ended.is came in
    aside-ended k plan board n c.in-Ended.pass c.args.here.now.items c.args.ends.now c.add.new.self e.0 c.add.ensures.passes c.add.ensures.over c.requires.room c.requires.can

pub returns-in-Untouched-clause-aside : goal.returns-in-Untouched-clause-aside
returns-in-Untouched-clause-aside g c n came =
    let k = g.W.Work in
    let plan = c.args.plan.now in
    let board = c.args.board.now in
    let w = untouched-core k plan board n c.in-Untouched.worker c.args.came c.in-Untouched.is came in
    aside-untouched k plan board n c.in-Untouched.worker c.args.here.now.items c.push_reserved.new.self.items c.args.ends.now w.0 w.1 c.push_reserved.ensures.items c.requires.room c.requires.can
