use Rattle.em_drive.proofs.WorkerLists.{ended-core, settled, untouched-core}
use Rattle.std.proofs.Common.{◌∙◌}
use Rattle.em_drive.proofs.starts.settle.Goals as goal

pub returns-in-Ended : goal.returns-in-Ended
returns-in-Ended g c n came =
    let k = g.W.Work in
    let plan = c.args.plan.now in
    let board = c.args.board.now in
    let e = ended-core k plan board n c.in-Ended.pass c.in-Ended.end c.args.came c.in-Ended.is came in
    settled k plan board n c.in-Ended.pass c.args.ends.now c.add.new.self e.0 c.add.ensures.passes c.add.ensures.over

pub returns-in-Untouched : goal.returns-in-Untouched
returns-in-Untouched g c n came =
    let k = g.W.Work in
    let plan = c.args.plan.now in
    let board = c.args.board.now in
    let w = untouched-core k plan board n c.in-Untouched.worker c.args.came c.in-Untouched.is came in
    settled k plan board n c.drive-pass.result.0 c.args.ends.now c.add-in-Untouched.new.self (c.drive-pass.ensures.core ∙ w.0) c.add-in-Untouched.ensures.passes c.add-in-Untouched.ensures.over
