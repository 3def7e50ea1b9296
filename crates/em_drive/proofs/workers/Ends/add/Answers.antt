use Rattle.std.proofs.Common.{sym, subst, ◌∙◌}
use Rattle.em_drive.specs.Parallel.{AreOver}
use Rattle.em_drive.proofs.WorkerLists.{more-over}
use Rattle.em_drive.proofs.workers.Ends.add.Goals as goal

pub returns-clause-over : goal.returns-clause-over
returns-clause-over g c all is =
    subst (AreOver g.W.Work c.args.plan.now c.args.board.now) (sym c.push.ensures)
    (more-over g.W.Work c.args.plan.now c.args.board.now c.args.self.now.over c.args.self.now.passes c.args.pass c.args.end c.requires.ended all (sym c.over_after-self.ensures ∙ is))
