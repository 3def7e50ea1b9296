use Rattle.em_core.proofs.Standing.{stands-opened}
use Rattle.em_core.proofs.core_run.CoreRun.open.Goals as goal

pub returns-clause-stands : goal.returns-clause-stands
returns-clause-stands g c d f m stands =
    let k = g.W.Work in
    let now = c.begin.new.self in
    let none = g.met.W.Work.begins_unasked _ _ _ c.begin.ensures.begins in
    let opened = stands-opened k c.args.self.now now d f m c.args.context.now none c.begin.ensures.fixed c.begin.ensures.begins
    c.requires.no_rest c.opening_handles-self.ensures.words stands in
    let count = c.opening_handles-self.ensures.count in
    rw count opened
