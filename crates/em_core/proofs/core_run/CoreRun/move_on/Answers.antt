use Rattle.std.proofs.Common.{refl}
use Rattle.em_core.specs.Steps.{Ended}
use Rattle.em_core.proofs.Replies.{open-free}
use Rattle.em_core.proofs.Standing.{stands-silent, stands-asked, stands-ending}
use Rattle.em_core.proofs.core_run.CoreRun.move_on.Goals as goal

pub returns-in-Silent-clause-stands : goal.returns-in-Silent-clause-stands
returns-in-Silent-clause-stands g c d f m stands =
    let k = g.W.Work in
    let run = c.args.self.now in
    let now = c.next.new.self in
    let at = open-free (k.unanswered (k.state run.work)) run.stage c.requires.open c.requires.unreplied in
    let moves = rw c.in-Silent.is at c.next.ensures.moves in
    let none = g.met.W.Work.moves_asked _ _ _ _ moves in
    stands-silent k run now d f m at.words at.answered none c.next.ensures.fixed moves at.is stands

pub returns-in-Ask-clause-stands : goal.returns-in-Ask-clause-stands
returns-in-Ask-clause-stands g c d f m stands =
    let k = g.W.Work in
    let run = c.args.self.now in
    let now = c.next.new.self in
    let at = open-free (k.unanswered (k.state run.work)) run.stage c.requires.open c.requires.unreplied in
    let moves = rw c.in-Ask.is at c.next.ensures.moves in
    let asks = g.met.W.Work.moves_asked _ _ _ _ moves in
    let mid = g.met.W.Work.moves_no_end _ _ _ _ moves in
    let count = c.words_in.ensures in
    rw count (stands-asked k run now d f m at.words c.in-Ask.ask asks mid c.next.ensures.fixed moves at.is stands)

pub returns-in-End-clause-steps : goal.returns-in-End-clause-steps
returns-in-End-clause-steps g c =
    let moves = rw c.in-End.is at c.next.ensures.moves in
    (c.requires.open, Ended c.cells-cells.result refl moves c.cells-cells.ensures)

pub returns-in-End-clause-stands : goal.returns-in-End-clause-stands
returns-in-End-clause-stands g c d f m stands =
    let k = g.W.Work in
    let run = c.args.self.now in
    let now = c.next.new.self in
    let at = open-free (k.unanswered (k.state run.work)) run.stage c.requires.open c.requires.unreplied in
    let moves = rw c.in-End.is at c.next.ensures.moves in
    stands-ending k run now d f m at.words c.cells-cells.result at.answered c.next.ensures.fixed c.cells-cells.ensures moves at.is stands
