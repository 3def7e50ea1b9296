use Rattle.std.proofs.Common.{arith}
use Rattle.em_log.specs.Handles.{held}
use Rattle.em_core.specs.Pieces.{history}
use Rattle.em_core.proofs.Handles.{distinct-few}
use Rattle.em_core.proofs.Replies.{few-words}
use Rattle.em_core.proofs.Standing.{at-open, stands-answered}
use Rattle.em_core.proofs.core_run.CoreRun.answered.Goals as goal

pub held_after-self-requires-clause-minted : goal.held_after-self-requires-clause-minted
held_after-self-requires-clause-minted g c minted =
    let holds = c.requires.handles in
    let counted = holds.stands.held in
    let few = distinct-few (held (history holds.core holds.pieces) holds.core) counted.distinct counted.words in
    omega (arith, few, counted.count)

pub held_after-self-requires-clause-done : goal.held_after-self-requires-clause-done
held_after-self-requires-clause-done g c done =
    let k = g.W.Work in
    let run = c.args.self.now in
    let holds = c.requires.handles in
    let at = at-open k run holds.core holds.fixed holds.pieces c.args.words c.requires.stage holds.stands in
    few-words (k.unanswered (k.state run.work)) run.stage run.held c.args.words c.args.answer.now
    (held (history holds.core holds.pieces) holds.core) done c.requires.stage holds.stands.held at.words holds.handles

pub returns-clause-stands : goal.returns-clause-stands
returns-clause-stands g c d f m n a asks stands handles grows =
    let k = g.W.Work in
    let none = g.met.W.Work.leaves_unasked _ _ _ _ c.answer.ensures.leaves in
    let answered = stands-answered k c.args.self.now c.answer.new.self d f m n c.args.words a c.args.answer.now c.requires.stage asks
    c.requires.fits none c.answer.ensures.fixed c.answer.ensures.leaves handles c.held_after-self.ensures.words grows stands in
    let count = c.held_after-self.ensures.count in
    rw count answered
