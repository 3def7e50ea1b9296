use Rattle.std.proofs.Common.{sym, subst, ◌∙◌}
use Rattle.em_board.specs.Calls.{IsTaken}
use Rattle.em_drive.specs.Driven.{IsAfterTurn}
use Rattle.em_drive.proofs.WorkTakes.{after-taken, halted-marked, pass-untaken, taken-rest}
use Rattle.em_drive.proofs.driver.take.Goals as goal

pub take_brief-requires-clause-untaken : goal.take_brief-requires-clause-untaken
take_brief-requires-clause-untaken g c =
    let d = c.requires.driven in pass-untaken g.W.Work d.0 d.1 d.2 c.args.pass.now c.args.run.now d.3

pub told-requires-clause-no_rest : goal.told-requires-clause-no_rest
told-requires-clause-no_rest g c =
    let d = c.requires.driven in
    taken-rest g.W.Work d.0 d.1 d.2 c.args.pass.now c.args.run.now d.3 c.take_brief.new.pass c.last-reply.result.now
    (subst (IsTaken c.args.pass.now c.take_brief.new.pass) (sym (c.last-reply.ensures ∙ c.put.ensures)) c.in-Ok.ensures.ok)

pub returns-in_default-clause-after : goal.returns-in_default-clause-after
returns-in_default-clause-after g c f h l d = halted-marked c.take_brief.new.pass c.halt.new.pass c.halt.ensures

pub returns-clause-after : goal.returns-clause-after
returns-clause-after g c f h l d =
    subst (IsAfterTurn g.W.Work f h l c.take_brief.new.pass c.told.new.self) (sym c.comes_to.ensures)
    (after-taken g.W.Work f h l c.args.pass.now c.args.run.now d c.take_brief.new.pass c.last-reply.result.now
    (subst (IsTaken c.args.pass.now c.take_brief.new.pass) (sym (c.last-reply.ensures ∙ c.put.ensures)) c.in-Ok.ensures.ok) c.told.new.self
    (c.told.ensures.stands) c.told.ensures.unreplied c.told.ensures.over)
