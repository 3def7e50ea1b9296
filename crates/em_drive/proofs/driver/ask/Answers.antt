use Rattle.std.proofs.Common.{sym, subst, ◌∙◌}
use Rattle.em_board.specs.Calls.{IsAsked}
use Rattle.em_drive.proofs.WorkAsks.{after-asked, asked-fits, asked-handles, asked-rest, pass-askable}
use Rattle.em_drive.proofs.driver.ask.Goals as goal

pub ask_brief-requires-clause-may_ask : goal.ask_brief-requires-clause-may_ask
ask_brief-requires-clause-may_ask g c =
    let d = c.requires.driven in (pass-askable g.W.Work d.0 d.1 d.2 c.args.pass.now c.args.run.now c.args.ask d.3 c.is_typed.ensures).may_ask

pub ask_brief-requires-clause-allowance : goal.ask_brief-requires-clause-allowance
ask_brief-requires-clause-allowance g c =
    let d = c.requires.driven in (pass-askable g.W.Work d.0 d.1 d.2 c.args.pass.now c.args.run.now c.args.ask d.3 c.is_typed.ensures).allowance

pub ask_brief-requires-clause-served : goal.ask_brief-requires-clause-served
ask_brief-requires-clause-served g c =
    let d = c.requires.driven in (pass-askable g.W.Work d.0 d.1 d.2 c.args.pass.now c.args.run.now c.args.ask d.3 c.is_typed.ensures).served

pub told-requires-clause-fits : goal.told-requires-clause-fits
told-requires-clause-fits g c =
    let d = c.requires.driven in asked-fits g.W.Work d.0 d.1 d.2 c.args.pass.now c.args.run.now c.args.ask d.3 c.ask_brief.new.pass c.last.result.now
    (subst (λ r. IsAsked c.args.pass.now c.ask_brief.new.pass c.args.ask r) (sym (c.last.ensures ∙ c.put.ensures)) c.ask_brief.ensures)

pub told-requires-clause-no_rest : goal.told-requires-clause-no_rest
told-requires-clause-no_rest g c =
    let d = c.requires.driven in asked-rest g.W.Work d.0 d.1 d.2 c.args.pass.now c.args.run.now c.args.ask d.3 c.ask_brief.new.pass c.last.result.now
    (subst (λ r. IsAsked c.args.pass.now c.ask_brief.new.pass c.args.ask r) (sym (c.last.ensures ∙ c.put.ensures)) c.ask_brief.ensures)

pub told-requires-clause-handles : goal.told-requires-clause-handles
told-requires-clause-handles g c =
    let d = c.requires.driven in asked-handles g.W.Work d.0 d.1 d.2 c.args.pass.now c.args.run.now c.args.ask d.3 c.ask_brief.new.pass c.last.result.now
    (subst (λ r. IsAsked c.args.pass.now c.ask_brief.new.pass c.args.ask r) (sym (c.last.ensures ∙ c.put.ensures)) c.ask_brief.ensures)

pub returns-clause-after : goal.returns-clause-after
returns-clause-after g c f h l d =
    after-asked g.W.Work f h l c.args.pass.now c.args.run.now c.args.ask d c.ask_brief.new.pass c.last.result.now
    (subst (λ r. IsAsked c.args.pass.now c.ask_brief.new.pass c.args.ask r) (sym (c.last.ensures ∙ c.put.ensures)) c.ask_brief.ensures) c.told.new.self
    c.told.ensures.stands c.told.ensures.unreplied c.told.ensures.over
