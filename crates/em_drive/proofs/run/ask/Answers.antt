use Rattle.std.proofs.Common.{◌≡◌, ◌∙◌, ℕ, sym, subst}
use Rattle.em_log.specs.declared.ask.Reply.{Reply}
use Rattle.em_log.specs.declared.entry.What.{What}
use Rattle.em_desk.specs.State.{DeskState, IsAnswered}
use Rattle.em_drive.proofs.Asking.{askable}
use Rattle.em_drive.proofs.Answered.{fits-answer}
use Rattle.em_drive.proofs.GoneOn.{replied, ask-fits-handles, after-ask, ask-grown, ask-grows, answer-rest, answer-goes_on}
use Rattle.em_drive.proofs.Taking.{core-there}
use Rattle.em_drive.proofs.run.ask.Goals as goal

-- the reply that was put last is the one that the desk gave
done-by : (old new : DeskState) (c : ℕ) (w : What) (brief put last : Reply) → put ≡ brief → last ≡ put → IsAnswered old new c w brief → IsAnswered old new c w last
done-by old new c w brief put last is same done = subst (IsAnswered old new c w) (sym (same ∙ is)) done

pub ask_brief-requires-clause-core : goal.ask_brief-requires-clause-core
ask_brief-requires-clause-core c = core-there c.requires.0 c.requires.1 c.args.desk.now c.args.core.0 c.args.run.now c.requires.2.going

pub ask_brief-requires-clause-may_ask : goal.ask_brief-requires-clause-may_ask
ask_brief-requires-clause-may_ask c = (askable c.requires.0 c.requires.1 c.args.desk.now c.args.core.0 c.args.run.now c.args.ask c.is_typed.ensures c.requires.2).may_ask

pub ask_brief-requires-clause-allowance : goal.ask_brief-requires-clause-allowance
ask_brief-requires-clause-allowance c = (askable c.requires.0 c.requires.1 c.args.desk.now c.args.core.0 c.args.run.now c.args.ask c.is_typed.ensures c.requires.2).allowance

pub ask_brief-requires-clause-served : goal.ask_brief-requires-clause-served
ask_brief-requires-clause-served c = (askable c.requires.0 c.requires.1 c.args.desk.now c.args.core.0 c.args.run.now c.args.ask c.is_typed.ensures c.requires.2).served

pub told-requires-clause-fits : goal.told-requires-clause-fits
told-requires-clause-fits c =
    fits-answer c.args.desk.now.declarations c.args.desk.now.past c.args.core.0 c.args.run.now c.args.ask c.last.result.now.answer c.requires.2.unreplied (done-by _ _ _ _ _ _ _ c.put.ensures c.last.ensures c.ask_brief.ensures).answer

pub told-requires-clause-no_rest : goal.told-requires-clause-no_rest
told-requires-clause-no_rest c = answer-rest _ c.last.result.now.answer (done-by _ _ _ _ _ _ _ c.put.ensures c.last.ensures c.ask_brief.ensures).answer

pub told-requires-clause-handles : goal.told-requires-clause-handles
told-requires-clause-handles c =
    let g = c.requires.0 in
    let l = c.requires.1 in
    let w = c.requires.2 in
    let d = c.args.core.0 in
    let r = replied g l c.args.desk.now c.ask_brief.new.self d c.args.run.now c.args.ask c.last.result.now w.going (done-by _ _ _ _ _ _ _ c.put.ensures c.last.ensures c.ask_brief.ensures) in
    ask-fits-handles g l c.args.desk.now c.ask_brief.new.self d c.args.run.now c.args.ask c.last.result.now.answer w c.history_is_lawful.ensures.lawful
    c.history_is_lawful-2.ensures.lawful r

pub returns-clause-after : goal.returns-clause-after
returns-clause-after c g l w =
    let d = c.args.core.0 in
    let r = replied g l c.args.desk.now c.ask_brief.new.self d c.args.run.now c.args.ask c.last.result.now w.going (done-by _ _ _ _ _ _ _ c.put.ensures c.last.ensures c.ask_brief.ensures) in
    after-ask g l c.args.desk.now c.ask_brief.new.self d c.args.run.now c.args.ask c.last.result.now.answer w c.history_is_lawful.ensures.lawful
    c.history_is_lawful-2.ensures.lawful r
    c.told.new.self c.told.ensures.stands c.told.ensures.unreplied (c.told.ensures.over ∙ answer-goes_on _ c.last.result.now.answer (done-by _ _ _ _ _ _ _ c.put.ensures c.last.ensures c.ask_brief.ensures).answer)

pub returns-clause-grown : goal.returns-clause-grown
returns-clause-grown c =
    let w = c.requires.2 in
    let r = replied c.requires.0 c.requires.1 c.args.desk.now c.ask_brief.new.self c.args.core.0 c.args.run.now c.args.ask c.last.result.now w.going (done-by _ _ _ _ _ _ _ c.put.ensures c.last.ensures c.ask_brief.ensures) in
    ask-grown c.requires.0 c.requires.1 c.args.desk.now c.ask_brief.new.self c.args.core.0 c.args.ask c.last.result.now.answer r

pub returns-clause-turned : goal.returns-clause-turned
returns-clause-turned c =
    let w = c.requires.2 in
    let r = replied c.requires.0 c.requires.1 c.args.desk.now c.ask_brief.new.self c.args.core.0 c.args.run.now c.args.ask c.last.result.now w.going (done-by _ _ _ _ _ _ _ c.put.ensures c.last.ensures c.ask_brief.ensures) in
    ask-grows c.requires.0 c.requires.1 c.args.desk.now c.ask_brief.new.self c.args.core.0 c.args.ask c.last.result.now.answer r
