use Rattle.std.proofs.Common.{◌≡◌, ◌∙◌, ℕ, sym, subst}
use Rattle.em_log.specs.declared.ask.Reply.{Reply}
use Rattle.em_board.specs.SharedDesks.{TakeAnswered}
use Rattle.em_desk.specs.State.{DeskState}
use Rattle.em_drive.specs.Going.{IsAfter}
use Rattle.em_drive.proofs.Taking.{rest-told, took-now, untaken-now, turned-told, after-take}
use Rattle.em_drive.proofs.Took.{takes-grown}
use Rattle.em_drive.proofs.run.take.Goals as goal

-- the reply that was put last is the one that the desk gave
took-by : (old new : DeskState) (c : ℕ) (brief put last : Reply) → put ≡ brief → last ≡ put → TakeAnswered old new c brief → TakeAnswered old new c last
took-by old new c brief put last is same took = subst (TakeAnswered old new c) (sym (same ∙ is)) took

pub take_brief-requires-clause-untaken : goal.take_brief-requires-clause-untaken
take_brief-requires-clause-untaken g c =
    let w = c.requires.2 in
    untaken-now c.requires.0 c.requires.1 c.args.desk.now c.args.core.0 c.args.run.now w.going c.history_is_lawful.ensures.lawful

pub told-requires-clause-no_rest : goal.told-requires-clause-no_rest
told-requires-clause-no_rest g c =
    let e = c.in_ok-brief.ensures in
    let a = took-by c.args.desk.now c.take_brief.new.self c.args.core.0 c.in_ok-brief.brief c.put.new.self c.last-reply.result.now c.put.ensures c.last-reply.ensures
    (record { takes = e.takes; owed = e.owed; idle = e.idle }) in
    let t = took-now c.requires.0 c.requires.1 c.args.desk.now c.take_brief.new.self c.args.core.0 c.args.run.now c.last-reply.result.now.answer c.requires.2 a.idle a.takes in
    rest-told c.requires.0 c.requires.1 c.args.desk.now.past c.take_brief.new.self.past c.args.core.0 c.last-reply.result.now.answer t

pub returns-clause-after : goal.returns-clause-after
returns-clause-after g c h l w =
    let e = c.in_ok-brief.ensures in
    let a = took-by c.args.desk.now c.take_brief.new.self c.args.core.0 c.in_ok-brief.brief c.put.new.self c.last-reply.result.now c.put.ensures c.last-reply.ensures
    (record { takes = e.takes; owed = e.owed; idle = e.idle }) in
    let t = took-now h l c.args.desk.now c.take_brief.new.self c.args.core.0 c.args.run.now c.last-reply.result.now.answer w a.idle a.takes in
    subst (λ e. IsAfter h l c.take_brief.new.self c.args.core.0 c.told.new.self e) (sym c.end_by.ensures)
    (after-take h l c.args.desk.now c.take_brief.new.self c.args.core.0 c.args.run.now c.told.new.self c.last-reply.result.now.answer w e.run
    c.history_is_lawful-2.ensures.lawful c.told.ensures.stands c.told.ensures.unreplied t c.told.ensures.over)

pub returns-clause-grown : goal.returns-clause-grown
returns-clause-grown g c =
    takes-grown c.args.desk.now.declarations c.args.desk.now.limits c.args.desk.now.halted c.args.desk.now.past c.take_brief.new.self.past c.args.core.0
    c.in_ok-brief.brief.answer c.in_ok-brief.ensures.takes

pub returns-clause-turned : goal.returns-clause-turned
returns-clause-turned g c h l w none =
    let e = c.in_ok-brief.ensures in
    let a = took-by c.args.desk.now c.take_brief.new.self c.args.core.0 c.in_ok-brief.brief c.put.new.self c.last-reply.result.now c.put.ensures c.last-reply.ensures
    (record { takes = e.takes; owed = e.owed; idle = e.idle }) in
    let t = took-now h l c.args.desk.now c.take_brief.new.self c.args.core.0 c.args.run.now c.last-reply.result.now.answer w a.idle a.takes in
    turned-told h l c.args.desk.now.past c.take_brief.new.self.past c.args.core.0 c.last-reply.result.now.answer t (sym c.end_by.ensures ∙ none)
