use Rattle.std.proofs.Common.{◌≡◌, [], None, sym, ◌∙◌, subst}
use Rattle.em_log.specs.Contexts.{context}
use Rattle.em_log.specs.Lawful.{Lawful}
use Rattle.em_log.specs.Places.{taken}
use Rattle.em_desk.specs.State.{DeskState, IsSameRun}
use Rattle.em_board.specs.SharedDesks.{SharedState, SharedTook, TakeAnswered}
use Rattle.em_board.proofs.SharedDesks.{view_of, told-desk, took}
use Rattle.em_board.proofs.shared_desk.SharedDesk.take_brief.Goals as goal

pub take_brief-requires-clause-closed : goal.take_brief-requires-clause-closed
take_brief-requires-clause-closed c =
    subst (λ (d : DeskState). context d.past c.args.core.0 ≡ None)
    (told-desk c.self.inside.desk.value c.self.inside.mark c.args.self.now c.self.invariant c.self.view_is ∙ sym c.deref_mut.ensures.value) c.requires.closed

pub take_brief-requires-clause-untaken : goal.take_brief-requires-clause-untaken
take_brief-requires-clause-untaken c =
    subst (λ (d : DeskState). taken d.declarations d.past c.args.core.0 ≡ [])
    (told-desk c.self.inside.desk.value c.self.inside.mark c.args.self.now c.self.invariant c.self.view_is ∙ sym c.deref_mut.ensures.value) c.requires.untaken

pub returns-clause-ok : goal.returns-clause-ok
returns-clause-ok c =
    let d = c.self.inside.desk.value in
    let m = c.self.inside.mark in
    let d' = c.take_brief.new.self in
    let e = c.in_ok-reply.ensures in
    let same = c.deref_mut.ensures.value in
    let a : TakeAnswered c.deref_mut.result.now d' c.args.core.0 c.in_ok-reply.reply = record { takes = e.takes; owed = e.owed; idle = e.idle } in
    let lawful = subst (λ (x : DeskState). Lawful x.declarations x.limits x.past) c.deref.ensures c.log-log.ensures.lawful in
    subst (λ (s : SharedState). SharedTook s (view_of d' m) c.args.core.0 c.in_ok-reply.reply) c.self.view_is
    (took d d' m c.args.core.0 c.in_ok-reply.reply c.self.invariant
    (subst (λ (x : DeskState). TakeAnswered x d' c.args.core.0 c.in_ok-reply.reply) same a)
    (subst (λ (x : DeskState). IsSameRun x d') same e.run) lawful)
