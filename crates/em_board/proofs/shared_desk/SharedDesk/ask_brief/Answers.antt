use Rattle.std.proofs.Common.{◌≤◌, sym, ◌∙◌, subst}
use Rattle.std.specs.Prelude.{IsTrue}
use Rattle.em_log.specs.Allowance.{cost_of_ask, left}
use Rattle.em_log.specs.Lawful.{Lawful, may_ask}
use Rattle.em_log.specs.Leads.{lead}
use Rattle.em_desk.specs.State.{DeskState, IsAnswered}
use Rattle.em_board.specs.SharedDesks.{SharedState, SharedAnswered}
use Rattle.em_board.proofs.SharedDesks.{view_of, told-desk, asked, asked-marked}
use Rattle.em_board.proofs.shared_desk.SharedDesk.ask_brief.Goals as goal

pub ask_brief-reply-requires-clause-may_ask : goal.ask_brief-reply-requires-clause-may_ask
ask_brief-reply-requires-clause-may_ask c =
    subst (λ (d : DeskState). IsTrue (may_ask d.declarations d.past c.args.core.0 c.args.ask))
    (told-desk c.self.inside.desk.value c.self.inside.mark c.args.self.now c.self.invariant c.self.view_is ∙ sym c.deref_mut.ensures.value) c.requires.may_ask

pub ask_brief-reply-requires-clause-allowance : goal.ask_brief-reply-requires-clause-allowance
ask_brief-reply-requires-clause-allowance c =
    subst (λ (d : DeskState). cost_of_ask c.args.ask ≤ left d.declarations d.past c.args.core.0)
    (told-desk c.self.inside.desk.value c.self.inside.mark c.args.self.now c.self.invariant c.self.view_is ∙ sym c.deref_mut.ensures.value) c.requires.allowance

pub invariant_of-self : goal.invariant_of-self
invariant_of-self c =
    let d = c.self.inside.desk.value in
    let a = subst (λ (x : DeskState). IsAnswered x c.ask_brief-reply.new.self c.args.core.0 (lead x.declarations x.past c.args.core.0 c.args.ask) c.ask_brief-reply.result)
    c.deref_mut.ensures.value c.ask_brief-reply.ensures in
    asked-marked d c.ask_brief-reply.new.self c.self.inside.mark c.args.core.0 (lead d.declarations d.past c.args.core.0 c.args.ask) c.ask_brief-reply.result c.self.invariant a

pub returns : goal.returns
returns c =
    let d = c.self.inside.desk.value in
    let m = c.self.inside.mark in
    let a = subst (λ (x : DeskState). IsAnswered x c.ask_brief-reply.new.self c.args.core.0 (lead x.declarations x.past c.args.core.0 c.args.ask) c.ask_brief-reply.result)
    c.deref_mut.ensures.value c.ask_brief-reply.ensures in
    let lawful = subst (λ (x : DeskState). Lawful x.declarations x.limits x.past) c.deref.ensures c.log-log.ensures.lawful in
    subst (λ (s : SharedState). SharedAnswered s (view_of c.ask_brief-reply.new.self m) c.args.core.0 c.args.ask c.ask_brief-reply.result) c.self.view_is
    (asked d c.ask_brief-reply.new.self m c.args.core.0 c.args.ask c.ask_brief-reply.result c.self.invariant a lawful)
