use Rattle.std.proofs.Common.{◌≤◌, ap, sym, subst}
use Rattle.std.specs.Prelude.{IsTrue}
use Rattle.em_log.specs.Allowance.{cost_of_ask, left}
use Rattle.em_log.specs.Lawful.{may_ask}
use Rattle.em_turn.specs.Seats.{SeatView}
use Rattle.em_board.specs.Marked.{history, logged}
use Rattle.em_board.specs.Passes.{PassView, pass_of}
use Rattle.em_board.specs.Calls.{IsAsked}
use Rattle.em_board.proofs.Turns.{asks-now, left-now, leaves, asked, final, turned}
use Rattle.em_board.proofs.board.Board.ask_brief.Goals as goal

pub ask_brief-reply-requires-clause-may_ask : goal.ask_brief-reply-requires-clause-may_ask
ask_brief-reply-requires-clause-may_ask g c =
    let e = c.enter-shared.ensures in
    asks-now c.pass.inside.core.0 c.pass.inside.seat c.enter-shared.result c.pass.invariant e.list e.fixed c.is_lawful.ensures.lawful c.args.ask
    (subst (λ (p : PassView). IsTrue (may_ask p.fixed.declarations (history p.seen) p.core c.args.ask)) (sym c.pass.view_is) c.requires.may_ask)

pub ask_brief-reply-requires-clause-allowance : goal.ask_brief-reply-requires-clause-allowance
ask_brief-reply-requires-clause-allowance g c =
    let e = c.enter-shared.ensures in
    left-now c.pass.inside.core.0 c.pass.inside.seat c.enter-shared.result c.pass.invariant e.list e.fixed c.is_lawful.ensures.lawful (cost_of_ask c.args.ask)
    (subst (λ (p : PassView). cost_of_ask c.args.ask ≤ left p.fixed.declarations (history p.seen) p.core) (sym c.pass.view_is) c.requires.allowance)

pub leave-requires-clause-list : goal.leave-requires-clause-list
leave-requires-clause-list g c =
    let e = c.enter-shared.ensures in
    let a = c.ask_brief-reply.ensures in
    leaves c.pass.inside.core.0 c.pass.inside.seat c.enter-shared.result c.pass.invariant e.list e.fixed c.is_lawful.ensures.lawful
    c.ask_brief-reply.new.self (logged a.entries) a.grows.items a.grows.only a.grows.fixed a.grows.lawful
    c.enter-shared.new.seat.numbers c.enter-shared.new.seat.seen (ap (λ (z : SeatView). z.numbers) e.seat) (ap (λ (z : SeatView). z.seen) e.seat)

pub returns : goal.returns
returns g c =
    let e = c.enter-shared.ensures in
    let s = c.pass.inside.seat in
    let n = c.pass.inside.core.0 in
    let xs = c.enter-shared.result.items in
    let ys = c.ask_brief-reply.new.self.items in
    subst (λ (u : SeatView). IsAsked c.args.pass.now (pass_of n u) c.args.ask c.ask_brief-reply.result)
    (sym (final s c.enter-shared.new.seat c.leave.new.seat xs ys e.seat c.leave.ensures))
    (subst (λ (p : PassView). IsAsked p (pass_of n (turned s xs ys)) c.args.ask c.ask_brief-reply.result) c.pass.view_is
    (asked n s c.enter-shared.result c.pass.invariant e.list e.fixed c.is_lawful.ensures.lawful c.ask_brief-reply.new.self c.args.ask c.ask_brief-reply.result c.ask_brief-reply.ensures))
