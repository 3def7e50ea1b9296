use Rattle.std.proofs.Common.{ap, sym, subst}
use Rattle.em_turn.specs.Seats.{SeatView}
use Rattle.em_board.specs.Passes.{PassView, pass_of, IsReady}
use Rattle.em_board.specs.Calls.{IsHalted}
use Rattle.em_board.proofs.Turns.{halt-ready, halt-leaves, halted, final, turned}
use Rattle.em_board.proofs.board.Board.halt.Goals as goal

pub leave-requires-clause-list : goal.leave-requires-clause-list
leave-requires-clause-list g c =
    let e = c.enter-shared.ensures in
    halt-leaves c.pass.inside.core.0 c.pass.inside.seat c.enter-shared.result c.pass.invariant e.list e.fixed c.is_lawful.ensures.lawful
    c.halt.new.self c.halt.ensures.fixed c.halt.ensures.items
    c.enter-shared.new.seat.numbers c.enter-shared.new.seat.seen (ap (λ (z : SeatView). z.numbers) e.seat) (ap (λ (z : SeatView). z.seen) e.seat)

pub invariant_of-pass : goal.invariant_of-pass
invariant_of-pass g c =
    let e = c.enter-shared.ensures in
    subst (λ (u : SeatView). IsReady c.pass.inside.core.0 u)
    (sym (final c.pass.inside.seat c.enter-shared.new.seat c.leave.new.seat c.enter-shared.result.items c.halt.new.self.items e.seat c.leave.ensures))
    (halt-ready c.pass.inside.core.0 c.pass.inside.seat c.enter-shared.result c.pass.invariant e.list e.fixed c.is_lawful.ensures.lawful
    c.halt.new.self c.halt.ensures.fixed c.halt.ensures.items)

pub returns : goal.returns
returns g c =
    let e = c.enter-shared.ensures in
    let s = c.pass.inside.seat in
    let n = c.pass.inside.core.0 in
    let xs = c.enter-shared.result.items in
    let ys = c.halt.new.self.items in
    subst (λ (u : SeatView). IsHalted c.args.pass.now (pass_of n u))
    (sym (final s c.enter-shared.new.seat c.leave.new.seat xs ys e.seat c.leave.ensures))
    (subst (λ (p : PassView). IsHalted p (pass_of n (turned s xs ys))) c.pass.view_is
    (halted n s c.enter-shared.result c.pass.invariant e.list e.fixed c.is_lawful.ensures.lawful c.halt.new.self c.halt.ensures.fixed c.halt.ensures.items))
