use Rattle.std.proofs.Common.{◌≡◌, [], None, ap, sym, subst}
use Rattle.em_log.specs.Contexts.{context}
use Rattle.em_log.specs.Places.{taken}
use Rattle.em_turn.specs.Seats.{SeatView}
use Rattle.em_board.specs.Marked.{history}
use Rattle.em_board.specs.Passes.{PassView}
use Rattle.em_board.proofs.Turns.{context-now, taken-now, take-leaves, take-ok, take-err, final}
use Rattle.em_board.proofs.board.Board.take_brief.Goals as goal

pub take_brief-result-requires-clause-closed : goal.take_brief-result-requires-clause-closed
take_brief-result-requires-clause-closed g c =
    let e = c.enter-shared.ensures in
    context-now c.pass.inside.core.0 c.pass.inside.seat c.enter-shared.result c.pass.invariant e.list e.fixed c.is_lawful.ensures.lawful
    (subst (λ (p : PassView). context (history p.seen) p.core ≡ None) (sym c.pass.view_is) c.requires.closed)

pub take_brief-result-requires-clause-untaken : goal.take_brief-result-requires-clause-untaken
take_brief-result-requires-clause-untaken g c =
    let e = c.enter-shared.ensures in
    taken-now c.pass.inside.core.0 c.pass.inside.seat c.enter-shared.result c.pass.invariant e.list e.fixed c.is_lawful.ensures.lawful
    (subst (λ (p : PassView). taken p.fixed.declarations (history p.seen) p.core ≡ []) (sym c.pass.view_is) c.requires.untaken)

pub leave-requires-clause-list : goal.leave-requires-clause-list
leave-requires-clause-list g c =
    let e = c.enter-shared.ensures in
    let t = c.take_brief-result in
    take-leaves c.pass.inside.core.0 c.pass.inside.seat c.enter-shared.result c.pass.invariant e.list e.fixed c.is_lawful.ensures.lawful
    t.new.self t.result t.ensures.ok t.ensures.err
    c.enter-shared.new.seat.numbers c.enter-shared.new.seat.seen (ap (λ (z : SeatView). z.numbers) e.seat) (ap (λ (z : SeatView). z.seen) e.seat)

pub returns-clause-ok : goal.returns-clause-ok
returns-clause-ok g c =
    let e = c.enter-shared.ensures in
    let t = c.take_brief-result in
    take-ok c.pass.inside.core.0 c.pass.inside.seat c.enter-shared.result c.pass.invariant e.list e.fixed c.is_lawful.ensures.lawful
    t.new.self t.result t.ensures.ok t.ensures.err c.args.pass.now c.leave.new.seat c.pass.view_is
    (final c.pass.inside.seat c.enter-shared.new.seat c.leave.new.seat c.enter-shared.result.items t.new.self.items e.seat c.leave.ensures)

pub returns-clause-err : goal.returns-clause-err
returns-clause-err g c =
    let e = c.enter-shared.ensures in
    let t = c.take_brief-result in
    take-err c.pass.inside.core.0 c.pass.inside.seat c.enter-shared.result c.pass.invariant e.list e.fixed c.is_lawful.ensures.lawful
    t.new.self t.result t.ensures.ok t.ensures.err c.args.pass.now c.leave.new.seat c.pass.view_is
    (final c.pass.inside.seat c.enter-shared.new.seat c.leave.new.seat c.enter-shared.result.items t.new.self.items e.seat c.leave.ensures)
