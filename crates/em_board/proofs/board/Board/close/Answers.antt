use Rattle.std.proofs.Common.{◌∷◌, [], ◌∙◌, ap, sym, subst}
use Rattle.em_log.specs.Items.{Fixed}
use Rattle.em_desk.specs.State.{DeskState}
use Rattle.em_turn.specs.Seats.{TableId}
use Rattle.em_board.specs.Passes.{PassView, AreOf, share_of}
use Rattle.em_board.specs.Calls.{ClosesEach}
use Rattle.em_board.proofs.Closes.{of-last, close-spare, covers-passes, closes-each, marked-any}
use Rattle.em_board.proofs.board.Board.close.Goals as goal

pub join_all-seat-requires-clause-here : goal.join_all-seat-requires-clause-here
join_all-seat-requires-clause-here c =
    let all = c.requires.all in
    let rest = c.pop.new.self.items in
    let p = c.in-Some.first in
    let cut = sym c.passes.view_is ∙ c.in-Some.ensures.items in
    let last = of-last c.args.self all.fixed rest p (subst (AreOf c.args.self all.fixed) cut all.of) in
    (ap (λ (q : PassView). q.board) c.first.view_is ∙ last.1 ∙ sym c.self.view_is, c.first.invariant.outside)

pub join_all-seat-requires-clause-list : goal.join_all-seat-requires-clause-list
join_all-seat-requires-clause-list c =
    let all = c.requires.all in
    let rest = c.pop.new.self.items in
    let p = c.in-Some.first in
    let cut = sym c.passes.view_is ∙ c.in-Some.ensures.items in
    let last = of-last c.args.self all.fixed rest p (subst (AreOf c.args.self all.fixed) cut all.of) in
    subst (λ (b : TableId). AreOf b c.first.inside.seat.fixed rest) (sym (ap (λ (q : PassView). q.board) c.first.view_is ∙ last.1))
    (subst (λ (f : Fixed). AreOf c.args.self f rest) (sym (ap (λ (q : PassView). q.fixed) c.first.view_is ∙ last.2)) last.0)

pub close-shared-requires-clause-here : goal.close-shared-requires-clause-here
close-shared-requires-clause-here c =
    let all = c.requires.all in
    let rest = c.pop.new.self.items in
    let p = c.in-Some.first in
    let cut = sym c.passes.view_is ∙ c.in-Some.ensures.items in
    let last = of-last c.args.self all.fixed rest p (subst (AreOf c.args.self all.fixed) cut all.of) in
    (c.join_all-seat.ensures.here ∙ ap (λ (q : PassView). q.board) c.first.view_is ∙ last.1 ∙ sym c.self.view_is, c.join_all-seat.ensures.outside)

pub close-shared-requires-clause-all : goal.close-shared-requires-clause-all
close-shared-requires-clause-all c =
    let all = c.requires.all in
    let rest = c.pop.new.self.items in
    let p = c.in-Some.first in
    let s = c.first.inside.seat in
    let cut = sym c.passes.view_is ∙ c.in-Some.ensures.items in
    let last = of-last c.args.self all.fixed rest p (subst (AreOf c.args.self all.fixed) cut all.of) in
    let core = ap (λ (q : PassView). q.core) c.first.view_is in
    close-spare c.args.self c.args.passes rest p s c.join_all-seat.result all cut (ap (λ (q : PassView). q.fixed) c.first.view_is ∙ last.2) c.first.invariant.cores
    (c.first.invariant.share ∙ (λ i. share_of s.fixed.declarations.cores (core i))) c.join_all-seat.ensures.spare

pub returns-clause-each : goal.returns-clause-each
returns-clause-each c =
    let all = c.requires.all in
    let rest = c.pop.new.self.items in
    let p = c.in-Some.first in
    let s = c.first.inside.seat in
    let t = c.join_all-seat.result in
    let cut = sym c.passes.view_is ∙ c.in-Some.ensures.items in
    let last = of-last c.args.self all.fixed rest p (subst (AreOf c.args.self all.fixed) cut all.of) in
    let core = ap (λ (q : PassView). q.core) c.first.view_is in
    let fixed = c.close-shared.ensures.fixed ∙ c.join_all-seat.ensures.fixed ∙ ap (λ (q : PassView). q.fixed) c.first.view_is ∙ last.2 in
    let covers = covers-passes t s c.args.passes rest p cut (c.first.invariant.numbers ∙ (λ i. core i ∷ [])) (ap (λ (q : PassView). q.seen) c.first.view_is) c.join_all-seat.ensures.each c.join_all-seat.ensures.own in
    subst (λ (d : DeskState). ClosesEach d c.args.passes) (sym c.into_desk-desk.ensures)
    (closes-each c.close-shared.result t c.args.self all.fixed fixed c.close-shared.ensures.list c.args.passes all.of covers)

pub returns-clause-halted : goal.returns-clause-halted
returns-clause-halted c =
    let all = c.requires.all in
    let rest = c.pop.new.self.items in
    let p = c.in-Some.first in
    let s = c.first.inside.seat in
    let t = c.join_all-seat.result in
    let cut = sym c.passes.view_is ∙ c.in-Some.ensures.items in
    let last = of-last c.args.self all.fixed rest p (subst (AreOf c.args.self all.fixed) cut all.of) in
    let core = ap (λ (q : PassView). q.core) c.first.view_is in
    let fixed = c.close-shared.ensures.fixed ∙ c.join_all-seat.ensures.fixed ∙ ap (λ (q : PassView). q.fixed) c.first.view_is ∙ last.2 in
    let covers = covers-passes t s c.args.passes rest p cut (c.first.invariant.numbers ∙ (λ i. core i ∷ [])) (ap (λ (q : PassView). q.seen) c.first.view_is) c.join_all-seat.ensures.each c.join_all-seat.ensures.own in
    ap (λ (d : DeskState). d.halted) c.into_desk-desk.ensures
    ∙ marked-any c.close-shared.result t c.args.self all.fixed fixed c.close-shared.ensures.list c.args.passes covers all.each c.is_lawful.ensures.owner
