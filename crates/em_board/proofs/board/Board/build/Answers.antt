use Rattle.std.proofs.Common.{◌∙◌, ap, sym, subst}
use Rattle.em_log.specs.Declarations.{declarations_of}
use Rattle.em_log.specs.Items.{Fixed}
use Rattle.em_turn.specs.Seats.{SeatView}
use Rattle.em_desk.specs.State.{DeskState}
use Rattle.em_board.specs.SharedDesks.{SharedState, fixed_of}
use Rattle.em_board.specs.Passes.{passes_from, AreAll}
use Rattle.em_board.proofs.Builds.{all-passes, first-all}
use Rattle.em_board.proofs.board.Board.build.Goals as goal

pub returns-clause-passes : goal.returns-clause-passes
returns-clause-passes c =
    let turn = c.in-Ok.turn in
    let n = c.args.config.now.cores in
    let split = c.split_all-first in
    let fixed = ap (λ (s : SeatView). s.fixed) c.in-Ok.ensures ∙ ap (λ (l : SharedState). l.fixed) c.in_ok-shared.ensures ∙ ap (λ (d : DeskState). fixed_of d.declarations d.limits) c.in_ok-desk.ensures in
    c.in-Ok-insert.ensures.items
    ∙ all-passes turn c.in-Ok.first.fixed n split.result.0 split.result.1.items split.ensures.first c.requires.graph.some_cores split.ensures.list
    ∙ ap (λ (f : Fixed). passes_from turn f 0 n) fixed

pub returns-clause-all : goal.returns-clause-all
returns-clause-all c =
    let turn = c.in-Ok.turn in
    let n = c.args.config.now.cores in
    let split = c.split_all-first in
    let fixed =
    ap (λ (s : SeatView). s.fixed) c.in-Ok.ensures ∙ ap (λ (l : SharedState). l.fixed) c.in_ok-shared.ensures
    ∙ ap (λ (d : DeskState). fixed_of d.declarations d.limits) c.in_ok-desk.ensures in
    subst (AreAll turn)
    (sym (c.in-Ok-insert.ensures.items
    ∙ all-passes turn c.in-Ok.first.fixed n split.result.0 split.result.1.items split.ensures.first c.requires.graph.some_cores split.ensures.list
    ∙ ap (λ (f : Fixed). passes_from turn f 0 n) fixed))
    (first-all turn (fixed_of (declarations_of c.args.config.now) c.args.limits) c.requires.graph.some_cores)
