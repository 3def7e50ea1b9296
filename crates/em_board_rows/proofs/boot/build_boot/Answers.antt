use Rattle.std.proofs.Common.{◌≡◌, ℕ, List, [], ◌∷◌, ◌++◌, sym, ap, ◌∙◌, subst}
use Rattle.em_log.specs.declared.declarations.Declarations.{Declarations}
use Rattle.em_board.specs.Passes.{PassView, AreAll}
use Rattle.em_board_rows.proofs.Passes.{one-pass, one-core}
use Rattle.em_board_rows.proofs.boot.build_boot.Goals as goal

pub returns-clause-all : goal.returns-clause-all
returns-clause-all c =
    let board = c.in_ok-board.board in
    let p = c.in-Some.pass in
    let one = ap (λ (k : Declarations). k.cores) c.graph.ensures in
    let all = one-core board _ c.in_ok-board.passes _ one c.in_ok-board.ensures.passes in
    let cut = one-pass _ p c.pop.new.self (sym all ∙ c.in-Some.ensures.list) in
    subst (AreAll board) (c.in-Some.ensures.list ∙ ap (λ (xs : List PassView). xs ++ p ∷ []) cut.0) c.in_ok-board.ensures.all
