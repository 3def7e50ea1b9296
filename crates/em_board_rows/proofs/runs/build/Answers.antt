use Rattle.std.proofs.Common.{◌≡◌, ◌≤◌, ℕ, List, length, refl, sym, ap, ◌∙◌, subst, arith}
use Rattle.em_log.specs.declared.declarations.Declarations.{Declarations}
use Rattle.em_log.specs.declared.ids.Limits.{Limits}
use Rattle.em_log.specs.Declarations.{declarations_of}
use Rattle.em_log.specs.Items.{Fixed}
use Rattle.em_turn.specs.Seats.{TableId}
use Rattle.em_board.specs.Passes.{PassView, passes_from}
use Rattle.em_board.specs.SharedDesks.{fixed_of}
use Rattle.em_board.proofs.Builds.{passes-length}
use Rattle.em_board_rows.specs.Passes.{AreBetween}
use Rattle.em_board_rows.proofs.Passes.{first-between, map-ok, one-queue}
use Rattle.em_board_rows.proofs.runs.build.Goals as goal

abbrev limits : Limits
limits = record { receives = 10000; burst = 1 }

pub returns-clause-between : goal.returns-clause-between
returns-clause-between c =
    let g = c.in_ok-config.config in
    let n = c.args.cores in
    let fixed = fixed_of (declarations_of g) limits in
    let cores : fixed.declarations.cores ≡ n = ap (λ (k : Declarations). k.cores) c.in_ok-config.ensures in
    let few : n ≤ fixed.declarations.cores = omega (arith, cores) in
    map-ok c.build.result (λ x. x.1 ≡ passes_from x.0 fixed 0 g.cores) (λ x. AreBetween x.0 n x.1) c.build.ensures.passes
    (λ x is. subst (AreBetween x.0 n) (sym is) (first-between x.0 fixed n 0 g.cores (one-queue g limits n _ c.in_ok-config.ensures refl) few))

pub returns-clause-count : goal.returns-clause-count
returns-clause-count c =
    let g = c.in_ok-config.config in
    let n = c.args.cores in
    let fixed = fixed_of (declarations_of g) limits in
    map-ok c.build.result (λ x. x.1 ≡ passes_from x.0 fixed 0 g.cores) (λ x. length x.1 ≡ n) c.build.ensures.passes
    (λ x is. ap (λ (ps : List PassView). length ps) is ∙ passes-length x.0 fixed 0 g.cores ∙ ap (λ (k : Declarations). k.cores) c.in_ok-config.ensures)
