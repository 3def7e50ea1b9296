use Rattle.std.proofs.Common.{◌≡◌, [], false, refl, sym, subst}
use Rattle.em_log.specs.declared.ids.Limits.{Limits}
use Rattle.em_log.specs.Declarations.{declarations_of}
use Rattle.em_desk.specs.State.{DeskState}
use Rattle.em_board_rows.specs.Cores.{HasOneQueue}
use Rattle.em_board_rows.proofs.Passes.{map-ok, one-queue}
use Rattle.board_bench.proofs.guarded.build_desk.Goals as goal

abbrev limits : Limits
limits = record { receives = 10000; burst = 1 }

pub returns-clause-run : goal.returns-clause-run
returns-clause-run c =
    let g = c.in_ok-config.config in
    let first : DeskState = record { declarations = declarations_of g; limits = limits; past = []; halted = false } in
    map-ok c.build.result (λ d. d ≡ first) (λ d. HasOneQueue d.declarations d.limits) c.build.ensures
    (λ d is. subst (λ (s : DeskState). HasOneQueue s.declarations s.limits) (sym is) (one-queue g limits c.args.cores _ c.in_ok-config.ensures refl))
