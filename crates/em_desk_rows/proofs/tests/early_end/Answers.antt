use Rattle.std.proofs.Common.{true, [], ◌∷◌, refl, sym, subst}
use Rattle.em_desk_rows.specs.declared.tests.TheConstants.{EARLY_END, ATOMIC}
use Rattle.em_desk_rows.specs.Graphs.{graph_of, all_cores_groups}
use Rattle.em_desk_rows.specs.Moves.{fresh, Drives}
use Rattle.em_desk_rows.proofs.Deciding.{drives-by}
use Rattle.em_desk_rows.proofs.tests.early_end.Goals as goal

pub run-requires-clause-drives : goal.run-requires-clause-drives
run-requires-clause-drives c =
    subst (λ k. Drives (fresh k 10) EARLY_END) (sym c.in_ok-config.ensures)
    (drives-by (fresh (graph_of 2 (record { events = 2; words = 0 }) (true ∷ []) (all_cores_groups 0) (ATOMIC ∷ [])) 10) EARLY_END refl)
