use Rattle.std.proofs.Common.{true, [], ◌∷◌, refl, sym, subst}
use Rattle.em_desk_rows.specs.declared.tests.TheConstants.{LOCAL_QUEUE, LOCAL, UNSCHEDULED}
use Rattle.em_desk_rows.specs.Graphs.{graph_of, all_cores_groups}
use Rattle.em_desk_rows.specs.Moves.{fresh, Drives}
use Rattle.em_desk_rows.proofs.Deciding.{drives-by}
use Rattle.em_desk_rows.proofs.tests.local_queue.Goals as goal

pub run-requires-clause-drives : goal.run-requires-clause-drives
run-requires-clause-drives c =
    subst (λ k. Drives (fresh k 10) LOCAL_QUEUE) (sym c.in_ok-config.ensures)
    (drives-by (fresh (graph_of 1 (record { events = 1; words = 0 }) (true ∷ []) (all_cores_groups 0) (LOCAL ∷ UNSCHEDULED ∷ [])) 10) LOCAL_QUEUE refl)
