use Rattle.std.proofs.Common.{refl, sym, subst}
use Rattle.em_desk_rows.specs.declared.tests.TheConstants.{HELD_BY_ANOTHER_CORE}
use Rattle.em_desk_rows.specs.Graphs.{one_queue}
use Rattle.em_desk_rows.specs.Moves.{fresh, Drives}
use Rattle.em_desk_rows.proofs.Deciding.{drives-by}
use Rattle.em_desk_rows.proofs.tests.held_by_another_core.Goals as goal

pub run-requires-clause-drives : goal.run-requires-clause-drives
run-requires-clause-drives c =
    subst (λ k. Drives (fresh k 10) HELD_BY_ANOTHER_CORE) (sym c.in_ok-config.ensures)
    (drives-by (fresh (one_queue 2 (record { events = 2; words = 0 })) 10) HELD_BY_ANOTHER_CORE refl)
