use Rattle.std.proofs.Common.{refl, sym, subst}
use Rattle.em_desk_rows.specs.declared.tests.TheConstants.{FREED_TWICE}
use Rattle.em_desk_rows.specs.Graphs.{one_queue}
use Rattle.em_desk_rows.specs.Moves.{fresh, Drives}
use Rattle.em_desk_rows.proofs.Deciding.{drives-by}
use Rattle.em_desk_rows.proofs.tests.freed_twice.Goals as goal

pub run-requires-clause-drives : goal.run-requires-clause-drives
run-requires-clause-drives c =
    subst (λ k. Drives (fresh k 10) FREED_TWICE) (sym c.in_ok-config.ensures)
    (drives-by (fresh (one_queue 1 (record { events = 4; words = 1 })) 10) FREED_TWICE refl)
