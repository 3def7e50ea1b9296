use Rattle.std.proofs.Common.{refl, sym, subst}
use Rattle.em_desk_rows.specs.declared.tests.TheConstants.{KEEP_AND_CLAIM}
use Rattle.em_desk_rows.specs.Graphs.{one_queue}
use Rattle.em_desk_rows.specs.Moves.{fresh, Drives}
use Rattle.em_desk_rows.proofs.Deciding.{drives-by}
use Rattle.em_desk_rows.proofs.tests.keep_and_claim.Goals as goal

pub run-requires-clause-drives : goal.run-requires-clause-drives
run-requires-clause-drives c =
    subst (λ k. Drives (fresh k 10) KEEP_AND_CLAIM) (sym c.in_ok-config.ensures)
    (drives-by (fresh (one_queue 1 (record { events = 4; words = 1 })) 10) KEEP_AND_CLAIM refl)
