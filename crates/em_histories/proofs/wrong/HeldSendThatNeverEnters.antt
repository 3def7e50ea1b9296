use Rattle.std.proofs.Common.{[], None, reverse, refl}
use Rattle.em_log.specs.declared.ask.Ask.{Ask}
use Rattle.em_log.specs.Declarations.{declarations_of}
use Rattle.em_log.specs.Lawful.{AllAllowed}
use Rattle.em_log.specs.Lawful as next
use Rattle.em_histories.specs.Words.{queue, pool}
use Rattle.em_histories.specs.Runs.{IsUnfinished}
use Rattle.em_histories.specs.wrong.HeldSendThatNeverEnters.{run}
use Rattle.em_histories.proofs.Chain.{◌after◌, allowed}
use Rattle.em_histories.proofs.Refusals.{nothing-due}

each : AllAllowed (declarations_of run.graph) run.limits (reverse run.history)
each =
    allowed tt (next.Asks (Ask.End None) refl refl)
    after allowed tt (next.Asks (Ask.Free 131072) refl refl)
    after allowed tt (next.Asks (Ask.Say 1) refl refl)
    after allowed tt (next.Asks (Ask.Say 1) refl refl)
    after allowed tt (next.Asks (Ask.End None) refl refl)
    after allowed tt (next.Asks Ask.EndOrdered refl refl)
    after allowed tt (next.Asks (Ask.Send 131073 (queue 1) None) refl refl)
    after allowed tt (next.Asks (Ask.Say 1) refl refl)
    after allowed tt refl
    after allowed tt (next.Takes 0 refl refl)
    after allowed tt refl
    after allowed tt (next.Takes 0 refl refl)
    after allowed tt (next.Asks (Ask.End None) refl refl)
    after allowed tt (next.Asks (Ask.Send 65537 (queue 0) None) refl refl)
    after allowed tt (next.Asks (Ask.Alloc (pool 0) 2 []) refl refl)
    after allowed tt (next.Asks (Ask.Send 65536 (queue 0) None) refl refl)
    after allowed tt (next.Asks (Ask.Alloc (pool 0) 1 []) refl refl)
    after allowed tt (next.Boots refl refl refl)
    after tt

pub is_unfinished : IsUnfinished run
is_unfinished = record { each = each; unlawful = λ lawful. nothing-due lawful.whole }
