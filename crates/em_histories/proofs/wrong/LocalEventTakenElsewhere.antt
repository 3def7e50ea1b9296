use Rattle.std.proofs.Common.{[], None, take, reverse, refl}
use Rattle.em_log.specs.declared.ask.Ask.{Ask}
use Rattle.em_log.specs.Declarations.{declarations_of}
use Rattle.em_log.specs.Lawful.{AllAllowed}
use Rattle.em_log.specs.Lawful as next
use Rattle.em_histories.specs.Words.{queue, pool}
use Rattle.em_histories.specs.Runs.{IsWrongAt}
use Rattle.em_histories.specs.wrong.LocalEventTakenElsewhere.{run}
use Rattle.em_histories.proofs.Chain.{◌after◌, allowed}
use Rattle.em_histories.proofs.Refusals.{false-true, moment-of-newest}

before : AllAllowed (declarations_of run.graph) run.limits (reverse (take 4 run.history))
before =
    allowed tt (next.Asks (Ask.End None) refl refl)
    after allowed tt (next.Asks (Ask.Send 65536 (queue 0) None) refl refl)
    after allowed tt (next.Asks (Ask.Alloc (pool 0) 4 []) refl refl)
    after allowed tt (next.Boots refl refl refl)
    after tt

wrong : AllAllowed (declarations_of run.graph) run.limits (reverse (take 5 run.history)) → ⊥
wrong all = false-true (moment-of-newest (declarations_of run.graph) run.limits (reverse (take 5 run.history)) all).choice

pub is_wrong : IsWrongAt 4 run
is_wrong =
    record {
      before = before;
      wrong = wrong;
      unlawful = λ lawful. wrong lawful.each;
    }
