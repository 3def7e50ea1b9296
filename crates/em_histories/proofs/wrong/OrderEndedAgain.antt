use Rattle.std.proofs.Common.{[], None, take, reverse, sym, refl}
use Rattle.em_log.specs.declared.ask.Ask.{Ask}
use Rattle.em_log.specs.Declarations.{declarations_of}
use Rattle.em_log.specs.Lawful.{AllAllowed}
use Rattle.em_log.specs.Lawful as next
use Rattle.em_histories.specs.Words.{queue, pool}
use Rattle.em_histories.specs.Runs.{IsWrongAt}
use Rattle.em_histories.specs.wrong.OrderEndedAgain.{run}
use Rattle.em_histories.proofs.Chain.{◌after◌, allowed}
use Rattle.em_histories.proofs.Refusals.{some-none, moment-of-newest}

before : AllAllowed (declarations_of run.graph) run.limits (reverse (take 9 run.history))
before =
    allowed tt (next.Asks Ask.EndOrdered refl refl)
    after allowed tt refl
    after allowed tt (next.Asks (Ask.Send 131072 (queue 1) None) refl refl)
    after allowed tt refl
    after allowed tt (next.Takes 0 refl refl)
    after allowed tt (next.Asks (Ask.End None) refl refl)
    after allowed tt (next.Asks (Ask.Send 65536 (queue 0) None) refl refl)
    after allowed tt (next.Asks (Ask.Alloc (pool 0) 1 []) refl refl)
    after allowed tt (next.Boots refl refl refl)
    after tt

wrong : AllAllowed (declarations_of run.graph) run.limits (reverse (take 10 run.history)) → ⊥
wrong all = some-none (sym (moment-of-newest (declarations_of run.graph) run.limits (reverse (take 10 run.history)) all).is)

pub is_wrong : IsWrongAt 9 run
is_wrong =
    record {
      before = before;
      wrong = wrong;
      unlawful = λ lawful. wrong lawful.each;
    }
