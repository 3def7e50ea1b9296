use Rattle.std.proofs.Common.{[], take, reverse, refl}
use Rattle.em_log.specs.declared.ask.Ask.{Ask}
use Rattle.em_log.specs.Declarations.{declarations_of}
use Rattle.em_log.specs.Lawful.{AllAllowed}
use Rattle.em_log.specs.Lawful as next
use Rattle.em_histories.specs.Words.{pool}
use Rattle.em_histories.specs.Runs.{IsWrongAt}
use Rattle.em_histories.specs.wrong.StaleHandleFreed.{run}
use Rattle.em_histories.proofs.Chain.{◌after◌, allowed}
use Rattle.em_histories.proofs.Refusals.{some-none, moment-of-newest, all-behind}

before : AllAllowed (declarations_of run.graph) run.limits (reverse (take 4 run.history))
before =
    allowed tt (next.Asks (Ask.Alloc (pool 0) 0 []) refl refl)
    after allowed tt (next.Asks (Ask.Free 65536) refl refl)
    after allowed tt (next.Asks (Ask.Alloc (pool 0) 0 []) refl refl)
    after allowed tt (next.Boots refl refl refl)
    after tt

wrong : AllAllowed (declarations_of run.graph) run.limits (reverse (take 5 run.history)) → ⊥
wrong all = some-none (moment-of-newest (declarations_of run.graph) run.limits (reverse (take 5 run.history)) all).rule

pub is_wrong : IsWrongAt 4 run
is_wrong =
    record {
      before = before;
      wrong = wrong;
      unlawful = λ lawful. wrong (all-behind (declarations_of run.graph) run.limits 2 (reverse run.history) lawful.each);
    }
