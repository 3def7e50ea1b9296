use Rattle.std.proofs.Common.{[], ◌∷◌, None, take, reverse, refl}
use Rattle.em_log.specs.declared.ask.Ask.{Ask}
use Rattle.em_log.specs.Declarations.{declarations_of}
use Rattle.em_log.specs.Lawful.{AllAllowed}
use Rattle.em_log.specs.Lawful as next
use Rattle.em_histories.specs.Words.{queue, pool, queue_group, note}
use Rattle.em_histories.specs.Runs.{IsWrongAt}
use Rattle.em_histories.specs.wrong.AcknowledgedWhileAReceiveRuns.{run}
use Rattle.em_histories.proofs.Chain.{◌after◌, allowed}
use Rattle.em_histories.proofs.Refusals.{moment-of-newest, no-acknowledgement, all-behind}

before : AllAllowed (declarations_of run.graph) run.limits (reverse (take 14 run.history))
before =
    allowed tt (next.Asks (Ask.Say 1) refl refl)
    after allowed tt (next.Asks (Ask.End None) refl refl)
    after allowed tt (next.Asks (Ask.Say 1) refl refl)
    after allowed tt (next.Asks (Ask.Modify (queue_group 1) 2 ((note 131073 2) ∷ [])) refl refl)
    after allowed tt refl
    after allowed tt (next.Takes 0 refl refl)
    after allowed tt refl
    after allowed tt (next.Takes 1 refl refl)
    after allowed tt (next.Asks (Ask.End None) refl refl)
    after allowed tt (next.Asks (Ask.Send 65537 (queue 1) None) refl refl)
    after allowed tt (next.Asks (Ask.Alloc (pool 0) 2 []) refl refl)
    after allowed tt (next.Asks (Ask.Send 65536 (queue 0) None) refl refl)
    after allowed tt (next.Asks (Ask.Alloc (pool 0) 1 []) refl refl)
    after allowed tt (next.Boots refl refl refl)
    after tt

wrong : AllAllowed (declarations_of run.graph) run.limits (reverse (take 15 run.history)) → ⊥
wrong all = no-acknowledgement _ _ _ _ _ refl refl (moment-of-newest (declarations_of run.graph) run.limits (reverse (take 15 run.history)) all)

pub is_wrong : IsWrongAt 14 run
is_wrong =
    record {
      before = before;
      wrong = wrong;
      unlawful = λ lawful. wrong (all-behind (declarations_of run.graph) run.limits 5 (reverse run.history) lawful.each);
    }
