use Rattle.std.proofs.Common.{[], ◌∷◌, Some, None, take, reverse, refl}
use Rattle.em_log.specs.declared.ask.Ask.{Ask}
use Rattle.em_log.specs.Declarations.{declarations_of}
use Rattle.em_log.specs.Lawful.{AllAllowed}
use Rattle.em_log.specs.Lawful as next
use Rattle.em_histories.specs.Words.{queue, pool, event_group, note}
use Rattle.em_histories.specs.Runs.{IsWrongAt}
use Rattle.em_histories.specs.wrong.AbortedApplicationNotifies.{run}
use Rattle.em_histories.proofs.Chain.{◌after◌, allowed}
use Rattle.em_histories.proofs.Refusals.{false-true, moment-of-newest, all-behind}

before : AllAllowed (declarations_of run.graph) run.limits (reverse (take 15 run.history))
before =
    allowed tt (next.Asks (Ask.End None) refl refl)
    after allowed tt (next.Asks (Ask.Free 131073) refl refl)
    after allowed tt (next.Asks (Ask.Send 65538 (queue 0) (Some (event_group 0))) refl refl)
    after allowed tt (next.Asks (Ask.Alloc (pool 0) 2 []) refl refl)
    after allowed tt (next.Asks (Ask.Apply (event_group 0) 1 ((note 131072 1) ∷ [])) refl refl)
    after allowed tt (next.Asks (Ask.Alloc (pool 0) 8 []) refl refl)
    after allowed tt (next.Asks (Ask.Abort (event_group 0)) refl refl)
    after allowed tt refl
    after allowed tt (next.Takes 0 refl refl)
    after allowed tt (next.Asks (Ask.End None) refl refl)
    after allowed tt (next.Asks (Ask.Send 65537 (queue 0) (Some (event_group 0))) refl refl)
    after allowed tt (next.Asks (Ask.Alloc (pool 0) 1 []) refl refl)
    after allowed tt (next.Asks (Ask.Apply (event_group 0) 2 ((note 65536 1) ∷ [])) refl refl)
    after allowed tt (next.Asks (Ask.Alloc (pool 0) 9 []) refl refl)
    after allowed tt (next.Boots refl refl refl)
    after tt

wrong : AllAllowed (declarations_of run.graph) run.limits (reverse (take 16 run.history)) → ⊥
wrong all = false-true (moment-of-newest (declarations_of run.graph) run.limits (reverse (take 16 run.history)) all).current

pub is_wrong : IsWrongAt 15 run
is_wrong =
    record {
      before = before;
      wrong = wrong;
      unlawful = λ lawful. wrong (all-behind (declarations_of run.graph) run.limits 5 (reverse run.history) lawful.each);
    }
