use Rattle.std.proofs.Common.{◌≡◌, [], ◌∷◌, Some, None, take, reverse, arith, refl}
use Rattle.em_log.specs.declared.ask.Ask.{Ask}
use Rattle.em_log.specs.Declarations.{declarations_of}
use Rattle.em_log.specs.Lawful.{AllAllowed}
use Rattle.em_log.specs.Lawful as next
use Rattle.em_histories.specs.Words.{queue, pool, event_group, note}
use Rattle.em_histories.specs.Runs.{IsWrongAt}
use Rattle.em_histories.specs.wrong.NotifiedBeforeTheLastEnd.{run}
use Rattle.em_histories.proofs.Chain.{◌after◌, allowed}
use Rattle.em_histories.proofs.Refusals.{moment-of-newest}

before : AllAllowed (declarations_of run.graph) run.limits (reverse (take 14 run.history))
before =
    allowed tt (next.Asks Ask.EndGroup refl refl)
    after allowed tt (next.Asks (Ask.Send 65539 (queue 0) (Some (event_group 0))) refl refl)
    after allowed tt (next.Asks (Ask.Alloc (pool 0) 2 []) refl refl)
    after allowed tt (next.Asks (Ask.Increment 1) refl refl)
    after allowed tt refl
    after allowed tt (next.Takes 0 refl refl)
    after allowed tt (next.Asks (Ask.End None) refl refl)
    after allowed tt (next.Asks (Ask.Send 65538 (queue 0) (Some (event_group 0))) refl refl)
    after allowed tt (next.Asks (Ask.Alloc (pool 0) 2 []) refl refl)
    after allowed tt (next.Asks (Ask.Send 65537 (queue 0) (Some (event_group 0))) refl refl)
    after allowed tt (next.Asks (Ask.Alloc (pool 0) 1 []) refl refl)
    after allowed tt (next.Asks (Ask.Apply (event_group 0) 1 ((note 65536 1) ∷ [])) refl refl)
    after allowed tt (next.Asks (Ask.Alloc (pool 0) 9 []) refl refl)
    after allowed tt (next.Boots refl refl refl)
    after tt

wrong : AllAllowed (declarations_of run.graph) run.limits (reverse (take 15 run.history)) → ⊥
wrong all = let left : 1 ≡ 0 = (moment-of-newest (declarations_of run.graph) run.limits (reverse (take 15 run.history)) all).count in absurd (omega (arith, left))

pub is_wrong : IsWrongAt 14 run
is_wrong =
    record {
      before = before;
      wrong = wrong;
      unlawful = λ lawful. wrong lawful.each;
    }
