use Rattle.std.proofs.Common.{[], ◌∷◌, Some, None, take, reverse, refl}
use Rattle.em_log.specs.declared.ask.Ask.{Ask}
use Rattle.em_log.specs.Declarations.{declarations_of}
use Rattle.em_log.specs.Lawful.{AllAllowed}
use Rattle.em_log.specs.Lawful as next
use Rattle.em_histories.specs.Words.{queue, pool, event_group, note, cells}
use Rattle.em_histories.specs.Runs.{IsWrongAt}
use Rattle.em_histories.specs.wrong.AppliedWhileBusy.{run}
use Rattle.em_histories.proofs.Chain.{◌after◌, allowed}
use Rattle.em_histories.proofs.Refusals.{some-none, moment-of-newest}

before : AllAllowed (declarations_of run.graph) run.limits (reverse (take 14 run.history))
before =
    allowed tt (next.Asks (Ask.Apply (event_group 0) 1 ((note 65536 2) ∷ [])) refl refl)
    after allowed tt (next.Asks (Ask.Apply (event_group 0) 0 []) refl refl)
    after allowed tt (next.Asks (Ask.Abort (event_group 0)) refl refl)
    after allowed tt (next.Asks (Ask.Increment 1) refl refl)
    after allowed tt (next.Asks Ask.EndGroup refl refl)
    after allowed tt (next.Asks Ask.EndOrdered refl refl)
    after allowed tt (next.Asks (Ask.EndAtomic (cells (0 ∷ 0 ∷ 0 ∷ 0 ∷ 0 ∷ 0 ∷ 0 ∷ 0 ∷ []))) refl refl)
    after allowed tt (next.Asks (Ask.Enable (queue 1)) refl refl)
    after allowed tt (next.Asks (Ask.Dequeue (queue 2)) refl refl)
    after allowed tt (next.Asks (Ask.Send 65536 (queue 1) (Some (event_group 0))) refl refl)
    after allowed tt (next.Asks (Ask.Send 65536 (queue 0) None) refl refl)
    after allowed tt (next.Asks (Ask.Alloc (pool 0) 0 []) refl refl)
    after allowed tt (next.Asks (Ask.Alloc (pool 0) 0 (1 ∷ 2 ∷ [])) refl refl)
    after allowed tt (next.Boots refl refl refl)
    after tt

wrong : AllAllowed (declarations_of run.graph) run.limits (reverse (take 15 run.history)) → ⊥
wrong all = some-none (moment-of-newest (declarations_of run.graph) run.limits (reverse (take 15 run.history)) all).count

pub is_wrong : IsWrongAt 14 run
is_wrong =
    record {
      before = before;
      wrong = wrong;
      unlawful = λ lawful. wrong lawful.each;
    }
