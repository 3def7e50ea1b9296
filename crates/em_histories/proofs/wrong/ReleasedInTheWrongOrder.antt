use Rattle.std.proofs.Common.{◌≡◌, [], None, take, reverse, refl, arith, ap}
use Rattle.em_log.specs.declared.ask.Ask.{Ask}
use Rattle.em_log.specs.Declarations.{declarations_of}
use Rattle.em_log.specs.Lawful.{AllAllowed}
use Rattle.em_log.specs.Lawful as next
use Rattle.em_histories.specs.Words.{queue, pool}
use Rattle.em_histories.specs.Runs.{IsWrongAt}
use Rattle.em_histories.specs.wrong.ReleasedInTheWrongOrder.{run}
use Rattle.em_histories.proofs.Chain.{◌after◌, allowed}
use Rattle.em_histories.proofs.Refusals.{next-of-newest, kind_shown, all-behind}

before : AllAllowed (declarations_of run.graph) run.limits (reverse (take 32 run.history))
before =
    allowed tt (next.Asks (Ask.End None) refl refl)
    after allowed tt (next.Asks (Ask.End None) refl refl)
    after allowed tt (next.Asks (Ask.Say 2) refl refl)
    after allowed tt (next.Asks (Ask.Say 2) refl refl)
    after allowed tt (next.Asks (Ask.Say 1) refl refl)
    after allowed tt (next.Asks (Ask.End None) refl refl)
    after allowed tt (next.Asks (Ask.Say 2) refl refl)
    after allowed tt (next.Asks (Ask.Say 1) refl refl)
    after allowed tt (next.Asks (Ask.Send 65540 (queue 2) None) refl refl)
    after allowed tt (next.Asks (Ask.Send 65539 (queue 2) None) refl refl)
    after allowed tt (next.Asks (Ask.Send 196608 (queue 2) None) refl refl)
    after allowed tt (next.Asks (Ask.Alloc (pool 0) 3 []) refl refl)
    after allowed tt (next.Asks (Ask.Alloc (pool 0) 2 []) refl refl)
    after allowed tt (next.Asks (Ask.Alloc (pool 0) 1 []) refl refl)
    after allowed tt (next.Asks (Ask.Send 131074 (queue 1) None) refl refl)
    after allowed tt (next.Asks (Ask.Send 131073 (queue 1) None) refl refl)
    after allowed tt refl
    after allowed tt (next.Asks (Ask.Send 131072 (queue 1) None) refl refl)
    after allowed tt refl
    after allowed tt (next.Takes 0 refl refl)
    after allowed tt refl
    after allowed tt (next.Takes 0 refl refl)
    after allowed tt refl
    after allowed tt (next.Takes 0 refl refl)
    after allowed tt (next.Asks (Ask.End None) refl refl)
    after allowed tt (next.Asks (Ask.Send 65538 (queue 0) None) refl refl)
    after allowed tt (next.Asks (Ask.Alloc (pool 0) 3 []) refl refl)
    after allowed tt (next.Asks (Ask.Send 65537 (queue 0) None) refl refl)
    after allowed tt (next.Asks (Ask.Alloc (pool 0) 2 []) refl refl)
    after allowed tt (next.Asks (Ask.Send 65536 (queue 0) None) refl refl)
    after allowed tt (next.Asks (Ask.Alloc (pool 0) 1 []) refl refl)
    after allowed tt (next.Boots refl refl refl)
    after tt

wrong : AllAllowed (declarations_of run.graph) run.limits (reverse (take 33 run.history)) → ⊥
wrong all =
    let same : 3 ≡ 2 = ap kind_shown (next-of-newest (declarations_of run.graph) run.limits (reverse (take 33 run.history)) all) in
    absurd (omega (arith, same))

pub is_wrong : IsWrongAt 32 run
is_wrong =
    record {
      before = before;
      wrong = wrong;
      unlawful = λ lawful. wrong (all-behind (declarations_of run.graph) run.limits 1 (reverse run.history) lawful.each);
    }
