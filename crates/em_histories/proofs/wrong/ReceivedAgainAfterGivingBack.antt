use Rattle.std.proofs.Common.{◌≡◌, [], ◌∷◌, Some, None, take, reverse, refl, arith, ap}
use Rattle.em_log.specs.declared.ask.Ask.{Ask}
use Rattle.em_log.specs.Declarations.{declarations_of}
use Rattle.em_log.specs.Lawful.{AllAllowed}
use Rattle.em_log.specs.Lawful as next
use Rattle.em_histories.specs.Words.{queue, pool, queue_group, cells}
use Rattle.em_histories.specs.Runs.{IsWrongAt}
use Rattle.em_histories.specs.wrong.ReceivedAgainAfterGivingBack.{run}
use Rattle.em_histories.proofs.Chain.{◌after◌, allowed}
use Rattle.em_histories.proofs.Refusals.{next-of-newest, handle_shown, all-behind}

before : AllAllowed (declarations_of run.graph) run.limits (reverse (take 29 run.history))
before =
    allowed tt (next.Takes 0 refl refl)
    after allowed tt refl
    after allowed tt (next.Steps refl refl)
    after allowed tt (next.Steps refl refl)
    after allowed tt (next.Untakes 0 _ _ refl refl refl refl)
    after allowed tt (next.Asks (Ask.End (Some (cells (0 ∷ 0 ∷ 0 ∷ 0 ∷ 0 ∷ 0 ∷ 0 ∷ 0 ∷ [])))) refl refl)
    after allowed tt (next.Asks (Ask.Free 131073) refl refl)
    after allowed tt (next.Asks (Ask.End None) refl refl)
    after allowed tt (next.Asks (Ask.Free 131075) refl refl)
    after allowed tt (next.Asks (Ask.Say 1) refl refl)
    after allowed tt (next.Starts 0 _ _ refl refl refl refl)
    after allowed tt (next.Asks (Ask.End (Some (cells (0 ∷ 0 ∷ 0 ∷ 0 ∷ 0 ∷ 0 ∷ 0 ∷ 0 ∷ [])))) refl refl)
    after allowed tt (next.Asks (Ask.Free 131072) refl refl)
    after allowed tt (next.Asks (Ask.Modify (queue_group 1) 1 []) refl refl)
    after allowed tt (next.Asks (Ask.Say 1) refl refl)
    after allowed tt refl
    after allowed tt (next.Takes 1 refl refl)
    after allowed tt refl
    after allowed tt (next.Takes 0 refl refl)
    after allowed tt (next.Asks (Ask.End None) refl refl)
    after allowed tt (next.Asks (Ask.Send 65539 (queue 1) None) refl refl)
    after allowed tt (next.Asks (Ask.Alloc (pool 0) 2 []) refl refl)
    after allowed tt (next.Asks (Ask.Send 65538 (queue 0) None) refl refl)
    after allowed tt (next.Asks (Ask.Alloc (pool 0) 1 []) refl refl)
    after allowed tt (next.Asks (Ask.Send 65537 (queue 0) None) refl refl)
    after allowed tt (next.Asks (Ask.Alloc (pool 0) 1 []) refl refl)
    after allowed tt (next.Asks (Ask.Send 65536 (queue 0) None) refl refl)
    after allowed tt (next.Asks (Ask.Alloc (pool 0) 1 []) refl refl)
    after allowed tt (next.Boots refl refl refl)
    after tt

wrong : AllAllowed (declarations_of run.graph) run.limits (reverse (take 30 run.history)) → ⊥
wrong all =
    let same : 196609 ≡ 131074 = ap handle_shown (next-of-newest (declarations_of run.graph) run.limits (reverse (take 30 run.history)) all) in
    absurd (omega (arith, same))

pub is_wrong : IsWrongAt 29 run
is_wrong =
    record {
      before = before;
      wrong = wrong;
      unlawful = λ lawful. wrong (all-behind (declarations_of run.graph) run.limits 3 (reverse run.history) lawful.each);
    }
