use Rattle.std.proofs.Common.{◌≡◌, ◌∙◌, [], take, reverse, refl, arith, ap, sym, unwrap_or}
use Rattle.em_log.specs.declared.ask.Ask.{Ask}
use Rattle.em_log.specs.Handles.{next_handle}
use Rattle.em_log.specs.Declarations.{declarations_of}
use Rattle.em_log.specs.Lawful.{AllAllowed}
use Rattle.em_log.specs.Lawful as next
use Rattle.em_histories.specs.Words.{pool}
use Rattle.em_histories.specs.Runs.{IsWrongAt}
use Rattle.em_histories.specs.wrong.HandleGivenAgain.{run}
use Rattle.em_histories.proofs.Chain.{◌after◌, allowed}
use Rattle.em_histories.proofs.Refusals.{moment-of-newest, all-behind}

before : AllAllowed (declarations_of run.graph) run.limits (reverse (take 3 run.history))
before =
    allowed tt (next.Asks (Ask.Free 65536) refl refl)
    after allowed tt (next.Asks (Ask.Alloc (pool 0) 0 []) refl refl)
    after allowed tt (next.Boots refl refl refl)
    after tt

wrong : AllAllowed (declarations_of run.graph) run.limits (reverse (take 4 run.history)) → ⊥
wrong all =
    let moment = moment-of-newest (declarations_of run.graph) run.limits (reverse (take 4 run.history)) all in
    let index : 0 ≡ moment.index = ap (λ i. unwrap_or i 0) moment.free in
    let handle : 65536 ≡ 131072 = moment.handle ∙ ap (next_handle (reverse (take 3 run.history))) (sym index) in
    absurd (omega (arith, handle))

pub is_wrong : IsWrongAt 3 run
is_wrong =
    record {
      before = before;
      wrong = wrong;
      unlawful = λ lawful. wrong (all-behind (declarations_of run.graph) run.limits 1 (reverse run.history) lawful.each);
    }
