use Rattle.std.proofs.Common.{[], ◌∷◌, None, take, reverse, ap, sym, refl}
use Rattle.em_log.specs.declared.ask.Ask.{Ask}
use Rattle.em_log.specs.Declarations.{declarations_of}
use Rattle.em_log.specs.Lawful.{AllAllowed}
use Rattle.em_log.specs.Lawful as next
use Rattle.em_histories.specs.Words.{pool, object, note}
use Rattle.em_histories.specs.Runs.{IsWrongAt}
use Rattle.em_histories.specs.wrong.FailedStartTakenForGood.{run}
use Rattle.em_histories.proofs.Chain.{◌after◌, allowed}
use Rattle.em_histories.proofs.Refusals.{false-true, ok_shown, next-of-newest}

before : AllAllowed (declarations_of run.graph) run.limits (reverse (take 7 run.history))
before =
    allowed tt (next.Asks (Ask.End None) refl refl)
    after allowed tt (next.Asks Ask.Fail refl refl)
    after allowed tt (next.Steps refl refl)
    after allowed tt (next.Asks (Ask.End None) refl refl)
    after allowed tt (next.Asks (Ask.Start (object 0) ((note 65536 0) ∷ [])) refl refl)
    after allowed tt (next.Asks (Ask.Alloc (pool 0) 3 []) refl refl)
    after allowed tt (next.Boots refl refl refl)
    after tt

wrong : AllAllowed (declarations_of run.graph) run.limits (reverse (take 8 run.history)) → ⊥
wrong all = false-true (sym (ap ok_shown (next-of-newest (declarations_of run.graph) run.limits (reverse (take 8 run.history)) all)))

pub is_wrong : IsWrongAt 7 run
is_wrong =
    record {
      before = before;
      wrong = wrong;
      unlawful = λ lawful. wrong lawful.each;
    }
