use Rattle.std.proofs.Common.{[], ◌∷◌, None, take, reverse, refl}
use Rattle.em_log.specs.declared.ask.Ask.{Ask}
use Rattle.em_log.specs.Declarations.{declarations_of}
use Rattle.em_log.specs.Lawful.{AllAllowed}
use Rattle.em_log.specs.Lawful as next
use Rattle.em_histories.specs.Words.{pool, object, note}
use Rattle.em_histories.specs.Runs.{IsWrongAt}
use Rattle.em_histories.specs.wrong.NoteReceivedByItsStoppedObject.{run}
use Rattle.em_histories.proofs.Chain.{◌after◌, allowed}
use Rattle.em_histories.proofs.Refusals.{false-true, moment-of-newest}

before : AllAllowed (declarations_of run.graph) run.limits (reverse (take 11 run.history))
before =
    allowed tt refl
    after allowed tt refl
    after allowed tt (next.Asks (Ask.End None) refl refl)
    after allowed tt (next.Steps refl refl)
    after allowed tt refl
    after allowed tt (next.Asks (Ask.End None) refl refl)
    after allowed tt (next.Steps refl refl)
    after allowed tt (next.Asks (Ask.End None) refl refl)
    after allowed tt (next.Asks (Ask.Stop (object 0) ((note 65536 0) ∷ [])) refl refl)
    after allowed tt (next.Asks (Ask.Alloc (pool 0) 3 []) refl refl)
    after allowed tt (next.Boots refl refl refl)
    after tt

wrong : AllAllowed (declarations_of run.graph) run.limits (reverse (take 12 run.history)) → ⊥
wrong all = false-true (moment-of-newest (declarations_of run.graph) run.limits (reverse (take 12 run.history)) all).choice

pub is_wrong : IsWrongAt 11 run
is_wrong =
    record {
      before = before;
      wrong = wrong;
      unlawful = λ lawful. wrong lawful.each;
    }
