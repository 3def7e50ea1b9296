use Rattle.std.proofs.Common.{[], None, take, reverse, refl}
use Rattle.em_log.specs.declared.ask.Ask.{Ask}
use Rattle.em_log.specs.Declarations.{declarations_of}
use Rattle.em_log.specs.Lawful.{AllAllowed}
use Rattle.em_log.specs.Lawful as next
use Rattle.em_histories.specs.Runs.{IsWrongAt}
use Rattle.em_histories.specs.wrong.BootedTwice.{run}
use Rattle.em_histories.proofs.Chain.{◌after◌, allowed}
use Rattle.em_histories.proofs.Refusals.{no-second-boot, moment-of-newest}

before : AllAllowed (declarations_of run.graph) run.limits (reverse (take 2 run.history))
before =
    allowed tt (next.Asks (Ask.End None) refl refl)
    after allowed tt (next.Boots refl refl refl)
    after tt

wrong : AllAllowed (declarations_of run.graph) run.limits (reverse (take 3 run.history)) → ⊥
wrong all = no-second-boot _ _ _ _ _ refl (moment-of-newest (declarations_of run.graph) run.limits (reverse (take 3 run.history)) all)

pub is_wrong : IsWrongAt 2 run
is_wrong =
    record {
      before = before;
      wrong = wrong;
      unlawful = λ lawful. wrong lawful.each;
    }
