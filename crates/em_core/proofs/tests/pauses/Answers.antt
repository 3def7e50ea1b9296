use Rattle.em_core.specs.FixedAsks.{received}
use Rattle.em_core.proofs.tests.pauses.Goals as goal

pub returns-in-Silent : goal.returns-in-Silent
returns-in-Silent g c is =
    record {
      fixed = c.requires.fixed;
      stands = c.next.ensures.stands 0 c.requires.fixed received c.requires.stands;
      replied = rw c.in-Silent.is at c.next.ensures.unreplied;
    }
