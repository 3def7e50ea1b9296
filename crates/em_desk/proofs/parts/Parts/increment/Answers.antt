use Rattle.std.proofs.Common.{refl, arith}
use Rattle.em_log.specs.declared.ask.Ask.{Ask}
use Rattle.em_desk.proofs.GroupAsks.{no-increment}
use Rattle.em_desk.proofs.parts.Parts.increment.Goals as goal

pub refuse-requires-clause-refused : goal.refuse-requires-clause-refused
refuse-requires-clause-refused c =
    (Ask.Increment c.args.n, c.requires.may, omega arith, no-increment c.args.self.now c.args.core.0 c.args.n c.requires.stands, refl)

pub returns-clause-adds : goal.returns-clause-adds
returns-clause-adds c = c.refuse.ensures.adds (Ask.Increment c.args.n) (no-increment c.args.self.now c.args.core.0 c.args.n c.requires.stands) refl
