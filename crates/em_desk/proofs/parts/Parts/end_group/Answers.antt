use Rattle.std.proofs.Common.{refl, arith}
use Rattle.em_log.specs.declared.ask.Ask.{Ask}
use Rattle.em_desk.proofs.GroupAsks.{no-early-end}
use Rattle.em_desk.proofs.parts.Parts.end_group.Goals as goal

pub refuse-requires-clause-refused : goal.refuse-requires-clause-refused
refuse-requires-clause-refused c =
    (Ask.EndGroup, c.requires.may, omega arith, no-early-end c.args.self.now c.args.core.0 c.requires.stands, refl)

pub returns-clause-adds : goal.returns-clause-adds
returns-clause-adds c = c.refuse.ensures.adds Ask.EndGroup (no-early-end c.args.self.now c.args.core.0 c.requires.stands) refl
