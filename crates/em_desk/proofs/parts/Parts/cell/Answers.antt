use Rattle.std.proofs.Common.{refl, arith}
use Rattle.em_log.specs.declared.ask.Ask.{Ask}
use Rattle.em_desk.proofs.parts.Parts.cell.Goals as goal

pub refuse-requires-clause-refused : goal.refuse-requires-clause-refused
refuse-requires-clause-refused c = (Ask.Cell, c.requires.may, omega arith, refl, refl)

pub returns-clause-adds : goal.returns-clause-adds
returns-clause-adds c = c.refuse.ensures.adds Ask.Cell refl refl
