use Rattle.std.proofs.Common.{refl, sym}
use Rattle.em_body.specs.Standings.{Sets, Branches, Repeats}
use Rattle.em_body.proofs.Carried.{write-does}
use Rattle.em_body.proofs.standing.Standing.carry_out.Goals as goal

pub returns-in-Set : goal.returns-in-Set
returns-in-Set c = Sets c.in-Set.v c.in-Set.e c.in-Set.is refl (rw (c.set.ensures, c.value-n.ensures) refl)

pub returns-in-If : goal.returns-in-If
returns-in-If c =
    Branches c.in-If.test c.in-If.yes c.in-If.no c.in-If.has_else c.in-If.is refl
    (rw (c.enter.ensures, c.chosen.ensures, c.value-test.ensures, c.as_slice.ensures, c.as_slice-in-If.ensures) refl)

pub returns-in-Repeat : goal.returns-in-Repeat
returns-in-Repeat c =
    Repeats c.in-Repeat.times c.in-Repeat.block c.in-Repeat.is refl (rw (c.enter-in-Repeat.ensures, c.as_slice-in-Repeat.ensures) refl)

pub returns-in-CellWrite : goal.returns-in-CellWrite
returns-in-CellWrite c =
    write-does c.args.self.now.environment.cells _ _ _ _ c.in-CellWrite.is refl (sym c.if-is_some.ensures) _
    (rw (c.write.ensures, c.value-cell.ensures, c.value-n-in-CellWrite.ensures) refl)
