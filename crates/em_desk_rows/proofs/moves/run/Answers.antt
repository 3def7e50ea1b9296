use Rattle.std.proofs.Common.{sym, subst}
use Rattle.em_desk_rows.specs.Moves.{Drives}
use Rattle.em_desk_rows.proofs.moves.run.Goals as goal

pub drive-requires : goal.drive-requires
drive-requires c = subst (λ d. Drives d c.args.moves.now) (sym c.in_ok-desk.ensures) c.requires.drives
