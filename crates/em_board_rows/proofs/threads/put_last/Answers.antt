use Rattle.std.proofs.Common.{sym, subst}
use Rattle.em_board_rows.specs.Passes.{AreBetween}
use Rattle.em_board_rows.proofs.Passes.{with-last}
use Rattle.em_board_rows.proofs.threads.put_last.Goals as goal

pub returns-clause-between : goal.returns-clause-between
returns-clause-between c =
    subst (AreBetween c.args.board.now c.args.cores) (sym c.push.ensures)
    (with-last c.args.board.now c.args.cores c.args.passes c.args.pass (record { rest = c.requires.between; last = c.requires.pass; room = c.requires.cores }))
