use Rattle.std.proofs.Common.{false}
use Rattle.em_board_rows.specs.Cores.{HasOneQueue}
use Rattle.em_board_rows.proofs.Calls.{of-one, halted-at, same-rights}
use Rattle.em_board_rows.proofs.callers.halt.Goals as goal

pub returns-clause-between : goal.returns-clause-between
returns-clause-between g c = halted-at HasOneQueue of-one c.args.board.now false c.args.pass.now c.halt.new.pass c.requires.between c.halt.ensures
