use Rattle.std.proofs.Common.{false}
use Rattle.em_board_rows.specs.Cores.{IsPlainRun}
use Rattle.em_board_rows.proofs.Calls.{halted-at}
use Rattle.em_board_rows.proofs.boot.halt_alone.Goals as goal

pub returns-clause-between : goal.returns-clause-between
returns-clause-between g c = halted-at IsPlainRun (λ k l run. run) c.args.board.now false c.args.pass.now c.halt.new.pass c.requires.between c.halt.ensures
