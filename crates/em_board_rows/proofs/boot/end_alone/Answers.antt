use Rattle.em_board_rows.specs.Cores.{IsPlainRun}
use Rattle.em_board_rows.proofs.Calls.{ended-at}
use Rattle.em_board_rows.proofs.boot.end_alone.Goals as goal

pub returns-clause-between : goal.returns-clause-between
returns-clause-between g c = ended-at IsPlainRun (λ k l run. run) c.args.board.now c.args.pass.now c.ask.new.pass c.ask.result c.requires.inside c.ask.ensures
