use Rattle.em_board_rows.specs.Cores.{HasOneQueue}
use Rattle.em_board_rows.proofs.Calls.{of-one, ended-at}
use Rattle.em_board_rows.proofs.callers.end.Goals as goal

pub returns-clause-between : goal.returns-clause-between
returns-clause-between g c = ended-at HasOneQueue of-one c.args.board.now c.args.pass.now c.ask.new.pass c.ask.result c.requires.inside c.ask.ensures
