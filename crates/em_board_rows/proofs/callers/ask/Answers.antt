use Rattle.em_board_rows.specs.Cores.{HasOneQueue}
use Rattle.em_board_rows.proofs.Calls.{of-one, asked-at, asked-room}
use Rattle.em_board_rows.proofs.callers.ask.Goals as goal

pub returns-clause-inside : goal.returns-clause-inside
returns-clause-inside g c =
    asked-at HasOneQueue of-one c.args.board.now c.args.pass.now c.ask.new.pass c.args.ask c.ask.result c.requires.inside c.ask.ensures c.requires.plain

pub returns-clause-room : goal.returns-clause-room
returns-clause-room g c =
    asked-room HasOneQueue of-one c.args.board.now c.args.pass.now c.ask.new.pass c.args.ask c.ask.result c.requires.inside c.ask.ensures c.requires.plain
