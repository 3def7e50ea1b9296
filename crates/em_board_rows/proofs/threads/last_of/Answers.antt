use Rattle.em_board_rows.proofs.Passes.{rest-between, last-between, last-room}
use Rattle.em_board_rows.proofs.threads.last_of.Goals as goal

pub returns-clause-rest : goal.returns-clause-rest
returns-clause-rest c = rest-between c.args.board.now c.args.cores c.args.passes.now c.pop.new.self c.requires.between c.pop.result c.pop.ensures.list

pub returns-clause-last : goal.returns-clause-last
returns-clause-last c = last-between c.args.board.now c.args.cores c.args.passes.now c.pop.new.self c.requires.between c.pop.result c.pop.ensures.list

pub returns-clause-room : goal.returns-clause-room
returns-clause-room c = last-room c.args.board.now c.args.cores c.args.passes.now c.pop.new.self c.requires.between c.pop.result c.pop.ensures.list
