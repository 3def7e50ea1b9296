use Rattle.std.proofs.Common.{false}
use Rattle.em_board_rows.specs.Cores.{IsPlainRun}
use Rattle.em_board_rows.proofs.Calls.{untaken, taken-at}
use Rattle.em_board_rows.proofs.boot.take_alone.Goals as goal

pub take-requires-clause-untaken : goal.take-requires-clause-untaken
take-requires-clause-untaken g c = untaken IsPlainRun (λ k l run. run) c.args.board.now false c.args.pass.now c.requires.between

pub returns-clause-ok : goal.returns-clause-ok
returns-clause-ok g c =
    taken-at IsPlainRun (λ k l run. run) c.args.board.now c.args.pass.now c.take.new.pass c.in_ok-reply.reply c.requires.between c.in_ok-reply.ensures.ok
