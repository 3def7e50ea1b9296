use Rattle.std.proofs.Common.{Result, Ok, Err, OnErr, false}
use Rattle.em_log.specs.declared.ask.Answer.{Answer}
use Rattle.em_log.specs.declared.ids.NoMemory.{NoMemory}
use Rattle.em_board_rows.specs.Cores.{HasOneQueue}
use Rattle.em_board_rows.proofs.Calls.{of-one, untaken, taken-at, untaken-at}
use Rattle.em_board_rows.proofs.callers.take.Goals as goal

on-err : {X : Type 0} (r : Result Answer NoMemory) → X → OnErr r X
on-err (Ok x) h = tt
on-err (Err e) h = h

pub take-requires-clause-untaken : goal.take-requires-clause-untaken
take-requires-clause-untaken g c = untaken HasOneQueue of-one c.args.board.now false c.args.pass.now c.requires.between

pub returns-in_err-reply-clause-err : goal.returns-in_err-reply-clause-err
returns-in_err-reply-clause-err g c =
    on-err c.from_residual.result (untaken-at HasOneQueue of-one c.args.board.now c.args.pass.now c.take.new.pass c.requires.between c.in_err-reply.ensures.err)

pub returns-clause-ok : goal.returns-clause-ok
returns-clause-ok g c =
    taken-at HasOneQueue of-one c.args.board.now c.args.pass.now c.take.new.pass c.in_ok-reply.reply c.requires.between c.in_ok-reply.ensures.ok
