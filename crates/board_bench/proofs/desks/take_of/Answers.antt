use Rattle.em_log.specs.Contexts.{context}
use Rattle.em_laws.proofs.Single.{nothing-taken}
use Rattle.em_drive.proofs.Took.{takes-grown}
use Rattle.em_board_rows.proofs.Cores.{after-take, none-there}
use Rattle.board_bench.proofs.Lefts.{leaves}
use Rattle.board_bench.proofs.desks.take_of.Goals as goal

pub take-requires-clause-untaken : goal.take-requires-clause-untaken
take-requires-clause-untaken c =
    let d = c.args.desk.now in
    let lawful = c.log-log.ensures.lawful in
    nothing-taken d.declarations d.limits d.past c.requires.run.run.burst lawful.each lawful.whole c.args.core.0

pub returns-in-Ok-clause-inside : goal.returns-in-Ok-clause-inside
returns-in-Ok-clause-inside c =
    let d = c.args.desk.now in
    let n = c.args.core.0 in
    (after-take d.declarations d.limits c.requires.run.run d.halted d.past c.take.new.self.past n c.in-Ok.reply.answer (none-there (context d.past n) c.requires.between)
    c.in-Ok.ensures.idle c.in-Ok.ensures.takes).inside

pub returns-in-Ok-clause-whole : goal.returns-in-Ok-clause-whole
returns-in-Ok-clause-whole c =
    let d = c.args.desk.now in
    let n = c.args.core.0 in
    (after-take d.declarations d.limits c.requires.run.run d.halted d.past c.take.new.self.past n c.in-Ok.reply.answer (none-there (context d.past n) c.requires.between)
    c.in-Ok.ensures.idle c.in-Ok.ensures.takes).whole

pub returns-in-Ok-clause-others : goal.returns-in-Ok-clause-others
returns-in-Ok-clause-others c =
    let d = c.args.desk.now in
    let n = c.args.core.0 in
    leaves n d c.take.new.self c.in-Ok.ensures.run
    (takes-grown d.declarations d.limits d.halted d.past c.take.new.self.past n c.in-Ok.reply.answer c.in-Ok.ensures.takes)
