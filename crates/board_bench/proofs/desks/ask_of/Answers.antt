use Rattle.em_log.specs.Leads.{lead}
use Rattle.board_bench.proofs.Lefts.{leaves-block}
use Rattle.board_bench.proofs.desks.ask_of.Goals as goal

pub returns-clause-others : goal.returns-clause-others
returns-clause-others c =
    let d = c.args.desk.now in
    leaves-block c.args.core.0 d c.ask.new.self (lead d.declarations d.past c.args.core.0 c.args.ask) c.ask.ensures.run c.ask.ensures.past
