use Rattle.std.proofs.Common.{ap, ◌∙◌, is_some, None}
use Rattle.em_log.specs.declared.ask.Ask.{Ask}
use Rattle.em_log.specs.Contexts.{context}
use Rattle.em_log.specs.History.{Past}
use Rattle.em_log.specs.Leads.{lead}
use Rattle.em_board_rows.proofs.Cores.{after-end}
use Rattle.board_bench.proofs.Lefts.{leaves-block}
use Rattle.board_bench.proofs.desks.end_of.Goals as goal

pub returns-clause-between : goal.returns-clause-between
returns-clause-between c =
    let d = c.args.desk.now in
    ap (λ (h : Past). is_some (context h c.args.core.0)) c.ask.ensures.past ∙ after-end d.declarations d.limits c.requires.run.run d.past c.args.core.0

pub returns-clause-others : goal.returns-clause-others
returns-clause-others c =
    let d = c.args.desk.now in
    leaves-block c.args.core.0 d c.ask.new.self (lead d.declarations d.past c.args.core.0 (Ask.End None)) c.ask.ensures.run c.ask.ensures.past
