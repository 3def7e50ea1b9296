use Rattle.em_body.proofs.OneStatementGraph.{if-stating, with-body}
use Rattle.em_body.proofs.run.tests.bodies.graph_of.Goals as goal

pub returns : goal.returns
returns c =
    if-stating c.whole.result c.args.s c.requires
    (with-body c.whole.result c.in_ok-body.field-0 c.args.s c.in_ok-body.ensures c.whole.ensures)
