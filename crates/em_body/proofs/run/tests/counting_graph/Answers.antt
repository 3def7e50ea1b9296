use Rattle.em_body.proofs.ExampleGraph.{if-well}
use Rattle.em_body.proofs.run.tests.counting_graph.Goals as goal

pub returns : goal.returns
returns c = if-well c.graph.result c.in_ok-counting_block.field-0 c.in_ok-counting_block.ensures c.graph.ensures
