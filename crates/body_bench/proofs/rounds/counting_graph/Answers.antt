use Rattle.body_bench.specs.Rounds.{rounds, counting}
use Rattle.body_bench.proofs.Fitting.{counting-well, if-well, with-block}
use Rattle.body_bench.proofs.rounds.counting_graph.Goals as goal

pub returns : goal.returns
returns c =
    if-well c.graph.result (rounds c.args.times counting) (counting-well c.args.times c.requires.some c.requires.few)
    (with-block c.graph.result c.args.times c.in_ok-counting_block.field-0 counting c.in_ok-counting_block.ensures c.graph.ensures)
