use Rattle.std.proofs.Common.{[]}
use Rattle.body_bench.specs.Rounds.{rounds}
use Rattle.body_bench.proofs.Fitting.{empty-well, if-well, with-block}
use Rattle.body_bench.proofs.rounds.empty_graph.Goals as goal

pub returns : goal.returns
returns c =
    if-well c.graph.result (rounds c.args.times []) (empty-well c.args.times c.requires.some c.requires.few)
    (with-block c.graph.result c.args.times c.new.result [] c.new.ensures c.graph.ensures)
