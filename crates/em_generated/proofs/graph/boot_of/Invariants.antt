use Rattle.std.proofs.Common.{◌≡◌, map}
use Rattle.std.specs.List.{range_with_len}
use Rattle.em_generated.specs.Graph.{begun}
use Rattle.em_generated.proofs.graph.boot_of.Given as goal

abbrev pub invariant-loop-object : goal.invariant-loop-object
invariant-loop-object l = l.boot ≡ map begun (range_with_len 0 l.object)
