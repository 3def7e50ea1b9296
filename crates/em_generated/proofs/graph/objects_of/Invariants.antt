use Rattle.std.proofs.Common.{◌≡◌, map}
use Rattle.std.specs.List.{range_with_len}
use Rattle.em_generated.specs.Graph.{object_of}
use Rattle.em_generated.proofs.graph.objects_of.Given as goal

abbrev pub invariant-loop-i : goal.invariant-loop-i
invariant-loop-i l = l.eos ≡ map (object_of l.n) (range_with_len 0 l.i)
