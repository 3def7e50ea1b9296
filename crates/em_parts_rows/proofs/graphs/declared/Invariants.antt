-- As many queues are declared as were looked at.
use Rattle.std.proofs.Common.{◌≡◌, length}
use Rattle.em_parts_rows.proofs.graphs.declared.Given as goal

abbrev pub invariant-loop-kind : goal.invariant-loop-kind
invariant-loop-kind l = length l.list ≡ l.kind-index
