use Rattle.std.proofs.Common.{◌≡◌, ◌+◌, ◌≤◌, length}
use Rattle.em_trace.specs.Line.{pieces}
use Rattle.em_trace.specs.Reading.{found_from, behind}
use Rattle.em_trace.proofs.history.read_lines.Given as goal

abbrev pub invariant-lines : goal.invariant-lines
invariant-lines l = record {
  so_far : behind l.entries (found_from l.number l.place (pieces 10 l.rest)) ≡ found_from 2 0 (pieces 10 l.bytes);
  within : l.number + length l.rest ≤ length l.bytes + 2;
  placed : l.place ≤ l.number;
}

abbrev pub decreases-lines : goal.decreases-lines
decreases-lines l = length l.rest
