use Rattle.std.proofs.Common.{◌≡◌, ◌≤◌, ◌+◌, length}
use Rattle.em_script.specs.Lines.{lines}
use Rattle.em_script.specs.Reading.{found_from, script_of}
use Rattle.em_script.specs.State.{state_of}
use Rattle.em_script.proofs.reading.read_lines.Given as goal

abbrev pub invariant-lines : goal.invariant-lines
invariant-lines l = record {
  so_far : found_from l.number (state_of l.draft) (lines l.rest) ≡ script_of l.bytes;
  cores : l.draft.cores ≤ 8;
  within : l.number + length l.rest ≤ length l.bytes + 1;
}

abbrev pub decreases-lines : goal.decreases-lines
decreases-lines l = length l.rest
