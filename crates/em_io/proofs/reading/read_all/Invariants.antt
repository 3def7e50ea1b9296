-- What was read is what was taken, and no read has failed.
use Rattle.std.proofs.Common.{◌≡◌, ◌≤◌, ◌<◌, length, ◌-◌, vec_len}
use Rattle.em_io.specs.Source.{Takes}
use Rattle.em_io.proofs.reading.read_all.Given as goal

abbrev pub invariant-loop-count : goal.invariant-loop-count
invariant-loop-count g l = record {
  taken : Takes (g.S.Source.left l.initial.source) (g.S.Source.left l.source) (g.S.Source.given l.initial.source) (g.S.Source.given l.source) l.bytes.items;
  within : vec_len l.bytes ≤ l.limit;
  sound : g.S.Source.faults l.source ≡ g.S.Source.faults l.initial.source;
  room : 0 < length l.piece;
}

abbrev pub decreases-loop-count : goal.decreases-loop-count
decreases-loop-count g l = l.limit - vec_len l.bytes
