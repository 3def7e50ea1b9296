use Rattle.std.proofs.Common.{◌≡◌, length}
use Rattle.em_pool.proofs.tests.numbered.Given as goal

abbrev pub invariant-loop-i : goal.invariant-loop-i
invariant-loop-i l = length l.words ≡ l.i
