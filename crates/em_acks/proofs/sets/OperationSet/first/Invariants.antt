use Rattle.std.proofs.Common.{◌*◌}
use Rattle.em_acks.proofs.OwedSets.{NoneBelow}
use Rattle.em_acks.proofs.sets.OperationSet.first.Given as goal

abbrev pub invariant-loop-word : goal.invariant-loop-word
invariant-loop-word l = NoneBelow l.self (64 * l.word)
