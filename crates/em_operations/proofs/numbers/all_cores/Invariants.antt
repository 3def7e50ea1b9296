use Rattle.std.proofs.Common.{◌≡◌}
use Rattle.em_log.specs.Declarations.{all_cores as all_cores_of}
use Rattle.em_operations.proofs.numbers.all_cores.Given as goal

abbrev pub invariant-loop : goal.invariant-loop
invariant-loop l = l.mask ≡ all_cores_of l.counter
