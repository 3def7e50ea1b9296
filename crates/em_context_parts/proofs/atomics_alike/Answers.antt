use Rattle.em_context_parts.proofs.AtomicCells.{atomics-alike}
use Rattle.em_context_parts.proofs.atomics_alike.Goals as goal

pub returns : goal.returns
returns c = λ k l past burst all. atomics-alike k l past burst all
