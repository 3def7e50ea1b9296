use Rattle.std.proofs.Common.{◌≡◌, replicate}
use Rattle.em_desk.specs.declared.opening.Opening.{Opening as TheOpening}
use Rattle.em_desk.proofs.opening.closed.Given as goal

abbrev pub invariant-loop : goal.invariant-loop
invariant-loop l = l.contexts.items ≡ replicate l.counter TheOpening.Closed
