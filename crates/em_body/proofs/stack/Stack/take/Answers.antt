use Rattle.std.proofs.Common.{arith}
use Rattle.std.proofs.lemmas.List.{length-reverse, length-map}
use Rattle.em_body.proofs.stack.Stack.take.Goals as goal

pub enter-requires : goal.enter-requires
enter-requires c = simp (length-reverse, length-map) (omega (arith, c.in-Some.ensures.len))

pub resume-requires : goal.resume-requires
resume-requires c = simp (length-reverse, length-map) (omega (arith, c.in-Some.ensures.len))
