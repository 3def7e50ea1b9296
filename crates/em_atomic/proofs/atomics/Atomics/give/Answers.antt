use Rattle.std.proofs.Common.{◌≡◌, ◌<◌, length, None, Some, ap, sym, ◌∙◌, subst, arith}
use Rattle.std.proofs.lemmas.List.{get_or_default}
use Rattle.em_atomic.specs.State.{AtomicState, atomic_number, held_in}
use Rattle.em_atomic.proofs.atomics.Atomics.give.Goals as goal

pub release-requires-clause-atomic : goal.release-requires-clause-atomic
release-requires-clause-atomic c =
    let cores = c.self.inside.cores.items in
    let number = c.from.ensures in
    let views = ap (λ (v : AtomicState). length v.cores) c.self.view_is in
    let within = c.requires in
    let lt : c.from.result < length cores = omega arith in
    let read = c.index.ensures ∙ get_or_default cores c.from.result c.index.result.now None lt in
    subst (λ (v : AtomicState). c.in-Some.atomic.0 < length v.contexts) c.self.view_is
    (c.self.invariant.named c.args.core.0 c.in-Some.atomic.0
    (subst (λ i. held_in cores i ≡ Some c.in-Some.atomic.0) number (ap atomic_number (sym read ∙ c.in-Some.is))))
