use Rattle.std.proofs.Common.{◌∷◌, length, ap, sym, subst, arith}
use Rattle.std.proofs.lemmas.Grind.{common_steps}
use Rattle.em_pool.specs.Stands.{Stands}
use Rattle.em_pool.specs.State.{PoolState}
use Rattle.em_pool.specs.Steps.{Lost}
use Rattle.em_pool.proofs.HeldEvents.{held-lost, held-lost_past}
use Rattle.em_pool.proofs.Losing.{lost-stands}
use Rattle.em_pool.proofs.WholeLemmas.{whole-lost}
use Rattle.em_pool.proofs.pools.Pools.lose.Goals as goal

pub invariant_of-self : goal.invariant_of-self
invariant_of-self c =
    whole-lost c.self.invariant c.args.core.0 c.args.place _ (grind (arith, common_steps)) _
    (held-lost c.self.inside.held.items c.self.inside.slots.items c.self.invariant.held_are c.args.core.0 c.args.place c.from-number.result
    c.lose_held.new.held _ c.from-number.ensures (grind (arith, common_steps)) (grind (arith, common_steps)))

pub invariant_of-self-else-number-len : goal.invariant_of-self-else-number-len
invariant_of-self-else-number-len c =
    whole-lost c.self.invariant c.args.core.0 c.args.place _ (grind (arith, common_steps)) _
    (held-lost_past c.self.inside.held.items c.self.inside.slots.items c.self.invariant.held_are c.args.core.0 c.args.place _ (grind (arith, common_steps)) (grind (arith, common_steps)))

pub returns-then-number-len-clause-value : goal.returns-then-number-len-clause-value
returns-then-number-len-clause-value c = grind (arith, common_steps)

pub returns-else-number-len-clause-value : goal.returns-else-number-len-clause-value
returns-else-number-len-clause-value c = grind (arith, common_steps)

pub returns-then-number-len-clause-stands : goal.returns-then-number-len-clause-stands
returns-then-number-len-clause-stands c = λ s stands.
    let slots = ap (λ (v : PoolState). length v.slots) c.self.view_is in
    let events = c.self.invariant.events in
    let few = c.self.invariant.few in
    subst (λ v. Stands v (Lost c.args.core.0 c.args.place ∷ s)) (sym (returns-then-number-len-clause-value c))
    (lost-stands stands c.args.core.0 c.args.place (omega arith))

pub returns-else-number-len-clause-stands : goal.returns-else-number-len-clause-stands
returns-else-number-len-clause-stands c = λ s stands.
    let slots = ap (λ (v : PoolState). length v.slots) c.self.view_is in
    let events = c.self.invariant.events in
    let few = c.self.invariant.few in
    subst (λ v. Stands v (Lost c.args.core.0 c.args.place ∷ s)) (sym (returns-else-number-len-clause-value c))
    (lost-stands stands c.args.core.0 c.args.place (omega arith))
