use Rattle.std.proofs.Common.{◌≡◌, ◌∙◌, ℕ, ◌<◌, ◌∷◌, length, get_or, set, ap, sym, subst, arith}
use Rattle.std.proofs.lemmas.Grind.{common_steps}
use Rattle.em_pool.specs.Stands.{Stands}
use Rattle.em_pool.specs.State.{PoolState, fresh, place_at, is_held_by, is_slot_held_by}
use Rattle.em_pool.specs.Steps.{Shifted}
use Rattle.em_log.specs.Declarations.{event_total}
use Rattle.em_pool.proofs.Shifting.{unheld_target, unheld_source, shifted-stands}
use Rattle.em_pool.proofs.Spending.{not_held_by}
use Rattle.em_pool.proofs.HeldEvents.{held-same}
use Rattle.em_pool.proofs.WholeLemmas.{whole-put, read-generation}
use Rattle.em_pool.proofs.pools.Pools.shift.Goals as goal

within : (c : goal.After-put) → c.from.result < length c.self.inside.slots.items
within c =
    let lt = c.requires.index in
    let events = c.self.invariant.events in
    let pools = ap (λ (v : PoolState). event_total v.pools) c.self.view_is in
    let at = c.from.ensures in omega arith

-- no core holds the event, before or after
held_as_before : (c : goal.After-put) → (d : ℕ) → is_held_by d c.args.to ≡ is_slot_held_by d (get_or c.self.inside.slots.items c.from.result fresh)
held_as_before c d =
    not_held_by d c.args.to (unheld_target c.args.to c.requires.to)
    ∙ sym (ap (λ (v : PoolState). is_held_by d (place_at v c.from.result)) c.self.view_is
    ∙ (ap (λ i. is_held_by d (place_at c.args.self.now i)) c.from.ensures
    ∙ not_held_by d (place_at c.args.self.now c.args.index) (unheld_source (place_at c.args.self.now c.args.index) c.requires.from)))

pub invariant_of-self : goal.invariant_of-self
invariant_of-self c =
    whole-put c.self.invariant c.from.result c.self.inside.mintings c.self.inside.spare c.self.inside.older.room _ c.is_free.result c.put.new.self
    (within c) c.is_free.ensures (c.put.ensures ∙ ap (λ i. set c.self.inside.free i c.is_free.result) (sym c.from.ensures))
    (read-generation c.self.invariant c.from.result c.index_mut.result.now (within c) c.index_mut.ensures.value)
    (omega arith) c.self.invariant.enough c.self.inside.held.items
    (held-same c.self.inside.held.items c.self.inside.slots.items c.self.invariant.held_are c.from.result _ (held_as_before c))

pub returns-clause-value : goal.returns-clause-value
returns-clause-value c = grind (arith, common_steps)

pub returns-clause-stands : goal.returns-clause-stands
returns-clause-stands c = λ s stands.
    let lt = within c in
    let slots = ap (λ (v : PoolState). length v.slots) c.self.view_is in
    let at = c.from.ensures in
    subst (λ v. Stands v (Shifted c.args.index c.args.to ∷ s)) (sym (returns-clause-value c))
    (shifted-stands stands c.args.index c.args.to (omega arith) c.requires.from c.requires.to)
