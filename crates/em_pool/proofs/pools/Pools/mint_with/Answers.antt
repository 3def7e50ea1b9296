use Rattle.std.proofs.Common.{◌≡◌, ◌∙◌, ℕ, ◌<◌, length, get_or, set, ap, sym, subst, arith, true, false, refl}
use Rattle.em_log.specs.Declarations.{event_total}
use Rattle.em_pool.specs.declared.place.Place.{Place}
use Rattle.em_pool.specs.declared.slot.Slot.{Slot}
use Rattle.em_pool.specs.State.{PoolState, fresh, place_at, is_held_by, is_slot_held_by}
use Rattle.em_pool.specs.Whole.{AreHeld, put_held}
use Rattle.em_pool.proofs.HeldEvents.{held-put, held-within}
use Rattle.em_pool.proofs.Numbers.{eq_test, ne_test}
use Rattle.em_pool.proofs.Spending.{not_held_by}
use Rattle.em_pool.proofs.WholeLemmas.{whole-put, read-generation}
use Rattle.em_pool.proofs.pools.Pools.mint_with.Goals as goal

within : (c : goal.After-handle-2) → c.from.result < length c.self.inside.slots.items
within c =
    let lt = c.requires.index in
    let events = c.self.invariant.events in
    let pools = ap (λ (v : PoolState). event_total v.pools) c.self.view_is in
    let at = c.from.ensures in omega arith

pub put_held-requires : goal.put_held-requires
put_held-requires c = λ has.
    let lt = c.requires.index in
    let events = c.self.invariant.events in
    let pools = ap (λ (v : PoolState). event_total v.pools) c.self.view_is in
    held-within c.self.inside.held.items c.self.inside.slots.items c.self.invariant.held_are c.args.core.0 c.args.index (omega arith) has

not_held_before : (c : goal.After-handle-2) (d : ℕ) → is_slot_held_by d (get_or c.self.inside.slots.items c.from.result fresh) ≡ false
not_held_before c d =
    ap (λ (v : PoolState). is_held_by d (place_at v c.from.result)) c.self.view_is
    ∙ (ap (λ i. is_held_by d (place_at c.args.self.now i)) c.from.ensures ∙ not_held_by d (place_at c.args.self.now c.args.index) c.requires.unheld)

held_are : (c : goal.After-handle-2) (x : Slot) → x.place ≡ Place.Held c.args.core
    → AreHeld c.put_held.new.held.items (set c.self.inside.slots.items c.from.result x)
held_are c x at =
    subst (λ h. AreHeld h (set c.self.inside.slots.items c.from.result x))
    (sym (c.put_held.ensures ∙ ap (λ i. put_held c.args.core.0 i true c.self.inside.held.items) (sym c.from.ensures)))
    (held-put c.self.inside.held.items c.self.inside.slots.items c.self.invariant.held_are c.args.core.0 c.from.result x true
    (sym (ap (is_held_by c.args.core.0) at ∙ eq_test c.args.core.0 c.args.core.0 refl))
    (λ d ne. ap (is_held_by d) at ∙ (ne_test c.args.core.0 d (λ e. ne (sym e)) ∙ sym (not_held_before c d))))

pub invariant_of-self : goal.invariant_of-self
invariant_of-self c =
    let enough = c.self.invariant.enough in
    let kept = c.keep.ensures.room in
    whole-put c.self.invariant c.from.result _ _ _ _ false c.put.new.self
    (within c) refl (c.put.ensures ∙ ap (λ i. set c.self.inside.free i false) (sym c.from.ensures))
    (let g = read-generation c.self.invariant c.from.result c.index_mut-slot.result.now (within c) c.index_mut-slot.ensures.value in omega arith)
    (omega arith) (omega arith) c.put_held.new.held.items (held_are c _ refl)
