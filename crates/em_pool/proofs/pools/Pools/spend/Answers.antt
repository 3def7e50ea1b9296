use Rattle.std.proofs.Common.{◌≡◌, ◌≢◌, ◌∙◌, ℕ, ◌<◌, false, ◌∷◌, length, get_or, set, refl, ap, sym, subst, arith}
use Rattle.std.proofs.lemmas.Grind.{common_steps}
use Rattle.em_pool.specs.Stands.{Stands}
use Rattle.em_pool.specs.Steps.{Spent}
use Rattle.em_pool.specs.declared.slot.Slot.{Slot}
use Rattle.em_pool.specs.Handles.{place_of_spend}
use Rattle.em_pool.specs.State.{PoolState, fresh, place_at, is_held_by, is_slot_held_by}
use Rattle.em_pool.specs.Whole.{AreHeld, put_held}
use Rattle.em_log.specs.History.{index_of}
use Rattle.em_pool.proofs.HeldEvents.{held-put, held-within, usable-others}
use Rattle.em_pool.proofs.Spending.{not_held_by, unheld_spend, owned, spent-stands}
use Rattle.em_pool.proofs.Reading.{minted-within, usable-minted}
use Rattle.em_pool.proofs.WholeLemmas.{whole-put, read-generation}
use Rattle.em_pool.proofs.pools.Pools.spend.Goals as goal

within : (c : goal.After-put_held) → c.from.result < length c.self.inside.slots.items
within c =
    let lt = minted-within c.args.self.now c.args.word (usable-minted c.args.self.now c.args.core.0 c.args.word c.requires) in
    let slots = ap (λ (v : PoolState). length v.slots) c.self.view_is in
    let at = c.from.ensures in omega arith

pub put_held-requires : goal.put_held-requires
put_held-requires c = λ has.
    let lt = minted-within c.args.self.now c.args.word (usable-minted c.args.self.now c.args.core.0 c.args.word c.requires) in
    let slots = ap (λ (v : PoolState). length v.slots) c.self.view_is in
    held-within c.self.inside.held.items c.self.inside.slots.items c.self.invariant.held_are c.args.core.0 (index_of c.args.word) (omega arith) has

not_held_now : (c : goal.After-put_held) (d : ℕ) → is_held_by d c.place_after-slot.result ≡ false
not_held_now c d = ap (is_held_by d) c.place_after-slot.ensures ∙ not_held_by d (place_of_spend c.args.how) (unheld_spend c.args.how)

not_held_before : (c : goal.After-put_held) (d : ℕ) → d ≢ c.args.core.0 → is_slot_held_by d (get_or c.self.inside.slots.items c.from.result fresh) ≡ false
not_held_before c d ne =
    ap (λ (v : PoolState). is_held_by d (place_at v c.from.result)) c.self.view_is
    ∙ (ap (λ i. is_held_by d (place_at c.args.self.now i)) c.from.ensures ∙ usable-others c.args.self.now c.args.core.0 d c.args.word c.requires ne)

held_are : (c : goal.After-put_held) (x : Slot) → x.place ≡ c.place_after-slot.result
    → AreHeld c.put_held.new.held.items (set c.self.inside.slots.items c.from.result x)
held_are c x at =
    subst (λ h. AreHeld h (set c.self.inside.slots.items c.from.result x))
    (sym (c.put_held.ensures ∙ ap (λ i. put_held c.args.core.0 i false c.self.inside.held.items) (sym c.from.ensures)))
    (held-put c.self.inside.held.items c.self.inside.slots.items c.self.invariant.held_are c.args.core.0 c.from.result x false
    (sym (ap (is_held_by c.args.core.0) at ∙ not_held_now c c.args.core.0))
    (λ d ne. ap (is_held_by d) at ∙ (not_held_now c d ∙ sym (not_held_before c d ne))))

pub invariant_of-self : goal.invariant_of-self
invariant_of-self c =
    whole-put c.self.invariant c.from.result c.self.inside.mintings c.self.inside.spare c.self.inside.older.room _ c.is_free-2.result c.put.new.self
    (within c) c.is_free-2.ensures (c.put.ensures ∙ ap (λ i. set c.self.inside.free i c.is_free-2.result) (sym c.from.ensures))
    (read-generation c.self.invariant c.from.result c.index_mut-slot.result.now (within c) c.index_mut-slot.ensures.value)
    (omega arith) c.self.invariant.enough c.put_held.new.held.items (held_are c _ refl)

pub returns-clause-value : goal.returns-clause-value
returns-clause-value c = grind (arith, common_steps)

pub returns-clause-stands : goal.returns-clause-stands
returns-clause-stands c = λ s stands.
    subst (λ v. Stands v (Spent c.args.core.0 c.args.word c.args.how c.args.place ∷ s)) (sym (returns-clause-value c)) (spent-stands stands c.args.core.0 c.args.word c.args.how c.args.place (owned _ s c.args.core.0 c.args.word stands c.requires))
