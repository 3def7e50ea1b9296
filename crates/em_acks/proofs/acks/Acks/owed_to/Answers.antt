use Rattle.std.proofs.Common.{◌≤◌, length, ap, sym, ◌∙◌, subst}
use Rattle.std.proofs.lemmas.Bool.{ltb-true, ltb-false}
use Rattle.em_acks.specs.State.{AckState, owed_at}
use Rattle.em_acks.specs.Slots.{slot_at}
use Rattle.em_acks.proofs.Slots.{Slots, slot-past, read-slot, owed_of, find-slot}
use Rattle.em_acks.proofs.acks.Acks.owed_to.Goals as goal

pub returns-in-Some-slot : goal.returns-in-Some-slot
returns-in-Some-slot c =
    let items = c.self.inside.begun.items in
    let core = c.args.core.0 in
    let op = c.args.op.0 in
    let lt = ltb-true c.from.result (length c.deref.result.now) (sym c.in-Some.ensures.lookup.0) in
    let slot = read-slot c.deref.result.now c.from.result op c.in-Some.slot.now c.from.ensures lt c.in-Some.ensures.lookup.1 in
    c.owed.ensures
    ∙ (ap (owed_of core) (sym (find-slot items c.self.invariant.indexed.numbered op ∙ (ap (λ (l : Slots). slot_at l op) (sym c.deref.ensures.value) ∙ (slot ∙ c.in-Some-slot.is))))
    ∙ ap (λ (v : AckState). owed_at v core op) c.self.view_is)

pub returns-in-None-slot : goal.returns-in-None-slot
returns-in-None-slot c =
    let items = c.self.inside.begun.items in
    let core = c.args.core.0 in
    let op = c.args.op.0 in
    let lt = ltb-true c.from.result (length c.deref.result.now) (sym c.in-Some.ensures.lookup.0) in
    let slot = read-slot c.deref.result.now c.from.result op c.in-Some.slot.now c.from.ensures lt c.in-Some.ensures.lookup.1 in
    ap (owed_of core) (sym (find-slot items c.self.invariant.indexed.numbered op ∙ (ap (λ (l : Slots). slot_at l op) (sym c.deref.ensures.value) ∙ (slot ∙ c.in-None-slot.is))))
    ∙ ap (λ (v : AckState). owed_at v core op) c.self.view_is

pub returns-in-None : goal.returns-in-None
returns-in-None c =
    let items = c.self.inside.begun.items in
    let core = c.args.core.0 in
    let op = c.args.op.0 in
    let past = subst (λ k. length c.deref.result.now ≤ k) c.from.ensures (ltb-false c.from.result (length c.deref.result.now) (sym c.in-None.ensures.lookup.0)) in
    ap (owed_of core) (sym (find-slot items c.self.invariant.indexed.numbered op ∙ (ap (λ (l : Slots). slot_at l op) (sym c.deref.ensures.value) ∙ slot-past c.deref.result.now op past)))
    ∙ ap (λ (v : AckState). owed_at v core op) c.self.view_is
