use Rattle.std.proofs.Common.{◌≡◌, ◌+◌, ◌<◌, true, false, get_or, set, map, length, count_by, ap, sym, ◌∙◌, arith}
use Rattle.std.proofs.lemmas.List.{get_or_read}
use Rattle.std.proofs.lemmas.List.Sums.{count_by-le-length}
use Rattle.em_pool.specs.State.{fresh, is_slot_held_by}
use Rattle.em_pool.specs.Changes.{lost_now, lost_slot}
use Rattle.em_pool.proofs.HeldEvents.{found-within, found-held, end-same, held-less, count-less, IsOver, none-left}
use Rattle.em_pool.proofs.holders.lose_held.Goals as goal

found : (c : goal.After-from) → get_or (map (is_slot_held_by c.args.core.0) c.events.slots) c.in-Some.index false ≡ true
found c = ap (λ s. get_or s c.in-Some.index false) (sym c.events.invariant.held) ∙ c.in-Some.ensures.1

pub bounds-slots-from : goal.bounds-slots-from
bounds-slots-from c = let lt = found-within c.args.core.0 c.in-Some.index c.events.slots (found c) in let at = c.from.ensures in omega arith

is_held : (c : goal.After-put) → is_slot_held_by c.args.core.0 (get_or c.events.slots c.in-Some.index fresh) ≡ true
is_held c = found-held c.args.core.0 c.in-Some.index c.events.slots (ap (λ s. get_or s c.in-Some.index false) (sym c.events.invariant.held) ∙ c.in-Some.ensures.1)

within : (c : goal.After-put) → c.in-Some.index < length c.events.slots
within c = found-within c.args.core.0 c.in-Some.index c.events.slots (ap (λ s. get_or s c.in-Some.index false) (sym c.events.invariant.held) ∙ c.in-Some.ensures.1)

slots_are : (c : goal.After-put) → set c.events.slots c.from.result c.lose.new.slot
    ≡ set c.events.slots c.in-Some.index (lost_now c.args.place (get_or c.events.slots c.in-Some.index fresh))
slots_are c =
    let lt = within c in
    let at = c.from.ensures in
    let read = get_or_read c.events.slots c.from.result c.index-slots-from.result (omega arith) c.index-slots-from.is fresh in
    let slot = sym c.index-slots-from.is ∙ (read ∙ ap (λ i. get_or c.events.slots i fresh) at) in
    λ k. set c.events.slots (at k) ((c.lose.ensures ∙ ap (lost_now c.args.place) slot) k)

fewer : (c : goal.After-put) → count_by (is_slot_held_by c.args.core.0) (set c.events.slots c.from.result c.lose.new.slot) + 1
    ≡ count_by (is_slot_held_by c.args.core.0) c.events.slots
fewer c = ap (λ s. count_by (is_slot_held_by c.args.core.0) s + 1) (slots_are c)
    ∙ count-less c.args.core.0 c.args.place c.in-Some.index c.events.slots (within c) (is_held c)

pub overflow_add-lost : goal.overflow_add-lost
overflow_add-lost c =
    let one = fewer c in
    let all = c.events.invariant.lost in
    let most = count_by-le-length (is_slot_held_by c.args.core.0) c.args.slots.now in
    let few = c.requires.few in omega arith

pub events-smaller : goal.events-smaller
events-smaller c = let one = fewer c in omega arith

pub events-preserved : goal.events-preserved
events-preserved c = record {
  held = c.put.ensures ∙ (ap (λ s. set s c.in-Some.index false) c.events.invariant.held
      ∙ (sym (held-less c.args.core.0 c.args.place c.in-Some.index c.events.slots) ∙ ap (map (is_slot_held_by c.args.core.0)) (sym (slots_are c))));
  slots = ap (map (lost_slot c.args.core.0 c.args.place)) (slots_are c)
      ∙ (end-same c.args.core.0 c.args.place c.in-Some.index c.events.slots (is_held c) ∙ c.events.invariant.slots);
  lost = let one = fewer c in let all = c.events.invariant.lost in omega arith;
}

over : (c : goal.In_default) → IsOver c.args.core.0 c.args.place c.events.slots
over c = none-left c.args.core.0 c.args.place c.events.slots
    (λ k. ap (λ s. get_or s k false) (sym c.events.invariant.held) ∙ c.in_default.ensures k (omega arith))

pub returns-clause-slots : goal.returns-clause-slots
returns-clause-slots c = sym (over c).same ∙ c.events.invariant.slots

pub returns-clause-held : goal.returns-clause-held
returns-clause-held c = c.events.invariant.held

pub returns-clause-count : goal.returns-clause-count
returns-clause-count c = let none = (over c).none in let all = c.events.invariant.lost in omega arith
