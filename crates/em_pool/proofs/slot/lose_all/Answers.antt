use Rattle.std.proofs.Common.{◌+◌, if◌then◌else◌, get_or, ap, sym, ◌∙◌}
use Rattle.std.proofs.lemmas.List.Sums.{count_by_more_yes, count_by_more_no}
use Rattle.em_pool.specs.State.{is_slot_held_by}
use Rattle.em_pool.specs.Changes.{lost_now, lost_slot}
use Rattle.em_pool.proofs.ListLemmas.{mapped_read, mapped_step}
use Rattle.em_pool.proofs.slot.lose_all.Goals as goal
use Rattle.em_pool.proofs.slot.lose_all.Goals.{then-is_held, else-is_held}

pub loop-slot-preserved : goal.loop-slot-preserved
loop-slot-preserved c =
    let xs = c.args.slots.now in
    let i = c.loop-slot.slot-index in
    let d = c.slot-item.result in
    let old = get_or c.loop-slot.slots i d in
    let f = lost_slot c.args.core.0 c.args.place in
    let p = is_slot_held_by c.args.core.0 in
    let lt = c.loop-slot-test.true in
    let held = c.is_held.ensures ∙ ap p (mapped_read f xs _ i d lt c.loop-slot.invariant.slots) in
    let put = mapped_step f xs _ i d lt c.loop-slot.invariant.slots in
    elim c.if-is_held.branch [
      | then-is_held w ↦ record {
        slots = w.slots-is ∙ put w.lose.new.slot
            (w.lose.ensures ∙ ap (λ b. if b then lost_now c.args.place old else old) (sym w.if-is_held.true ∙ c.is_held.ensures));
        lost = w.lost-is ∙ (ap (λ n. n + 1) c.loop-slot.invariant.lost ∙ sym (count_by_more_yes p xs i d lt (sym held ∙ w.if-is_held.true)));
      }
      | else-is_held w ↦ record {
        slots = w.slots-is ∙ put old (ap (λ b. if b then lost_now c.args.place old else old) (sym w.if-is_held.false ∙ c.is_held.ensures));
        lost = w.lost-is ∙ (c.loop-slot.invariant.lost ∙ sym (count_by_more_no p xs i d lt (sym held ∙ w.if-is_held.false)));
      }
    ]
