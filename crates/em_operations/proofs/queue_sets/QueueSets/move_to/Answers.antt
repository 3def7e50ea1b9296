use Rattle.std.proofs.Common.{◌≡◌, ◌∙◌, ℕ, get_or, ap, subst}
use Rattle.em_queues.specs.Sets.{contains}
use Rattle.em_operations.specs.QueueSets.{put_as}
use Rattle.em_operations.proofs.AllowedQueues.{moved}
use Rattle.em_operations.proofs.queue_sets.QueueSets.move_to.Goals as goal

pub returns : goal.returns
returns c = λ k objects groups st.
    let v = c.args.self.now in
    let set = c.index-queues.result.now in
    moved k v set c.set_to-self.result objects groups c.args.eo.0 c.args.to st c.requires
    (subst (λ (i : ℕ). set ≡ get_or v.of_object.items i set) c.from.ensures c.index-queues.ensures)
    (λ q. c.set_to-self.ensures q ∙ ap (λ b. put_as (contains set q) b (contains v.running q)) c.is_running.ensures)
