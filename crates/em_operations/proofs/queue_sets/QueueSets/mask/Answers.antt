use Rattle.std.proofs.Common.{◌≡◌, ℕ, get_or, refl, subst}
use Rattle.em_operations.proofs.AllowedQueues.{masked}
use Rattle.em_operations.proofs.queue_sets.QueueSets.mask.Goals as goal

pub returns : goal.returns
returns c = λ k objects groups s st of mask.
    let v = c.args.self.now in
    let set = c.index.result.now in
    masked k v _ set objects groups s c.args.group.0 c.args.mask.0 st c.requires.group
    (subst (λ (i : ℕ). set ≡ get_or v.of_group.items i set) c.from.ensures c.index.ensures) of mask refl refl refl refl c.rebar.ensures.count c.rebar.ensures.sets
