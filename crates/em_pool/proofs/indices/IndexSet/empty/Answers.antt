use Rattle.std.proofs.Common.{ap, ◌∙◌, ◌/◌, ◌+◌}
use Rattle.em_pool.specs.Indices.{members}
use Rattle.em_pool.proofs.IndexLemmas.{members-zero}
use Rattle.em_pool.proofs.indices.IndexSet.empty.Goals as goal

pub returns-in-Ok : goal.returns-in-Ok
returns-in-Ok c =
    ap (members c.args.size) (c.in-Ok.ensures.items_if_clones_equal (λ y e. e)) ∙ members-zero c.args.size ((c.from.result + 63) / 64)
