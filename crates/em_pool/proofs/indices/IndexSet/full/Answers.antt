use Rattle.std.proofs.Common.{ap, ◌∙◌, true, set}
use Rattle.em_pool.proofs.IndexLemmas.{fill-step}
use Rattle.em_pool.proofs.indices.IndexSet.full.Goals as goal

pub loop-index-preserved : goal.loop-index-preserved
loop-index-preserved c =
    c.put.ensures ∙ (ap (λ s. set s c.loop-index.index true) c.loop-index.invariant ∙ fill-step c.args.size c.loop-index.index c.loop-index-test.true)
