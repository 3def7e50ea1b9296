use Rattle.std.proofs.Common.{ap, ◌∙◌}
use Rattle.std.specs.FinMap as map
use Rattle.em_pool.proofs.OlderLemmas.{lookup-get}
use Rattle.em_pool.proofs.older.Older.get.Goals as goal

pub returns : goal.returns
returns c =
    c.copied.ensures ∙ (c.get.ensures.value
    ∙ (lookup-get c.args.handle c.self.inside.spent.entries ∙ ap (λ o. map.get o.spent c.args.handle) c.self.view_is))
