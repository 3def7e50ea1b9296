use Rattle.std.proofs.Common.{ap, ◌∙◌}
use Rattle.em_pool.proofs.OlderLemmas.{same_lookups}
use Rattle.em_pool.proofs.older.Older.reserve.Goals as goal

pub returns-clause-spent : goal.returns-clause-spent
returns-clause-spent c = same_lookups _ _ c.reserve.ensures.entries.2 ∙ ap (λ o. o.spent) c.self.view_is
