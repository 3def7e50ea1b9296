use Rattle.std.proofs.Common.{◌<◌, ap, sym, ◌∙◌, subst}
use Rattle.std.specs.FinMap as map
use Rattle.em_pool.proofs.OlderLemmas.{put_lookups, when_ok}
use Rattle.em_pool.proofs.older.Older.insert.Goals as goal

pub returns-clause-spent : goal.returns-clause-spent
returns-clause-spent c =
    let ok = c.insert.ensures.succeeds (subst (λ o. 0 < o.room) (sym c.self.view_is) c.requires) in
    let updates = when_ok c.insert.result ok c.insert.ensures.updates in
    put_lookups _ _ c.args.handle c.args.spent updates.0 ∙ ap (λ o. map.insert o.spent c.args.handle c.args.spent) c.self.view_is
